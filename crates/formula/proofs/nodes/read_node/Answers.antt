use Rattle.std.proofs.Common.{◌∷◌, subst}
use Rattle.std.proofs.lemmas.Result.{err_from_is_err_and}
use Rattle.words.specs.Words.{listed}
use Rattle.words.specs.Walks.{Walks}
use Rattle.words.proofs.Readers.{walks_on, leaves_on}
use Rattle.formula.specs.Nodes.{arity}
use Rattle.formula.specs.Rules.{temporal_parts, below, put, begun}
use Rattle.formula.specs.Reading.{rules_of, due_parts, due_alpha}
use Rattle.formula.proofs.NodeWalks.{placed}
use Rattle.formula.proofs.nodes.read_node.Goals as goal

pub returns-in_err-read_alpha-in-Temporal-clause-reads : goal.returns-in_err-read_alpha-in-Temporal-clause-reads
returns-in_err-read_alpha-in-Temporal-clause-reads c =
    let p = err_from_is_err_and c.from_residual-in_err-read_alpha-in-Temporal.result c.from_residual-in_err-read_alpha-in-Temporal.ensures.1 in
    let rules = rules_of c.args.names.vocabulary.now in
    let names = listed c.args.names.variables.now in
    let r = c.args.reader.now in
    let m = c.read_head.new.reader in
    let t = c.in-Temporal.temporal in
    let d = c.args.depth in
    rw (p.1, p.2)
    (λ ds before is. leaves_on rules (due_parts (d ∷ ds) names before) r (due_alpha t (below (temporal_parts t) d ds) names before) m c.in_ok-node.ensures.same
    (subst (λ h. Walks rules r.text.now (due_parts (d ∷ ds) names before) r.at (begun h d ds names before) m.at) c.in-Temporal.is (c.in_ok-node.ensures.reads ds names before is)) _ _ c.read_alpha.new.reader
    (c.in_err-read_alpha-in-Temporal.ensures.reads t (below (temporal_parts t) d ds) before))

pub returns-in-Plain-clause-reads : goal.returns-in-Plain-clause-reads
returns-in-Plain-clause-reads c =
    let rules = rules_of c.args.names.vocabulary.now in
    let names = listed c.args.names.variables.now in
    let r = c.args.reader.now in
    let d = c.args.depth in
    λ ds before is. subst (λ h. Walks rules r.text.now (due_parts (d ∷ ds) names before) r.at (begun h d ds names before) c.read_head.new.reader.at) c.in-Plain.is (c.in_ok-node.ensures.reads ds names before is)

pub returns-in_ok-read_alpha-in-Temporal-clause-reads : goal.returns-in_ok-read_alpha-in-Temporal-clause-reads
returns-in_ok-read_alpha-in-Temporal-clause-reads c =
    let rules = rules_of c.args.names.vocabulary.now in
    let names = listed c.args.names.variables.now in
    let r = c.args.reader.now in
    let m = c.read_head.new.reader in
    let after = c.read_alpha.new.reader in
    let t = c.in-Temporal.temporal in
    let d = c.args.depth in
    let α = c.in_ok-read_alpha-in-Temporal.field-0 in
    λ ds before is. walks_on rules (due_parts (d ∷ ds) names before) r (due_alpha t (below (temporal_parts t) d ds) names before) m c.in_ok-node.ensures.same
    (subst (λ h. Walks rules r.text.now (due_parts (d ∷ ds) names before) r.at (begun h d ds names before) m.at) c.in-Temporal.is (c.in_ok-node.ensures.reads ds names before is))
    (put c.over.result (below (arity c.over.result) d ds) names before) after
    (subst (λ s. Walks rules m.text.now (due_alpha t (below (temporal_parts t) d ds) names before) m.at s after.at) (placed t α c.over.result c.over.ensures d ds names before)
    (c.in_ok-read_alpha-in-Temporal.ensures.reads t (below (temporal_parts t) d ds) before))
