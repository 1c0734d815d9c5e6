use Rattle.std.proofs.Common.{◌∷◌, ap, ◌∙◌, refl, arith, sym}
use Rattle.std.proofs.lemmas.Result.{err_from_is_err_and}
use Rattle.words.specs.Words.{listed}
use Rattle.words.proofs.Readers.{no_word, ok_or_some}
use Rattle.formula.specs.Heads.{head_of}
use Rattle.formula.specs.Reading.{rules_of, due_parts}
use Rattle.formula.proofs.Steps.{stops_none}
use Rattle.formula.proofs.NodeWalks.{head_unknown, head_deep, head_many, head_goes}
use Rattle.formula.proofs.nodes.read_head.Goals as goal

pub returns-in_err-bytes-clause-reads : goal.returns-in_err-bytes-clause-reads
returns-in_err-bytes-clause-reads c =
    let p = err_from_is_err_and c.from_residual.result c.from_residual.ensures.1 in
    rw (p.1, p.2)
    (λ ds names before is. no_word (rules_of c.args.vocabulary.now) (due_parts (c.args.depth ∷ ds) names before) c.args.reader.now c.word.new.self refl _ c.in_err-bytes.ensures.found)

pub returns-in_err-head-clause-reads : goal.returns-in_err-head-clause-reads
returns-in_err-head-clause-reads c =
    let p = err_from_is_err_and c.from_residual-in_err-head.result c.from_residual-in_err-head.ensures.1 in
    let properties = listed c.args.vocabulary.now.properties in
    let found = c.in_ok-bytes.ensures.found in
    let head = c.head_of.ensures ∙ ap (λ b. head_of b properties) found.2 in
    rw (p.1, p.2)
    (λ ds names before is. stops_none (rules_of c.args.vocabulary.now) c.args.reader.now.text.now (due_parts (c.args.depth ∷ ds) names before) c.args.reader.now.at c.head_of.result _ _ c.in_err-head.ensures.value c.word.new.self.at
    (λ none. head_unknown (listed c.args.vocabulary.now.actions) properties names c.args.reader.now.text.now before c.args.reader.now.at _ _ (found.0, found.1) c.args.depth ds (none ∙ head)))

pub returns-then-depth-gt-DEEPEST-clause-reads : goal.returns-then-depth-gt-DEEPEST-clause-reads
returns-then-depth-gt-DEEPEST-clause-reads c =
    let properties = listed c.args.vocabulary.now.properties in
    let found = c.in_ok-bytes.ensures.found in
    let head = sym (ok_or_some _ _ _ c.in_ok-head.ensures.value) ∙ c.head_of.ensures ∙ ap (λ b. head_of b properties) found.2 in
    λ ds names before is. head_deep (listed c.args.vocabulary.now.actions) properties names c.args.reader.now.text.now before c.args.reader.now.at _ _ (found.0, found.1) c.args.depth ds c.in_ok-head.head head c.if-depth-gt-DEEPEST.true

pub returns-then-used-ge-MOST_NODES-clause-reads : goal.returns-then-used-ge-MOST_NODES-clause-reads
returns-then-used-ge-MOST_NODES-clause-reads c =
    let properties = listed c.args.vocabulary.now.properties in
    let found = c.in_ok-bytes.ensures.found in
    let head = sym (ok_or_some _ _ _ c.in_ok-head.ensures.value) ∙ c.head_of.ensures ∙ ap (λ b. head_of b properties) found.2 in
    λ ds names before is. head_many (listed c.args.vocabulary.now.actions) properties names c.args.reader.now.text.now before c.args.reader.now.at _ _ (found.0, found.1) c.args.depth ds c.in_ok-head.head head (omega arith) (omega (arith, is))

pub returns-clause-reads : goal.returns-clause-reads
returns-clause-reads c =
    let properties = listed c.args.vocabulary.now.properties in
    let found = c.in_ok-bytes.ensures.found in
    let head = sym (ok_or_some _ _ _ c.in_ok-head.ensures.value) ∙ c.head_of.ensures ∙ ap (λ b. head_of b properties) found.2 in
    λ ds names before is. head_goes (listed c.args.vocabulary.now.actions) properties names c.args.reader.now.text.now before c.args.reader.now.at _ _ (found.0, found.1) c.args.depth ds c.in_ok-head.head head (omega arith) (omega (arith, is))
