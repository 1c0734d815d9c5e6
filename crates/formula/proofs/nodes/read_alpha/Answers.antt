use Rattle.std.proofs.Common.{Some, sym, ap, ◌∙◌, refl}
use Rattle.std.proofs.lemmas.Result.{err_from_is_err_and}
use Rattle.words.specs.Words.{listed}
use Rattle.words.proofs.Readers.{no_word, walks_on, leaves_on, ok_or_some}
use Rattle.formula.specs.Braces.{inside, closed}
use Rattle.formula.specs.Rules.{alpha_word_of, in_braces}
use Rattle.formula.specs.Reading.{rules_of, due_alpha}
use Rattle.formula.proofs.Steps.{stops_none}
use Rattle.formula.proofs.NodeWalks.{alpha_unknown, alpha_opens, braces_walk, braces_leave}
use Rattle.formula.proofs.nodes.read_alpha.Goals as goal

pub returns-in_err-bytes-clause-reads : goal.returns-in_err-bytes-clause-reads
returns-in_err-bytes-clause-reads c =
    let p = err_from_is_err_and c.from_residual.result c.from_residual.ensures.1 in
    let names = listed c.args.names.variables.now in
    rw (p.1, p.2)
    (λ t ds before. no_word (rules_of c.args.names.vocabulary.now) (due_alpha t ds names before) c.args.reader.now c.word.new.self refl _ c.in_err-bytes.ensures.found)

pub returns-in_err-ok_or-clause-reads : goal.returns-in_err-ok_or-clause-reads
returns-in_err-ok_or-clause-reads c =
    let p = err_from_is_err_and c.from_residual-in_err-ok_or.result c.from_residual-in_err-ok_or.ensures.1 in
    let v = c.args.names.vocabulary.now in
    let names = listed c.args.names.variables.now in
    let found = c.in_ok-bytes.ensures.found in
    let word = c.brace_or_name.ensures.value ∙ ap (λ b. alpha_word_of b names) found.2 in
    rw (p.1, p.2)
    (λ t ds before. stops_none (rules_of v) c.args.reader.now.text.now (due_alpha t ds names before) c.args.reader.now.at c.brace_or_name.result _ _ c.in_err-ok_or.ensures.value c.word.new.self.at
    (λ none. alpha_unknown (listed v.actions) (listed v.properties) names c.args.reader.now.text.now before c.args.reader.now.at _ _ (found.0, found.1) t ds (none ∙ word)))

pub returns-in_err-read_braces-in-Brace-clause-reads : goal.returns-in_err-read_braces-in-Brace-clause-reads
returns-in_err-read_braces-in-Brace-clause-reads c =
    let p = err_from_is_err_and c.from_residual-in_err-read_braces-in-Brace.result c.from_residual-in_err-read_braces-in-Brace.ensures.1 in
    let v = c.args.names.vocabulary.now in
    let names = listed c.args.names.variables.now in
    let m = c.word.new.self in
    let found = c.in_ok-bytes.ensures.found in
    let word = sym (ok_or_some _ _ _ c.in_ok-ok_or.ensures.value ∙ ap Some c.in-Brace.is) ∙ c.brace_or_name.ensures.value ∙ ap (λ b. alpha_word_of b names) found.2 in
    rw (p.1, p.2)
    (λ t ds before. leaves_on (rules_of v) (due_alpha t ds names before) c.args.reader.now (in_braces t ds names before (inside 0)) m c.word.ensures.same
    (alpha_opens (listed v.actions) (listed v.properties) names c.args.reader.now.text.now before c.args.reader.now.at _ _ (found.0, found.1) t ds word) _ _ c.read_braces.new.reader
    (braces_leave (listed v.actions) (listed v.properties) names m.text.now before t ds (inside 0) m.at _ _ c.read_braces.new.reader.at c.in_err-read_braces-in-Brace.ensures.reads))

pub returns-in_ok-read_braces-in-Brace-clause-reads : goal.returns-in_ok-read_braces-in-Brace-clause-reads
returns-in_ok-read_braces-in-Brace-clause-reads c =
    let v = c.args.names.vocabulary.now in
    let names = listed c.args.names.variables.now in
    let m = c.word.new.self in
    let set = c.in_ok-read_braces-in-Brace.field-0 in
    let found = c.in_ok-bytes.ensures.found in
    let word = sym (ok_or_some _ _ _ c.in_ok-ok_or.ensures.value ∙ ap Some c.in-Brace.is) ∙ c.brace_or_name.ensures.value ∙ ap (λ b. alpha_word_of b names) found.2 in
    λ t ds before. walks_on (rules_of v) (due_alpha t ds names before) c.args.reader.now (in_braces t ds names before (inside 0)) m c.word.ensures.same
    (alpha_opens (listed v.actions) (listed v.properties) names c.args.reader.now.text.now before c.args.reader.now.at _ _ (found.0, found.1) t ds word) (in_braces t ds names before (closed set)) c.read_braces.new.reader
    (braces_walk (listed v.actions) (listed v.properties) names m.text.now before t ds (inside 0) m.at (closed set) c.read_braces.new.reader.at c.in_ok-read_braces-in-Brace.ensures.reads)
