use Rattle.std.proofs.Common.{◌*◌, ◌<◌, ◌≤◌, ap, ◌∙◌, refl, sym, subst, length}
use lib.ListN.{length-map}
use Rattle.std.proofs.lemmas.Result.{err_from_is_err_and}
use Rattle.words.specs.Words.{listed, counted, name_bytes}
use Rattle.words.proofs.Readers.{no_word, ok_or_some}
use Rattle.formula.specs.Rules.{formula_start}
use Rattle.formula.specs.Reading.{rules_of}
use Rattle.formula.proofs.Steps.{stops_none}
use Rattle.formula.proofs.NameWalks.{count_bad, count_many, count_goes}
use Rattle.formula.proofs.variables.read_count.Goals as goal

pub returns-in_err-word-clause-reads : goal.returns-in_err-word-clause-reads
returns-in_err-word-clause-reads c =
    let p = err_from_is_err_and c.from_residual.result c.from_residual.ensures.1 in
    rw (p.1, p.2) (no_word (rules_of c.args.vocabulary.now) formula_start c.args.reader.now c.word.new.self refl _ c.in_err-word.ensures.found)

pub returns-in_err-count-clause-reads : goal.returns-in_err-count-clause-reads
returns-in_err-count-clause-reads c =
    let p = err_from_is_err_and c.from_residual-in_err-count.result c.from_residual-in_err-count.ensures.1 in
    let found = c.in_ok-word.ensures.found in
    rw (p.1, p.2)
    (stops_none (rules_of c.args.vocabulary.now) c.args.reader.now.text.now formula_start c.args.reader.now.at _ _ _ c.in_err-count.ensures.value c.word.new.self.at
    (λ none. count_bad (listed c.args.vocabulary.now.actions) (listed c.args.vocabulary.now.properties) c.args.reader.now.text.now c.args.reader.now.at _ _ (found.0, found.1) (none ∙ ap (λ b. counted b 0 4) found.2)))

pub returns-then-as_slice-count-gt-MOST_BITS-clause-reads : goal.returns-then-as_slice-count-gt-MOST_BITS-clause-reads
returns-then-as_slice-count-gt-MOST_BITS-clause-reads c =
    let found = c.in_ok-word.ensures.found in
    let count = sym (ok_or_some _ _ _ c.in_ok-count.ensures.value) ∙ ap (λ b. counted b 0 4) found.2 in
    let many = ap length c.as_slice.ensures ∙ sym (length-map _ name_bytes) in
    count_many (listed c.args.vocabulary.now.actions) (listed c.args.vocabulary.now.properties) c.args.reader.now.text.now c.args.reader.now.at _ _ (found.0, found.1) c.in_ok-count.count count (subst (λ n. 12 < n * c.in_ok-count.count) many c.if-as_slice-count-gt-MOST_BITS.true)

pub returns-clause-reads : goal.returns-clause-reads
returns-clause-reads c =
    let found = c.in_ok-word.ensures.found in
    let count = sym (ok_or_some _ _ _ c.in_ok-count.ensures.value) ∙ ap (λ b. counted b 0 4) found.2 in
    let many = ap length c.as_slice.ensures ∙ sym (length-map _ name_bytes) in
    count_goes (listed c.args.vocabulary.now.actions) (listed c.args.vocabulary.now.properties) c.args.reader.now.text.now c.args.reader.now.at _ _ (found.0, found.1) c.in_ok-count.count count (subst (λ n. n * c.in_ok-count.count ≤ 12) many c.if-as_slice-count-gt-MOST_BITS.false)
