use Rattle.std.proofs.Common.{◌^◌, ◌<◌, Some, IfSome, sym, ap, ◌∙◌, subst, arith}
use lib.Bits.{bit_or, or_lt}
use Rattle.std.proofs.lemmas.Nat.{pow_below, one_shl}
use Rattle.std.proofs.lemmas.Result.{err_from_is_err_and}
use Rattle.words.specs.Words.{listed}
use Rattle.words.proofs.Readers.{walks_on, leaves_on, ok_or_some}
use Rattle.formula.specs.Braces.{Within, brace_word_of, brace_rules, inside, closed}
use Rattle.formula.proofs.Steps.{stops_none}
use Rattle.formula.proofs.BraceWalks.{brace_unknown, brace_empty, brace_again, brace_closes, brace_more}
use Rattle.formula.proofs.braces.read_braces.Goals as goal

pub returns-in_err-ok_or-clause-reads : goal.returns-in_err-ok_or-clause-reads
returns-in_err-ok_or-clause-reads c =
    let p = err_from_is_err_and c.from_residual-in_err-ok_or.result c.from_residual-in_err-ok_or.ensures.1 in
    let m = c.loop-bytes.reader in
    let actions = listed c.args.actions.now in
    let found = c.in_ok-bytes.ensures.found in
    let word = c.brace_or_name.ensures.value ∙ ap (λ b. brace_word_of b actions) found.2 in
    rw (p.1, p.2)
    (leaves_on (brace_rules actions) (inside 0) c.args.reader.now (inside c.loop-bytes.set) m c.loop-bytes.invariant.1 c.loop-bytes.invariant.2 _ _ c.word.new.self
    (stops_none (brace_rules actions) m.text.now (inside c.loop-bytes.set) m.at c.brace_or_name.result _ _ c.in_err-ok_or.ensures.value c.word.new.self.at
    (λ none. brace_unknown actions m.text.now c.loop-bytes.set m.at _ _ (found.0, found.1) (none ∙ word))))

pub returns-in-Brace-clause-reads : goal.returns-in-Brace-clause-reads
returns-in-Brace-clause-reads c =
    let m = c.loop-bytes.reader in
    let actions = listed c.args.actions.now in
    let found = c.in_ok-bytes.ensures.found in
    let word = sym (ok_or_some _ _ _ c.in_ok-ok_or.ensures.value ∙ ap Some c.in-Brace.is) ∙ c.brace_or_name.ensures.value ∙ ap (λ b. brace_word_of b actions) found.2 in
    leaves_on (brace_rules actions) (inside 0) c.args.reader.now (inside c.loop-bytes.set) m c.loop-bytes.invariant.1 c.loop-bytes.invariant.2 10 _ c.word.new.self
    (brace_empty actions m.text.now c.loop-bytes.set m.at _ _ (found.0, found.1) word c.if-set-eq0.true)

pub returns-in-Brace-2-clause-reads : goal.returns-in-Brace-2-clause-reads
returns-in-Brace-2-clause-reads c =
    let m = c.loop-bytes.reader in
    let actions = listed c.args.actions.now in
    let found = c.in_ok-bytes.ensures.found in
    let word = sym (ok_or_some _ _ _ c.in_ok-ok_or.ensures.value ∙ ap Some c.in-Brace-2.is) ∙ c.brace_or_name.ensures.value ∙ ap (λ b. brace_word_of b actions) found.2 in
    walks_on (brace_rules actions) (inside 0) c.args.reader.now (inside c.loop-bytes.set) m c.loop-bytes.invariant.1 c.loop-bytes.invariant.2 (closed c.loop-bytes.set) c.word.new.self
    (brace_closes actions m.text.now c.loop-bytes.set m.at _ _ (found.0, found.1) word c.if-set-eq0.false)

pub returns-in-Name-clause-reads : goal.returns-in-Name-clause-reads
returns-in-Name-clause-reads c =
    let m = c.loop-bytes.reader in
    let actions = listed c.args.actions.now in
    let found = c.in_ok-bytes.ensures.found in
    let word = sym (ok_or_some _ _ _ c.in_ok-ok_or.ensures.value ∙ ap Some c.in-Name.is) ∙ c.brace_or_name.ensures.value ∙ ap (λ b. brace_word_of b actions) found.2 in
    leaves_on (brace_rules actions) (inside 0) c.args.reader.now (inside c.loop-bytes.set) m c.loop-bytes.invariant.1 c.loop-bytes.invariant.2 10 _ c.word.new.self
    (brace_again actions m.text.now c.loop-bytes.set m.at _ _ (found.0, found.1) c.in-Name.a word (sym c.if-has.ensures))

pub loop-bytes-preserved : goal.loop-bytes-preserved
loop-bytes-preserved c =
    let m = c.loop-bytes.reader in
    let actions = listed c.args.actions.now in
    let a = c.in-Name.a in
    let found = c.in_ok-bytes.ensures.found in
    let said = ok_or_some _ _ _ c.in_ok-ok_or.ensures.value ∙ ap Some c.in-Name.is in
    let word = sym said ∙ c.brace_or_name.ensures.value ∙ ap (λ b. brace_word_of b actions) found.2 in
    let few : a < 12 = subst (λ o. IfSome o (Within 12)) said c.brace_or_name.ensures.range in
    rw (one_shl a 64 (omega arith)) (
      or_lt 12 c.loop-bytes.set (2 ^ a) c.loop-bytes.invariant.0 (pow_below a 12 few),
      c.word.ensures.same ∙ c.loop-bytes.invariant.1,
      walks_on (brace_rules actions) (inside 0) c.args.reader.now (inside c.loop-bytes.set) m c.loop-bytes.invariant.1 c.loop-bytes.invariant.2 (inside (bit_or c.loop-bytes.set (2 ^ a))) c.word.new.self (brace_more actions m.text.now c.loop-bytes.set m.at _ _ (found.0, found.1) a word (sym c.if-has.ensures)),
    )
