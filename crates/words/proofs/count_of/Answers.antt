use Rattle.std.proofs.Common.{◌≡◌, ◌+◌, ◌-◌, ◌*◌, get_or, drop, Some, None, sym, ap, ◌∙◌, arith}
use Rattle.std.proofs.lemmas.List.{drop_more, drop_all}
use Rattle.std.proofs.lemmas.Bool.Decides.{nat_tests}
use Rattle.words.specs.Words.{decimal, limited}
use Rattle.words.proofs.Steps.{past, digit_more, digit_none}
use Rattle.words.proofs.count_of.Goals as goal

pub returns-then-not-is_ascii_digit-clause-value : goal.returns-then-not-is_ascii_digit-clause-value
returns-then-not-is_ascii_digit-clause-value c =
    let e = ap (λ bs. limited c.args.low c.args.high (decimal c.loop-b.n bs)) (drop_more c.args.word.now c.loop-b.b-index 0 (omega arith)) in
    let d = ap (limited c.args.low c.args.high) (digit_none c.loop-b.n (get_or c.args.word.now c.loop-b.b-index 0) (drop (c.loop-b.b-index + 1) c.args.word.now) (sym c.is_ascii_digit.ensures.value ∙ c.if-not-is_ascii_digit.true)) in
    sym d ∙ sym e ∙ c.loop-b.invariant.1

pub returns-then-n-high : goal.returns-then-n-high
returns-then-n-high c =
    let e = ap (λ bs. limited c.args.low c.args.high (decimal c.loop-b.n bs)) (drop_more c.args.word.now c.loop-b.b-index 0 (omega arith)) in
    let d = ap (limited c.args.low c.args.high) (digit_more c.loop-b.n (get_or c.args.word.now c.loop-b.b-index 0) (drop (c.loop-b.b-index + 1) c.args.word.now) (sym c.is_ascii_digit.ensures.value ∙ c.if-not-is_ascii_digit.false)) in
    let p = past c.args.low c.args.high (c.loop-b.n * 10 + (get_or c.args.word.now c.loop-b.b-index 0 - 48)) (drop (c.loop-b.b-index + 1) c.args.word.now) (omega arith) in
    record { value = sym p ∙ sym d ∙ sym e ∙ c.loop-b.invariant.1; range = tt }

pub loop-b-preserved : goal.loop-b-preserved
loop-b-preserved c =
    let e = ap (λ bs. limited c.args.low c.args.high (decimal c.loop-b.n bs)) (drop_more c.args.word.now c.loop-b.b-index 0 (omega arith)) in
    let d = ap (limited c.args.low c.args.high) (digit_more c.loop-b.n (get_or c.args.word.now c.loop-b.b-index 0) (drop (c.loop-b.b-index + 1) c.args.word.now) (sym c.is_ascii_digit.ensures.value ∙ c.if-not-is_ascii_digit.false)) in
    (omega arith, sym d ∙ sym e ∙ c.loop-b.invariant.1)

pub returns-then-n-low : goal.returns-then-n-low
returns-then-n-low c =
    let e = ap (λ bs. limited c.args.low c.args.high (decimal c.loop-b.n bs)) (drop_all c.loop-b.b-index c.args.word.now (omega arith)) in
    let l : None ≡ limited c.args.low c.args.high (Some c.loop-b.n) = grind (arith, nat_tests) in
    record { value = l ∙ sym e ∙ c.loop-b.invariant.1; range = tt }

pub returns-else-n-low : goal.returns-else-n-low
returns-else-n-low c =
    let e = ap (λ bs. limited c.args.low c.args.high (decimal c.loop-b.n bs)) (drop_all c.loop-b.b-index c.args.word.now (omega arith)) in
    let l : Some c.loop-b.n ≡ limited c.args.low c.args.high (Some c.loop-b.n) = grind (arith, nat_tests) in
    record { value = l ∙ sym e ∙ c.loop-b.invariant.1; range = (c.if-n-low.false, c.loop-b.invariant.0) }
