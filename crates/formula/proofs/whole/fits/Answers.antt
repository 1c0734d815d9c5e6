use Rattle.std.proofs.Common.{◌^◌, ◌<◌, arith, pow_mono}
use Rattle.std.proofs.Math.Nat.{div-eq_of_lt, div-lt_iff_lt-mul}
use Rattle.std.proofs.lemmas.Nat.{pow_pos}
use Rattle.std.proofs.lemmas.Bool.{eqb-true, eq-eqb, le-leb}
use Rattle.formula.proofs.whole.fits.Goals as goal

pub returns-then-actions-ge64 : goal.returns-then-actions-ge64
returns-then-actions-ge64 c =
    let large = pow_mono {i = 64} {j = c.args.actions} c.if-actions-ge64.true in
    let small : c.args.set < 2 ^ c.args.actions = omega arith in
    (λ _. small, λ _. le-leb _ _ c.if-actions-ge64.true)

pub returns-else-actions-ge64 : goal.returns-else-actions-ge64
returns-else-actions-ge64 c =
    let set = c.args.set in
    let power = 2 ^ c.args.actions in
    let none = div-lt_iff_lt-mul {k = power} {x = set} {y = 1} (pow_pos c.args.actions) in
    (λ e. omega (arith, none.0 (omega (arith, eqb-true _ _ e))), λ l. eq-eqb _ _ (div-eq_of_lt l))
