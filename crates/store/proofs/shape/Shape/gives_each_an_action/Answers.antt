use Rattle.std.proofs.Common.{◌≡◌, ◌≢◌, ◌*◌, ◌/◌, ◌%◌, ◌^◌, refl, ap, ◌∙◌, arith, rules, tests}
use Rattle.std.proofs.lemmas.Nat.{one_shl}
use Rattle.std.proofs.lemmas.Iterator.{cases_from_all, YieldsList-from_range}
use Rattle.logic.specs.Codes.{inhabited}
use Rattle.store.specs.Shapes.{shape_actions}
use Rattle.store.proofs.Valuations.{inhabited_is}
use Rattle.store.proofs.shape.Shape.gives_each_an_action.Goals as goal

pub returns : goal.returns
returns c =
    let s = c.args.self in
    let x = c.args.c in
    let a = c.actions-actions.result in
    let k = c.variables-variables.result in
    let m = (1 * 2 ^ a) % 2 ^ 64 in
    let ea : a ≡ shape_actions s = c.actions-actions.ensures in
    let ran = cases_from_all _ _ _ (λ y. x / 2 ^ (y * a) % m ≢ 0) (λ y. x / 2 ^ (y * a) % m ≡ 0) c.all.ensures.ran (YieldsList-from_range 0 k k refl (omega arith)) (λ y q r. search (rules, tests)) (λ y q r. search (rules, tests)) in
    inhabited_is a k x m c.all.result (one_shl a 64 (omega arith)) ran
    ∙ ap (λ t. inhabited t k x) ea ∙ ap (λ t. inhabited (shape_actions s) t x) c.variables-variables.ensures
