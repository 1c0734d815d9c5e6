use Rattle.std.proofs.Common.{◌≡◌, ◌*◌, ◌^◌, true, ◌&&◌, ltb, sym, ap, ◌∙◌, arith}
use Rattle.std.proofs.lemmas.Bool.{lt-ltb}
use Rattle.std.proofs.lemmas.Bool.Decides.{Decides-at}
use Rattle.logic.specs.Codes.{inhabited, valuation}
use Rattle.logic.proofs.Codes.{valuation_decides}
use Rattle.store.specs.Shapes.{shape_actions, shape_variables}
use Rattle.store.proofs.shape.Shape.is_valuation.Goals as goal

pub returns-then-c-codes-clause-decides : goal.returns-then-c-codes-clause-decides
returns-then-c-codes-clause-decides c =
    let a = shape_actions c.args.self in
    let k = shape_variables c.args.self in
    let x = c.args.c in
    let below : ltb x (2 ^ (a * k)) ≡ true = lt-ltb x (2 ^ (a * k)) (omega arith) in
    let e = c.gives_each_an_action.ensures ∙ sym (ap (λ t. t && inhabited a k x) below) in
    Decides-at c.gives_each_an_action.result (valuation a k x) e (valuation_decides a k x)
