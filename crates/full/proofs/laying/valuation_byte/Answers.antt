use Rattle.std.proofs.Common.{◌≡◌, ◌+◌, ◌-◌, ◌*◌, ◌%◌, cond, refl, sym, ◌∙◌, ap, subst, zero-add, arith, rules}
use Rattle.std.specs.List.{range_with_len}
use Rattle.std.proofs.iter.Yields.{nat_range_steps}
use Rattle.std.proofs.lemmas.Fn.{fold_over}
use Rattle.std.proofs.lemmas.Iterator.{YieldsList-from_range}
use Rattle.std.proofs.lemmas.List.FromFn.{get_or-range_with_len}
use Rattle.logic.specs.Codes.{valuation}
use Rattle.store.specs.Shapes.{shape_actions, shape_variables}
use Rattle.full.proofs.Valuations.{Built, built_none, built_more}
use Rattle.full.proofs.laying.valuation_byte.Goals as goal

pub returns : goal.returns
returns c =
    let f = valuation (shape_actions c.args.shape) (shape_variables c.args.shape) in
    let x = c.args.x in
    let built : Built f x (range_with_len 0 8) c.fold.result = fold_over nat_range_steps (λ b. b) _ (Built f x) _
    (λ ys a b r f' j k.
    let e : r ≡ a % 128 * 2 + cond (f (8 * x + (7 - b))) 1 0 = search rules in
    (subst (Built f x _) (sym e) (built_more f x ys a b j), search rules))
    _ (range_with_len 0 8) 0 c.fold.result (YieldsList-from_range 0 8 8 refl refl).runs (built_none f x) c.fold.ensures.ran in
    let bits = built (λ k k<. get_or-range_with_len 0 8 k 0 (omega arith) ∙ zero-add k) (omega arith) in
    λ m m<. bits.1 m m< ∙ ap (λ t. f (8 * x + t)) (zero-add m)
