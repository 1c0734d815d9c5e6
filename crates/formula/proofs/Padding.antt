-- Cells that are blank behind those in use.
use Rattle.std.proofs.Common.{◌≡◌, ℕ, ◌+◌, ◌-◌, ◌<◌, ◌≤◌, List, length, take, set, replicate, sym, ap, ◌∙◌, arith, length-append}
use Rattle.std.proofs.lemmas.List.{take_more_set, length-take, length-take-le, length-replicate}
use Rattle.model.specs.Values.{padded}
use Rattle.model.proofs.Cells.{padded_more}

module _ {X : Type 0} (n : ℕ) (blank : X) (xs : List X) (k : ℕ) (is : xs ≡ padded n blank (take k xs)) where
  pub padded_long : k ≤ n → length xs ≡ n
  padded_long le =
      ap length is ∙ length-append (take k xs) (replicate (n - length (take k xs)) blank)
      ∙ omega (arith, length-take k xs, length-replicate (n - length (take k xs)) blank)

  -- one more cell in use
  pub padded_push : (x : X) → k < n → set xs k x ≡ padded n blank (take (k + 1) (set xs k x))
  padded_push x lt =
      let long = padded_long (omega arith) in
      let many : length (take k xs) ≡ k = length-take-le k xs (omega arith) in
      ap (λ ys. set ys k x) is ∙ ap (λ j. set (padded n blank (take k xs)) j x) (sym many)
      ∙ padded_more n blank (take k xs) x (omega (arith, many)) ∙ ap (padded n blank) (sym (take_more_set xs k x (omega arith)))
