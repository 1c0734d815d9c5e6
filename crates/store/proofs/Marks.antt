-- Two sets of one code are the same exactly if both have it or neither. Assumes nothing.
use Rattle.std.proofs.Common.{◌≡◌, ℕ, Bool, true, ◌&&◌, eqb, Decides, refl, ap, arith}
use Rattle.std.proofs.lemmas.Bool.{eq-eqb}
use Rattle.std.proofs.lemmas.Bool.Decides.{Decides-like}
use Rattle.store.specs.Calls.{SameMembers}

strip : (q x y : Bool) → q ≡ true → (q && x) ≡ (q && y) → x ≡ y
strip q x y h e = grind arith

pub same_marks : (code : ℕ) (r x y : Bool) → Decides r (x ≡ y) → Decides r (SameMembers (λ c. eqb c code && x) (λ c. eqb c code && y))
same_marks code r x y =
    Decides-like r
    (λ e c. ap (λ t. eqb c code && t) e)
    (λ all. strip (eqb code code) x y (eq-eqb code code refl) (all code))
