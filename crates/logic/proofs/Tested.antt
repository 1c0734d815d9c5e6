-- Tests over all numbers below a bound, and whether a stage is still, told by such a test.
use Rattle.std.proofs.Common.{◌≡◌, ℕ, zero, suc, ◌<◌, Bool, true, false, not, ◌&&◌, ◌||◌, sym, refl, inl, inr, not-suc-le-zero, arith}
use Rattle.std.proofs.lemmas.Bool.{and_parts, and_from, or_cases, or_left, or_right, not-true, not_from_false, both_ways, cases_Bool}
use Rattle.logic.specs.Table.{Table, Sound}
use Rattle.logic.specs.Core.{Core}
use Rattle.logic.specs.Rounds.{Still}
use Rattle.logic.specs.Codes.{Bounded}
use Rattle.logic.proofs.Counting.{one_more}
use Rattle.logic.proofs.Stages.{stage_test, still_agree, agree_still}

abbrev pub below : ℕ → (ℕ → Bool) → Bool
below zero F = true
below (suc n) F = F n && below n F

pub below_all : (n : ℕ) (F : ℕ → Bool) → below n F ≡ true → (c : ℕ) → c < n → F c ≡ true
below_all zero F e c l = absurd (not-suc-le-zero l)
below_all (suc n) F e c l =
    let p = and_parts _ _ e in
    one_more (λ c. F c ≡ true) n (below_all n F p.1) p.0 c l

pub all_below : (n : ℕ) (F : ℕ → Bool) → ((c : ℕ) → c < n → F c ≡ true) → below n F ≡ true
all_below zero F h = refl
all_below (suc n) F h = and_from _ _ (h n (omega arith)) (all_below n F (λ c l. h c (omega arith)))

abbrev pub alike : Bool → Bool → Bool
alike true b = b
alike false b = not b

alike_same : (a b : Bool) → alike a b ≡ true → a ≡ b
alike_same true b e = sym e
alike_same false b e = sym (not-true b e)

same_alike : (a b : Bool) → a ≡ b → alike a b ≡ true
same_alike true b e = sym e
same_alike false b e = not_from_false b (sym e)

-- whether a stage is the same as the next, at every code of the universe below the bound
abbrev pub still_test : Table → (ℕ → Bool) → ℕ → Core → ℕ → Bool
still_test M U bound f i =
    below bound (λ c. not (U c) || below M.states (λ s. alike (stage_test M f i s c) (stage_test M f (suc i) s c)))

module _ (M : Table) (sound : Sound M) (U : ℕ → Bool) (bound : ℕ) (small : Bounded U bound) (f : Core) where
  abbrev at : ℕ → ℕ → Bool
  at i c = below M.states (λ s. alike (stage_test M f i s c) (stage_test M f (suc i) s c))

  pub tested_still : (i : ℕ) → still_test M U bound f i ≡ true → Still M U f i
  tested_still i e =
      agree_still M sound U f i (λ c u s l.
      elim (or_cases (not (U c)) (at i c) (below_all bound (λ c. not (U c) || at i c) e c (small c u))) [
        | inl a ↦ absurd (both_ways (U c) (not-true (U c) a) u)
        | inr b ↦ alike_same _ _ (below_all M.states (λ s. alike (stage_test M f i s c) (stage_test M f (suc i) s c)) b s l)
      ])

  pub still_tested : (i : ℕ) → Still M U f i → still_test M U bound f i ≡ true
  still_tested i still =
      all_below bound (λ c. not (U c) || at i c) (λ c l.
      elim (cases_Bool (U c)) [
        | inl u ↦ or_right (not (U c)) (at i c)
            (all_below M.states (λ s. alike (stage_test M f i s c) (stage_test M f (suc i) s c))
            (λ s b. same_alike _ _ (still_agree M sound U f i still c u s b)))
        | inr u ↦ or_left (not (U c)) (at i c) (not_from_false (U c) u)
      ])
