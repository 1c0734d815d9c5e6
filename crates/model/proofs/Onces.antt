-- Lists in which nothing stands twice.
use Rattle.std.proofs.Common.{◌≡◌, ℕ, zero, suc, ◌<◌, ◌⊎◌, List, [], ◌∷◌, ◌++◌, length, refl, sym, inl, inr, ⊎_elim, arith}
use Rattle.std.specs.List.{ContainsAt as Has, HoldsAt, AllByRecursion}
use Rattle.std.proofs.ByRecursion.{has_push_cases, has_append_right}
use Rattle.model.specs.Grammar.{Once}

module _ {X : Type 0} where
  pub has_here : (x : X) (xs : List X) → Has (x ∷ xs) x
  has_here x xs = (0, omega arith, λ d. refl)

  pub has_later : (y : X) (xs : List X) (x : X) → Has xs x → Has (y ∷ xs) x
  has_later y xs x h = (suc h.0, omega (arith, h.1), h.2)

  has_cases : (y : X) (xs : List X) (x : X) → Has (y ∷ xs) x → (y ≡ x) ⊎ Has xs x
  has_cases y xs x h = go h.0 h.1 h.2
    where
      go : (k : ℕ) → k < length (y ∷ xs) → HoldsAt (λ z. z ≡ x) (y ∷ xs) k → (y ≡ x) ⊎ Has xs x
      go zero lt is = inl (is x)
      go (suc k) lt is = inr (k, omega arith, is)

  pub has_none : (x : X) → Has [] x → ⊥
  has_none x h = omega (arith, h.1)

  -- one more that does not stand there yet
  pub once_push : (xs : List X) (x : X) → Once xs → (Has xs x → ⊥) → Once (xs ++ x ∷ [])
  once_push [] x _ _ = (has_none x, tt)
  once_push (y ∷ ys) x once new = (
    λ h. ⊎_elim (λ a. once.0 a) (λ e. new (0, omega arith, λ d. sym e)) (has_push_cases ys x y h),
    once_push ys x once.1 (λ h. new (has_later y ys x h)),
  )

  -- what stands behind others is none of them
  pub once_new : (xs : List X) (x : X) (ys : List X) → Once (xs ++ x ∷ ys) → Has xs x → ⊥
  once_new [] x ys once h = has_none x h
  once_new (y ∷ xs) x ys once h =
      ⊎_elim
      (λ e. once.0 (has_append_right xs (x ∷ ys) y (0, omega arith, λ d. sym e)))
      (λ r. once_new xs x ys once.1 r)
      (has_cases y xs x h)

  pub all_left : (P : X → Type 0) (xs ys : List X) → AllByRecursion P (xs ++ ys) → AllByRecursion P xs
  all_left P [] ys h = tt
  all_left P (x ∷ xs) ys h = (h.0, all_left P xs ys h.1)

  pub all_right : (P : X → Type 0) (xs ys : List X) → AllByRecursion P (xs ++ ys) → AllByRecursion P ys
  all_right P [] ys h = h
  all_right P (x ∷ xs) ys h = all_right P xs ys h.1
