-- What a look-up says of the names that were given.
use Rattle.std.proofs.Common.{◌≡◌, ℕ, zero, suc, ◌+◌, ◌<◌, Bool, true, false, cond, not, ◌||◌, ltb, List, [], ◌∷◌, map, length, get_or, is_some, Some, None, Decides, Option, sym, refl, ap, ◌∙◌, subst, ⊎_elim, one-add, arith}
use lib.ListN.{length-map}
use Rattle.std.specs.Option.{option_map}
use Rattle.std.specs.List.{ContainsAt as Has, list_any, prefix_len, position}
use Rattle.std.specs.Str.{bytes_eq}
use Rattle.std.proofs.lemmas.Slice.Eq.{bytes_eq-Decides}
use Rattle.std.proofs.lemmas.Bool.{cases_Bool, cond-true, cond-false}
use Rattle.std.proofs.lemmas.Bool.Decides.{nat_tests, Decides-by_or}
use Rattle.words.specs.Words.{lookup}

prefix_len-map : {X Y : Type 0} (f : X → Y) (p : Y → Bool) (xs : List X) → prefix_len p (map f xs) ≡ prefix_len (λ x. p (f x)) xs
prefix_len-map f p [] = refl
prefix_len-map f p (x ∷ xs) = ap (λ n. cond (p (f x)) (1 + n) 0) (prefix_len-map f p xs)

pub position-map : {X Y : Type 0} (f : X → Y) (p : Y → Bool) (xs : List X) → position p (map f xs) ≡ position (λ x. p (f x)) xs
position-map f p xs = simp (prefix_len-map, length-map)

-- the look-up, front to back
lookup_step : (b : Bool) (l n : ℕ) → cond (ltb (cond (not b) (1 + l) 0) (suc n)) (Some (cond (not b) (1 + l) 0)) None ≡ cond b (Some 0) (option_map suc (cond (ltb l n) (Some l) None))
lookup_step true l n = grind (arith, nat_tests)
lookup_step false l n =
    ⊎_elim
    (λ (h : ltb l n ≡ true). let k : ltb (1 + l) (suc n) ≡ true = grind (arith, nat_tests) in rw (h, k) (ap Some (one-add l)))
    (λ (h : ltb l n ≡ false). let k : ltb (1 + l) (suc n) ≡ false = grind (arith, nat_tests) in rw (h, k) refl)
    (cases_Bool (ltb l n))

pub lookup_cons : (w x : List ℕ) (xs : List (List ℕ)) → lookup w (x ∷ xs) ≡ cond (bytes_eq x w) (Some 0) (option_map suc (lookup w xs))
lookup_cons w x xs = lookup_step (bytes_eq x w) (prefix_len (λ n. not (bytes_eq n w)) xs) (length xs)

pub any_decides : (w : List ℕ) (xs : List (List ℕ)) → Decides (list_any (λ x. bytes_eq x w) xs) (Has xs w)
any_decides w xs = Decides-by_or (λ x. bytes_eq x w) (λ x. x ≡ w) (list_any (λ x. bytes_eq x w)) (λ x. bytes_eq-Decides x w) refl (λ _ _. refl) xs

lookup_any : (w : List ℕ) (xs : List (List ℕ)) → is_some (lookup w xs) ≡ list_any (λ x. bytes_eq x w) xs
lookup_any w [] = refl
lookup_any w (x ∷ xs) = ap is_some (lookup_cons w x xs) ∙ step (bytes_eq x w) (lookup w xs) ∙ ap (λ b. bytes_eq x w || b) (lookup_any w xs)
  where
    step : (b : Bool) (o : Option ℕ) → is_some (cond b (Some 0) (option_map suc o)) ≡ (b || is_some o)
    step true o = refl
    step false None = refl
    step false (Some i) = refl

pub lookup_decides : (w : List ℕ) (xs : List (List ℕ)) → Decides (is_some (lookup w xs)) (Has xs w)
lookup_decides w xs = rw lookup_any (any_decides w xs)

-- a word that is looked up is the name at its number
pub lookup_is : (w : List ℕ) (xs : List (List ℕ)) (i : ℕ) → lookup w xs ≡ Some i → (i < length xs) × (get_or xs i [] ≡ w)
lookup_is w [] i h = let z : ◌≡◌ {A = ℕ} 0 1 = cc in absurd (omega arith)
lookup_is w (x ∷ xs) i h =
    ⊎_elim
    (λ (e : bytes_eq x w ≡ true).
    let first : 0 ≡ i = let z : Some 0 ≡ Some i = sym (cond-true _ _ _ e) ∙ sym (lookup_cons w x xs) ∙ h in cc in
    subst (λ k. (k < length (x ∷ xs)) × (get_or (x ∷ xs) k [] ≡ w)) first (omega arith, (bytes_eq-Decides x w).0 e))
    (λ (e : bytes_eq x w ≡ false). later (lookup_is w xs) i (lookup w xs) refl (sym (cond-false _ _ _ e) ∙ sym (lookup_cons w x xs) ∙ h))
    (cases_Bool (bytes_eq x w))
  where
    later : ((j : ℕ) → lookup w xs ≡ Some j → (j < length xs) × (get_or xs j [] ≡ w)) → (i : ℕ) (o : Option ℕ) → lookup w xs ≡ o → option_map suc o ≡ Some i → (i < length (x ∷ xs)) × (get_or (x ∷ xs) i [] ≡ w)
    later rec i None is h = let z : ◌≡◌ {A = ℕ} 0 1 = cc in absurd (omega arith)
    later rec zero (Some j) is h = let z : suc j ≡ 0 = cc in absurd (omega arith)
    later rec (suc i) (Some j) is h =
        let same : suc j ≡ suc i = cc in
        let rest = rec i (is ∙ ap Some (omega arith)) in
        (omega (arith, rest.0), rest.1)
