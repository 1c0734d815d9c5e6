-- Words that say items one behind the other.
use Rattle.std.proofs.Common.{◌≡◌, ℕ, ◌≤◌, Bool, true, false, cond, List, [], ◌∷◌, ◌++◌, Some, None, Option, sym, refl, subst, arith}
use Rattle.std.specs.List.{AllByRecursion}
use Rattle.std.proofs.lemmas.Bool.Decides.{nat_tests}
use Rattle.words.specs.Words.{bytes_of, decimal, limited}
use Rattle.model.specs.Content.{Section, fewest, most}
use Rattle.model.specs.Grammar.{Item, number, Says, Next, Spells, Within}

module _ (text : List ℕ) where
  pub spells_then : (xs ys : List Item) (p m q : ℕ) → Spells text p xs m → Spells text m ys q → Spells text p (xs ++ ys) q
  spells_then [] ys p m q a b = subst (λ k. Spells text k ys q) (sym a) b
  spells_then (x ∷ xs) ys p m q a b = (a.0, a.1, spells_then xs ys a.0 m q a.2 b)

  pub spells_push : (xs : List Item) (i : Item) (p m q : ℕ) → Spells text p xs m → Next text m i q → Spells text p (xs ++ i ∷ []) q
  spells_push xs i p m q a n = spells_then xs (i ∷ []) p m q a (q, n, refl)

  pub spells_split : (xs ys : List Item) (p q : ℕ) → Spells text p (xs ++ ys) q → (m : ℕ) × Spells text p xs m × Spells text m ys q
  spells_split [] ys p q h = (p, refl, h)
  spells_split (x ∷ xs) ys p q h =
      let rest = spells_split xs ys h.0 q h.2 in
      (rest.0, (h.0, h.1, rest.1), rest.2)

  -- some word says each item
  pub spells_says : (xs : List Item) (p q : ℕ) → Spells text p xs q → AllByRecursion (λ i. (w : List ℕ) × Says i w) xs
  spells_says [] p q h = tt
  spells_says (x ∷ xs) p q h = ((bytes_of text h.1.start h.0, h.1.says), spells_says xs h.0 q h.2)

-- a count that is read is within its limits
limited_within : (low high n : ℕ) (o : Option ℕ) → limited low high o ≡ Some n → (low ≤ n) × (n ≤ high)
limited_within low high n None h = let z : ◌≡◌ {A = ℕ} 0 1 = cc in absurd (omega arith)
limited_within low high n (Some m) h = (grind (arith, nat_tests), grind (arith, nat_tests))

cond_limited : (b : Bool) (low high n : ℕ) (o : Option ℕ) → cond b None (limited low high o) ≡ Some n → (low ≤ n) × (n ≤ high)
cond_limited true low high n o h = let z : ◌≡◌ {A = ℕ} 0 1 = cc in absurd (omega arith)
cond_limited false low high n o h = limited_within low high n o h

pub counted_within : (k : Section) (n : ℕ) → (w : List ℕ) × Says (number k n) w → Within k n
counted_within k n h = cond_limited _ (fewest k) (most k) n (decimal 0 h.0) h.1
