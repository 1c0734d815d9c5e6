-- The members of a set as a list.
--
--   ListsFrom      cs has the members of m from `from` on, each once, ascending
--   listed         that list, where so many numbers from `from` on are looked at
--   ListsUnique    there is one such list
--   ListedLists    where every member is below n, `listed` is that list
--
-- Assumes nothing.
use Rattle.std.specs.Prelude.{◌≡◌, ℕ, zero, suc, ◌+◌, ◌-◌, ◌<◌, ◌≤◌, Bool, true, cond, List, [], ◌∷◌, length, slice_index}

pub record ListsFrom (m : ℕ → Bool) (from : ℕ) (cs : List ℕ) : Type 0 where
  pub low : (k : ℕ) → k < length cs → from ≤ slice_index cs k
  pub ascending : (j k : ℕ) → j < k → k < length cs → slice_index cs j < slice_index cs k
  pub sound : (k : ℕ) → k < length cs → m (slice_index cs k) ≡ true
  pub whole : (c : ℕ) → from ≤ c → m c ≡ true → (k : ℕ) × (k < length cs) × (slice_index cs k ≡ c)

abbrev pub listed : (ℕ → Bool) → ℕ → ℕ → List ℕ
listed m from zero = []
listed m from (suc more) = cond (m from) (from ∷ listed m (from + 1) more) (listed m (from + 1) more)

abbrev pub ListsUnique : Type 0
ListsUnique = (m : ℕ → Bool) (from : ℕ) (cs ds : List ℕ) → ListsFrom m from cs → ListsFrom m from ds → cs ≡ ds

abbrev pub ListedLists : Type 0
ListedLists =
    (m : ℕ → Bool) (from n : ℕ)
    → ((c : ℕ) → m c ≡ true → c < n)
    → ListsFrom m from (listed m from (n - from))
