-- How many members a set has.
--
--   number         how many of the numbers below n are members of m
--   Lists          cs has the members of m, each once, ascending
--   NumberSays     where every member is below n, that number is the length of any such list, and there is one
--
-- Assumes nothing.
use Rattle.std.specs.Prelude.{◌≡◌, ℕ, zero, suc, ◌+◌, ◌<◌, Bool, true, cond, List, length, slice_index}

abbrev pub number : (ℕ → Bool) → ℕ → ℕ
number m zero = 0
number m (suc n) = cond (m n) (number m n + 1) (number m n)

pub record Lists (m : ℕ → Bool) (cs : List ℕ) : Type 0 where
  pub ascending : (j k : ℕ) → j < k → k < length cs → slice_index cs j < slice_index cs k
  pub sound : (k : ℕ) → k < length cs → m (slice_index cs k) ≡ true
  pub whole : (c : ℕ) → m c ≡ true → (k : ℕ) × (k < length cs) × (slice_index cs k ≡ c)

abbrev pub NumberSays : Type 0
NumberSays =
    (m : ℕ → Bool) (n : ℕ)
    → ((c : ℕ) → m c ≡ true → c < n)
    → ((cs : List ℕ) → Lists m cs → length cs ≡ number m n) × ((cs : List ℕ) × Lists m cs)
