-- Lists of codes.
--
--   Names        cs has the numbers with P, each once, ascending
--   below        the members of m below n, ascending
--
-- Assumes nothing.
use Rattle.std.specs.Prelude.{◌≡◌, ℕ, zero, suc, ◌<◌, Bool, cond, List, [], ◌∷◌, ◌++◌, length, slice_index}

pub record Names (P : ℕ → Type 0) (cs : List ℕ) : Type 0 where
  pub ascending : (j k : ℕ) → j < k → k < length cs → slice_index cs j < slice_index cs k
  pub sound : (k : ℕ) → k < length cs → P (slice_index cs k)
  pub whole : (c : ℕ) → P c → (k : ℕ) × (k < length cs) × (slice_index cs k ≡ c)

abbrev pub below : (ℕ → Bool) → ℕ → List ℕ
below m zero = []
below m (suc n) = cond (m n) (below m n ++ n ∷ []) (below m n)
