-- What the questions ask of a set of codes, which is given by what is true of its codes.
--
--   First      o is the smallest code of the set from the place p on, or none where there is no such code
--   Names      the list has the codes of the set, each once, ascending
--   Many       the set has n codes
--   Fewest     o is the code of the set with the fewest actions, of ties the lowest, or none where the set has no code
--   Alone      a code of the set that includes no other code of the set
--
-- Assumes nothing.
use Rattle.std.specs.Prelude.{◌≡◌, ℕ, ◌<◌, ◌≤◌, List, length, Some, None, Option, ◌≢◌, slice_index}
use Rattle.logic.specs.Codes.{Includes}
use Rattle.members.specs.Order.{Before}

abbrev pub First : (ℕ → Type 0) → ℕ → Option ℕ → Type 0
First P p None = (c : ℕ) → p ≤ c → P c → ⊥
First P p (Some c) = (p ≤ c) × P c × ((d : ℕ) → p ≤ d → d < c → P d → ⊥)

pub record Names (P : ℕ → Type 0) (cs : List ℕ) : Type 0 where
  pub ascending : (j k : ℕ) → j < k → k < length cs → slice_index cs j < slice_index cs k
  pub sound : (k : ℕ) → k < length cs → P (slice_index cs k)
  pub whole : (c : ℕ) → P c → (k : ℕ) × (k < length cs) × (slice_index cs k ≡ c)

pub record Many (P : ℕ → Type 0) (n : ℕ) : Type 0 where
  pub codes : List ℕ
  pub names : Names P codes
  pub counts : n ≡ length codes

-- Before compares the ones of two codes, which are the actions of all variables, and at equal ones the codes
abbrev pub Fewest : (ℕ → Type 0) → Option ℕ → Type 0
Fewest P None = (c : ℕ) → P c → ⊥
Fewest P (Some c) = P c × ((d : ℕ) → P d → (d ≢ c) → Before c d)

pub record Alone (actions variables : ℕ) (P : ℕ → Type 0) (c : ℕ) : Type 0 where
  pub inside : P c
  pub no_other : (d : ℕ) → P d → Includes actions variables c d → d ≡ c
