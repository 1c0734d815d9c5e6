-- Members that include no other member.
--
--   IncludesByBits         to include a code is to have each of its bits below actions * variables
--   IncludesNoOther        each member of m that c includes is c
--   Minimal                c is a member and includes no other
--   LeastMinimal           o is the smallest such member that is at least `from`, or none where there is none
--   LeastMinimalUnique     there is one such o
--   MinimalReached         every member includes one that includes no other
--
-- Assumes nothing.
use Rattle.std.specs.Prelude.{◌≡◌, ℕ, ◌*◌, ◌^◌, ◌<◌, ◌≤◌, Bool, true, Some, None, Option}
use Rattle.logic.specs.Codes.{Includes}
use Rattle.store.specs.Masks.{Covers}

abbrev pub IncludesByBits : Type 0
IncludesByBits =
    (actions variables c d : ℕ)
    → (Includes actions variables c d → Covers (actions * variables) d c)
    × (Covers (actions * variables) d c → Includes actions variables c d)

abbrev pub IncludesNoOther : ℕ → ℕ → (ℕ → Bool) → ℕ → Type 0
IncludesNoOther actions variables m c = (d : ℕ) → m d ≡ true → Includes actions variables c d → d ≡ c

pub record Minimal (actions variables : ℕ) (m : ℕ → Bool) (c : ℕ) : Type 0 where
  pub member : m c ≡ true
  pub no_other : IncludesNoOther actions variables m c

abbrev pub LeastMinimal : ℕ → ℕ → (ℕ → Bool) → ℕ → Option ℕ → Type 0
LeastMinimal actions variables m from None = (c : ℕ) → from ≤ c → Minimal actions variables m c → ⊥
LeastMinimal actions variables m from (Some c) =
    (from ≤ c)
    × Minimal actions variables m c
    × ((d : ℕ) → from ≤ d → d < c → Minimal actions variables m d → ⊥)

abbrev pub LeastMinimalUnique : Type 0
LeastMinimalUnique =
    (actions variables : ℕ) (m : ℕ → Bool) (from : ℕ) (o p : Option ℕ)
    → LeastMinimal actions variables m from o
    → LeastMinimal actions variables m from p
    → o ≡ p

abbrev pub MinimalReached : Type 0
MinimalReached =
    (actions variables : ℕ) (m : ℕ → Bool)
    → ((c : ℕ) → m c ≡ true → c < 2 ^ (actions * variables))
    → (c : ℕ)
    → m c ≡ true
    → (d : ℕ) × Minimal actions variables m d × Includes actions variables c d
