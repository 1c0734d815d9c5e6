-- The member that comes before every other.
--
--   Smallest           o is the member of m that comes before every other member, or none where m has no member
--   SmallestUnique     there is one such o
--
-- Assumes nothing.
use Rattle.std.specs.Prelude.{◌≡◌, ℕ, Bool, true, false, Some, None, Option, ◌≢◌}
use Rattle.members.specs.Order.{Before}

abbrev pub Smallest : (ℕ → Bool) → Option ℕ → Type 0
Smallest m None = (c : ℕ) → m c ≡ false
Smallest m (Some c) = (m c ≡ true) × ((d : ℕ) → m d ≡ true → (d ≢ c) → Before c d)

abbrev pub SmallestUnique : Type 0
SmallestUnique = (m : ℕ → Bool) (o p : Option ℕ) → Smallest m o → Smallest m p → o ≡ p
