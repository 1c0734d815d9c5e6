-- The smallest member from a place on.
--
--   Least           o is the smallest member of m that is at least c, or none where m has no such member
--   LeastUnique     there is one such o
--
-- Assumes nothing.
use Rattle.std.specs.Prelude.{◌≡◌, ℕ, ◌<◌, ◌≤◌, Bool, true, false, Some, None, Option}

abbrev pub Least : (ℕ → Bool) → ℕ → Option ℕ → Type 0
Least m c None = (d : ℕ) → c ≤ d → m d ≡ false
Least m c (Some d) = (c ≤ d) × (m d ≡ true) × ((e : ℕ) → c ≤ e → e < d → m e ≡ false)

abbrev pub LeastUnique : Type 0
LeastUnique = (m : ℕ → Bool) (c : ℕ) (o p : Option ℕ) → Least m c o → Least m c p → o ≡ p
