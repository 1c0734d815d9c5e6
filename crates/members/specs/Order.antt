-- The order of codes: fewer ones first, and of equally many the lower code.
--
--   ones             how many bits of a code are set
--   Before           a comes before b
--   BeforeOrders     of two different codes exactly one comes before the other, none before itself, and it carries through
--
-- Assumes nothing.
use Rattle.std.specs.Prelude.{◌≡◌, ℕ, ◌<◌, ◌⊎◌, ◌≢◌}
use Rattle.logic.specs.Codes.{bit}
use Rattle.members.specs.Numbers.{number}

-- a code is a `usize`: it has 64 bits
unfoldable pub ones : ℕ → ℕ
ones c = number (bit c) 64

abbrev pub Before : ℕ → ℕ → Type 0
Before a b = (ones a < ones b) ⊎ ((ones a ≡ ones b) × (a < b))

pub record BeforeOrders : Type 0 where
  pub either : (a b : ℕ) → (a ≢ b) → Before a b ⊎ Before b a
  pub not_both : (a b : ℕ) → Before a b → Before b a → ⊥
  pub not_itself : (a : ℕ) → Before a a → ⊥
  pub carries : (a b c : ℕ) → Before a b → Before b c → Before a c
