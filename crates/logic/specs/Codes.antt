-- Codes of valuations. With A actions and k variables a code has n = A * k bits; action a of variable y has bit y * A + a.
--
--   bit          whether a code has a bit
--   gives        whether a code gives variable y the action a
--   Valuation    a code below 2^n that gives every variable an action (without variables: the code 0 alone)
--   valuation    the same as a test
--   Includes     one valuation contains another: each variable's set contains the other's
--   Bounded      every code of a universe, which is a test on codes, is below a bound
--
-- Assumes nothing.
use Rattle.std.specs.Prelude.{◌≡◌, ℕ, zero, suc, ◌+◌, ◌*◌, ◌/◌, ◌%◌, ◌^◌, ◌<◌, Bool, true, ◌&&◌, ◌==◌, nat_lt}

abbrev pub bit : ℕ → ℕ → Bool
bit c b = c / 2 ^ b % 2 == 1

abbrev pub gives : ℕ → ℕ → ℕ → ℕ → Bool
gives actions c y a = bit c (y * actions + a)

pub record Valuation (actions variables c : ℕ) : Type 0 where
  pub small : c < 2 ^ (actions * variables)
  pub some : (y : ℕ) → y < variables → (a : ℕ) × (a < actions) × (gives actions c y a ≡ true)

-- whether every variable below k has an action in c
abbrev pub inhabited : ℕ → ℕ → ℕ → Bool
inhabited actions zero c = true
inhabited actions (suc y) c = nat_lt 0 (c / 2 ^ (y * actions) % 2 ^ actions) && inhabited actions y c

abbrev pub valuation : ℕ → ℕ → ℕ → Bool
valuation actions variables c = nat_lt c (2 ^ (actions * variables)) && inhabited actions variables c

-- w contains v
abbrev pub Includes : ℕ → ℕ → ℕ → ℕ → Type 0
Includes actions variables w v =
    (y a : ℕ) → y < variables → a < actions → gives actions v y a ≡ true → gives actions w y a ≡ true

abbrev pub Bounded : (ℕ → Bool) → ℕ → Type 0
Bounded U bound = (c : ℕ) → U c ≡ true → c < bound
