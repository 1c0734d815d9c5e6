-- Listings: the codes of a universe under which a formula holds at a state, and the minimal ones.
--
--   Listed       the code is in the universe, and the formula holds at the state under it
--   Minimal      a listed code that includes no other listed code
--
-- Assumes nothing.
use Rattle.std.specs.Prelude.{◌≡◌, ℕ, Bool, true}
use Rattle.logic.specs.Codes.{Includes}
use Rattle.logic.specs.Formulas.{Formula}
use Rattle.logic.specs.Table.{Table}
use Rattle.logic.specs.Meaning.{Holds}

pub record Listed (M : Table) (U : ℕ → Bool) (f : Formula) (s c : ℕ) : Type 0 where
  pub inside : U c ≡ true
  pub holds : Holds M c f s

pub record Minimal (M : Table) (variables : ℕ) (U : ℕ → Bool) (f : Formula) (s c : ℕ) : Type 0 where
  pub listed : Listed M U f s c
  pub least : (v : ℕ) → Listed M U f s v → Includes M.actions variables c v → v ≡ c
