-- What never changes of a store.
--
--   Frame          its actions, its variables, how many sets it has, and its universe
--   frame_bits     how many bits a code has
--   frame_codes    how many codes there are: the codes are the numbers below it
--   Lawful         the limits of a shape are kept, and every code of the universe is a valuation
--
-- Assumes nothing.
use Rattle.std.specs.Prelude.{◌≡◌, ℕ, ◌*◌, ◌^◌, Bool, true}
use Rattle.logic.specs.Codes.{Valuation}
use Rattle.store.specs.Shapes.{IsShape}

pub record Frame : Type 0 where
  pub actions : ℕ
  pub variables : ℕ
  pub count : ℕ
  pub universe : ℕ → Bool

abbrev pub frame_bits : Frame → ℕ
frame_bits f = f.actions * f.variables

abbrev pub frame_codes : Frame → ℕ
frame_codes f = 2 ^ frame_bits f

pub record Lawful (f : Frame) : Type 0 where
  pub limits : IsShape f.actions f.variables
  pub valuations : (c : ℕ) → f.universe c ≡ true → Valuation f.actions f.variables c
