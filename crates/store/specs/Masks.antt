-- The fixed layer: the store below with a universe of which only the codes are left that have every bit of a mask.
--
--   Covers           c has every bit below n that the mask has
--   covers           the same as a test, CoversDecides says so
--   CoversDecides
--   fixed_frame      the frame of the layer over a store with the frame f
--
-- Assumes nothing.
use Rattle.std.specs.Prelude.{◌≡◌, ℕ, zero, suc, ◌<◌, Bool, true, not, ◌&&◌, ◌||◌, Decides}
use Rattle.std.proofs.lemmas.Bool.{and_parts}
use Rattle.logic.specs.Codes.{bit}
use Rattle.store.specs.Frames.{Frame, Lawful, frame_bits}

abbrev pub Covers : ℕ → ℕ → ℕ → Type 0
Covers n mask c = (b : ℕ) → b < n → bit mask b ≡ true → bit c b ≡ true

abbrev pub covers : ℕ → ℕ → ℕ → Bool
covers zero mask c = true
covers (suc b) mask c = (not (bit mask b) || bit c b) && covers b mask c

abbrev pub CoversDecides : Type 0
CoversDecides = (n mask c : ℕ) → Decides (covers n mask c) (Covers n mask c)

abbrev pub fixed_frame : Frame → ℕ → Frame
fixed_frame f mask = record {
  actions = f.actions;
  variables = f.variables;
  count = f.count;
  universe = λ c. f.universe c && covers (frame_bits f) mask c;
}

pub fixed_sound : (f : Frame) (mask : ℕ) → Lawful f → Lawful (fixed_frame f mask)
fixed_sound f mask s = record {
  limits = s.limits;
  valuations = λ c e. s.valuations c (and_parts (f.universe c) (covers (frame_bits f) mask c) e).0;
}
