-- The full store over a shape and the caller's bytes.
--
--   shape_bits    how many bits a code has
--   full_frame    what never changes of it: as many sets as fit, and every valuation as the universe
--   full_sets     whether the set j has the code c
--   Altered       what a call that alters the set i makes of the sets, as every store does, and of the bytes
--   full_lawful   what every store promises of its frame and of its codes holds of this one
--   full_coded
--   Laid          the bit c of these bytes is set exactly if c is a valuation
--   Shown         these are the bytes of the set i
--
-- Assumes nothing.
use Rattle.std.specs.Prelude.{◌≡◌, ℕ, ◌*◌, ◌/◌, ◌^◌, ◌<◌, Bool, true, List, length, is_ok, Option, Result}
use Rattle.std.proofs.lemmas.Bool.{ltb-true, and_parts}
use Rattle.logic.specs.Codes.{valuation}
use Rattle.logic.proofs.Codes.{valuation_decides}
use Rattle.store.specs.Calls.{Alters}
use Rattle.store.specs.Frames.{Frame, Lawful}
use Rattle.store.specs.Shapes.{shape_actions, shape_variables, shape_limits}
use Rattle.store.specs.declared.fault.Fault.{Fault}
use Rattle.store.specs.declared.shape.Shape.{Shape}
use Rattle.full.specs.Bytes.{width, start, bit_from, in_bytes, Rewritten}

abbrev pub shape_bits : Shape → ℕ
shape_bits s = shape_actions s * shape_variables s

abbrev pub full_frame : Shape → List ℕ → Frame
full_frame s bytes = record {
  actions = shape_actions s;
  variables = shape_variables s;
  count = length bytes / width (shape_bits s);
  universe = valuation (shape_actions s) (shape_variables s);
}

abbrev pub full_sets : Shape → List ℕ → ℕ → ℕ → Bool
full_sets s bytes = in_bytes (shape_bits s) bytes

pub record Altered (s : Shape) (old new : List ℕ) (r : Result (Unit {0}) Fault) (o : Option Fault) (i : ℕ) (S : ℕ → Bool) : Type 0 where
  pub sets : Alters (full_frame s old) (full_frame s new) (full_sets s old) (full_sets s new) r o i S
  pub bytes : Rewritten (shape_bits s) old new (is_ok r) i S

abbrev pub Laid : Shape → List ℕ → Type 0
Laid s bytes = (c : ℕ) → bit_from bytes 0 c ≡ valuation (shape_actions s) (shape_variables s) c

pub record Shown (s : Shape) (bytes : List ℕ) (i : ℕ) (span : List ℕ) : Type 0 where
  pub inside : i < length bytes / width (shape_bits s)
  pub long : length span ≡ width (shape_bits s)
  pub bits : (c : ℕ) → c / 8 < width (shape_bits s) → bit_from span 0 c ≡ bit_from bytes (start (shape_bits s) i) c

pub full_lawful : (s : Shape) (bytes : List ℕ) → Lawful (full_frame s bytes)
full_lawful s bytes = record { limits = shape_limits s; valuations = λ c e. (valuation_decides (shape_actions s) (shape_variables s) c).0 e }

pub full_coded : (s : Shape) (bytes : List ℕ) (j c : ℕ) → full_sets s bytes j c ≡ true → c < 2 ^ shape_bits s
full_coded s bytes j c e = ltb-true c (2 ^ shape_bits s) (and_parts _ _ (and_parts _ _ e).0).1
