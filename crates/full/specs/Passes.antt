-- What passes over the bytes of spans leave and find. A span is the bytes of one set.
--
--   Merging      what becomes of a byte that another is merged into, and bit by bit the same
--   Merged       each byte of a span is merged with what B has for it, bit by bit
--   Mended       the first byte has its former bits again where the mask lacks them; every other byte stays
--   Recoded      the codes of a span are as S says; its spare bits, which are no codes, stay
--   AgreeAt      the bytes of two spans agree at the bit m
--   Differ       r lacks the bits at which two spans agree, and has the others
--
-- Assumes nothing.
use Rattle.std.specs.Prelude.{◌≡◌, ℕ, ◌*◌, ◌^◌, ◌<◌, ◌≤◌, Bool, false, cond, ◌≢◌, List, length, slice_index}
use Rattle.logic.specs.Codes.{bit}
use Rattle.full.specs.Bytes.{width, bit_from}

pub record Merging : Type 0 where
  pub bytes : ℕ → ℕ → ℕ
  pub bits : Bool → Bool → Bool
  pub bitwise : (a b m : ℕ) → bit (bytes a b) m ≡ bits (bit a m) (bit b m)

abbrev pub Merged : (Bool → Bool → Bool) → List ℕ → List ℕ → (ℕ → ℕ → Bool) → Type 0
Merged on old new B = (x m : ℕ) → x < length old → m < 8 → bit (slice_index new x) m ≡ on (bit (slice_index old x) m) (B x m)

pub record Mended (old new : List ℕ) (before mask : ℕ) : Type 0 where
  pub others : (k : ℕ) → k ≢ 0 → slice_index new k ≡ slice_index old k
  pub first : (m : ℕ) → m < 8 → bit (slice_index new 0) m ≡ cond (bit mask m) (bit (slice_index old 0) m) (bit before m)

pub record Recoded (n : ℕ) (old new : List ℕ) (S : ℕ → Bool) : Type 0 where
  pub codes : (c : ℕ) → c < 2 ^ n → bit_from new 0 c ≡ S c
  pub spare : (c : ℕ) → 2 ^ n ≤ c → c < 8 * width n → bit_from new 0 c ≡ bit_from old 0 c

abbrev pub AgreeAt : List ℕ → List ℕ → ℕ → Type 0
AgreeAt first second m = (x : ℕ) → x < length first → bit (slice_index first x) m ≡ bit (slice_index second x) m

abbrev pub Differ : List ℕ → List ℕ → ℕ → Type 0
Differ first second r = (m : ℕ) → (bit r m ≡ false → AgreeAt first second m) × (AgreeAt first second m → bit r m ≡ false)
