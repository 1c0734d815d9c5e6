-- How sets of codes lie in bytes, for codes of n bits. The code c of a set is bit c mod 8 of its byte c ÷ 8.
--
--   width        how many bytes a set takes
--   start        the byte at which the set i starts
--   bit_from     the bit c, counted from the byte `at` on
--   in_bytes     whether the set j, one of those that fit, has the code c
--   CodeMask     the mask has the bits of a set's first byte that are codes
--   Outside      the byte p is none of the set i
--   Rewritten    what a call that alters the set i leaves in the bytes: its codes, and nothing else, are as S says
--
-- Assumes nothing.
use Rattle.std.specs.Prelude.{◌≡◌, ℕ, ◌+◌, ◌-◌, ◌*◌, ◌/◌, ◌%◌, ◌^◌, ◌<◌, ◌≤◌, Bool, true, false, cond, ◌&&◌, ◌⊎◌, List, length, nat_le, nat_lt, slice_index}
use Rattle.logic.specs.Codes.{bit}

abbrev pub width : ℕ → ℕ
width n = cond (nat_le n 3) 1 (2 ^ (n - 3))

abbrev pub start : ℕ → ℕ → ℕ
start n i = i * width n

abbrev pub bit_from : List ℕ → ℕ → ℕ → Bool
bit_from bytes at c = bit (slice_index bytes (at + c / 8)) (c % 8)

abbrev pub in_bytes : ℕ → List ℕ → ℕ → ℕ → Bool
in_bytes n bytes j c = (nat_lt j (length bytes / width n) && nat_lt c (2 ^ n)) && bit_from bytes (start n j) c

abbrev pub CodeMask : ℕ → ℕ → Type 0
CodeMask n mask = (m : ℕ) → m < 8 → bit mask m ≡ nat_lt m (2 ^ n)

abbrev pub Outside : ℕ → ℕ → ℕ → Type 0
Outside n i p = (p < start n i) ⊎ (start n i + width n ≤ p)

-- `done`: the call was not refused
pub record Rewritten (n : ℕ) (old new : List ℕ) (done : Bool) (i : ℕ) (S : ℕ → Bool) : Type 0 where
  pub long : length new ≡ length old
  pub refused : done ≡ false → new ≡ old
  pub codes : done ≡ true → (c : ℕ) → c < 2 ^ n → bit_from new (start n i) c ≡ S c
  pub spare : (c : ℕ) → 2 ^ n ≤ c → c < 8 * width n → bit_from new (start n i) c ≡ bit_from old (start n i) c
  pub others : (p : ℕ) → Outside n i p → slice_index new p ≡ slice_index old p
