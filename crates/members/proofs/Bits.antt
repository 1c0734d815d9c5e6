-- Inclusion of codes, bit by bit. Assumes nothing.
use Rattle.std.proofs.Common.{◌≡◌, ℕ, zero, suc, ◌+◌, ◌*◌, ◌/◌, ◌%◌, ◌^◌, ◌<◌, min, true, eqb, Decides, sym, ap, ◌∙◌, ⊎_elim, pow-suc, arith}
use lib.Bits.{bit_and, and_step, and_zero_r}
use Rattle.std.proofs.lemmas.Nat.{mul-add-lt}
use Rattle.std.proofs.lemmas.Bool.{cases_eq}
use Rattle.std.proofs.lemmas.Bool.Decides.{Decides-eqb, Decides-like}
use Rattle.logic.specs.Codes.{bit, Includes}
use Rattle.logic.proofs.Inclusion.{bit_zero, zero_bit, bit_half, includes_bits}
use Rattle.store.specs.Masks.{Covers}
use Rattle.members.specs.Minimal.{IncludesByBits}

pub includes_by_bits : IncludesByBits
includes_by_bits actions variables c d = (
  includes_bits actions variables c d,
  λ h y a low small e. h (y * actions + a) (mul-add-lt y actions a variables low small) e,
)

-- Each bit of d is in c exactly if `and` takes nothing from d: the lowest bit by itself, the others by halving.
and_halves : (c d : ℕ) → bit_and c d ≡ d → (bit_and (c / 2) (d / 2) ≡ d / 2) × (min (c % 2) (d % 2) ≡ d % 2)
and_halves c d same = let step = and_step c d in (omega arith, omega arith)

and_bits : (c d : ℕ) → bit_and c d ≡ d → (b : ℕ) → bit d b ≡ true → bit c b ≡ true
and_bits c d same zero e =
    let one = bit_zero d e in
    let low = (and_halves c d same).1 in
    zero_bit c (omega arith)
and_bits c d same (suc b) e = sym (bit_half c b) ∙ and_bits (c / 2) (d / 2) (and_halves c d same).0 b (bit_half d b ∙ e)

lowest_kept : (c d : ℕ) → (bit d 0 ≡ true → bit c 0 ≡ true) → min (c % 2) (d % 2) ≡ d % 2
lowest_kept c d h = ⊎_elim (λ one. let also = bit_zero c (h (zero_bit d one)) in omega arith) (λ none. omega arith) (cases_eq (d % 2) 1)

covers_and : (n c d : ℕ) → d < 2 ^ n → Covers n d c → bit_and c d ≡ d
covers_and zero c d small h = let none : d ≡ 0 = omega arith in ap (bit_and c) none ∙ and_zero_r c ∙ sym none
covers_and (suc n) c d small h =
    let halves : bit_and (c / 2) (d / 2) ≡ d / 2 =
    covers_and n (c / 2) (d / 2) (omega (arith, pow-suc 2 n)) (λ b low e. bit_half c b ∙ h (suc b) (omega arith) (sym (bit_half d b) ∙ e)) in
    let lowest = lowest_kept c d (h 0 (omega arith)) in
    let step = and_step c d in
    omega arith

-- the bit test decides inclusion of bits wherever all bits of d are looked at
pub and_decides : (n c d : ℕ) → d < 2 ^ n → Decides (eqb (bit_and c d) d) (Covers n d c)
and_decides n c d small =
    Decides-like (eqb (bit_and c d) d) (λ same b _. and_bits c d same b) (covers_and n c d small) (Decides-eqb (bit_and c d) d)

pub includes_decides : (actions variables c d : ℕ) → d < 2 ^ (actions * variables) → Decides (eqb (bit_and c d) d) (Includes actions variables c d)
includes_decides actions variables c d small =
    let both = includes_by_bits actions variables c d in
    Decides-like (eqb (bit_and c d) d) both.1 both.0 (and_decides (actions * variables) c d small)
