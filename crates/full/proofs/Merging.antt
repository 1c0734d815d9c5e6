-- The bytes of a set that others are merged into, byte by byte.
use Rattle.std.proofs.Common.{◌≡◌, ℕ, zero, suc, ◌+◌, ◌-◌, ◌*◌, ◌/◌, ◌%◌, ◌^◌, ◌<◌, ◌≤◌, Bool, true, false, cond, not, ◌&&◌, ◌||◌, eqb, List, length, get_or, set, refl, sym, ap, ◌∙◌, ⊎_elim, zero-add, arith, pow_mono, get_or-set_other, get_or-set_same}
use lib.Bits.{bit_and, bit_or}
use Rattle.std.proofs.lemmas.Nat.{shr-shr}
use Rattle.std.proofs.lemmas.Bool.{cases_eq, cond-true, cond-false, lt-ltb, le-ltb, le-leb}
use Rattle.logic.specs.Codes.{bit}
use Rattle.full.specs.Bytes.{width, bit_from, CodeMask}
use Rattle.full.specs.Passes.{Merged, Mended, Recoded}
use Rattle.full.proofs.BitLaws.{or_bit, and_bit, not_bit, full_byte}
use Rattle.full.proofs.Widths.{codes_of_width, code_within}

-- the bits below 3 of a code are those of its bit in a byte, the others those of its byte
pub low_code : (b x m : ℕ) → b < 3 → bit m b ≡ bit (8 * x + m) b
low_code zero x m h = ap (λ t. eqb t 1) (omega arith)
low_code (suc zero) x m h = ap (λ t. eqb t 1) (omega arith)
low_code (suc (suc zero)) x m h = ap (λ t. eqb t 1) (omega arith)
low_code (suc (suc (suc b))) x m h = absurd (omega arith)

pub high_code : (b x m : ℕ) → 3 ≤ b → m < 8 → bit x (b - 3) ≡ bit (8 * x + m) b
high_code b x m h m< =
    let q : x ≡ (8 * x + m) / 2 ^ 3 = omega arith in
    let e : 3 + (b - 3) ≡ b = omega arith in
    ap (λ v. eqb (v % 2) 1) (ap (λ v. v / 2 ^ (b - 3)) q ∙ shr-shr (8 * x + m) 3 (b - 3) ∙ ap (λ j. (8 * x + m) / 2 ^ j) e)

chosen : (k p q : Bool) → ((p && k) || (q && not k)) ≡ cond k p q
chosen k p q = grind arith

-- the bits of x that the mask has, and those of `before` that it lacks
mended_byte : (x before mask m : ℕ) → mask < 256 → m < 8 → bit (bit_or (bit_and x mask) (bit_and before (255 - mask))) m ≡ cond (bit mask m) (bit x m) (bit before m)
mended_byte x before mask m small m< =
    or_bit (bit_and x mask) (bit_and before (255 - mask)) m ∙ ap (λ t. t || bit (bit_and before (255 - mask)) m) (and_bit x mask m)
    ∙ ap (λ t. (bit x m && bit mask m) || t) (and_bit before (255 - mask) m ∙ ap (λ t. bit before m && t) (not_bit mask m small m<))
    ∙ chosen (bit mask m) (bit x m) (bit before m)

pub mended : (span : List ℕ) (before mask : ℕ) → 0 < length span → mask < 256 → Mended span (set span 0 (bit_or (bit_and (get_or span 0 0) mask) (bit_and before (255 - mask)))) before mask
mended span before mask some small = record {
  others = λ k ne. get_or-set_other span 0 k _ 0 ne;
  first = λ m m<. ap (λ b. bit b m) (get_or-set_same span 0 _ 0 some) ∙ mended_byte (get_or span 0 0) before mask m small m<;
}

-- where all bits of a byte are codes
pub mended_whole : (span : List ℕ) (before mask : ℕ) → mask ≡ 255 → Mended span span before mask
mended_whole span before mask whole = record {
  others = λ k ne. refl;
  first = λ m m<. sym (cond-true (bit mask m) _ _ (ap (λ t. bit t m) whole ∙ full_byte 1 m (omega arith) m<));
}

-- A set that was merged into, byte by byte, and then mended. Its bits beyond the codes are in its first byte, if there
-- are any: there the mask gives the former ones back. A code's bit is in the mask, or in another byte.
pub recoded : (on : Bool → Bool → Bool) (n : ℕ) (old mid new : List ℕ) (mask : ℕ) (B : ℕ → ℕ → Bool)
    → length old ≡ width n → CodeMask n mask → Merged on old mid B → Mended mid new (get_or old 0 0) mask
    → Recoded n old new (λ c. on (bit_from old 0 c) (B (c / 8) (c % 8)))
recoded on n old mid new mask B wide masks merged mended = record {
  codes = λ c c<.
      let x< = code_within n c c< in
      let same : bit_from new 0 c ≡ bit_from mid 0 c = ⊎_elim
      (λ first.
      let here : 0 + c / 8 ≡ 0 = omega arith in
      let low : c % 8 ≡ c = omega arith in
      let is : bit mask (c % 8) ≡ true = masks (c % 8) (omega arith) ∙ lt-ltb (c % 8) (2 ^ n) (omega arith) in
      ap (λ p. bit (get_or new p 0) (c % 8)) here ∙ mended.first (c % 8) (omega arith)
      ∙ cond-true (bit mask (c % 8)) _ _ is ∙ ap (λ p. bit (get_or mid p 0) (c % 8)) (sym here))
      (λ behind. ap (λ b. bit b (c % 8)) (mended.others (0 + c / 8) (λ e. behind (omega arith))))
      (cases_eq (c / 8) 0) in
      let place = zero-add (c / 8) in
      same ∙ ap (λ p. bit (get_or mid p 0) (c % 8)) place ∙ merged (c / 8) (c % 8) (omega arith) (omega arith)
      ∙ ap (λ p. on (bit (get_or old p 0) (c % 8)) (B (c / 8) (c % 8))) (sym place);
  spare = λ c ge lt.
      ⊎_elim
      (λ all. absurd (omega arith))
      (λ one.
      let here : 0 + c / 8 ≡ 0 = omega arith in
      let off : bit mask (c % 8) ≡ false = masks (c % 8) (omega arith) ∙ le-ltb (c % 8) (2 ^ n) (omega arith) in
      ap (λ p. bit (get_or new p 0) (c % 8)) here ∙ mended.first (c % 8) (omega arith)
      ∙ cond-false (bit mask (c % 8)) _ _ off ∙ ap (λ p. bit (get_or old p 0) (c % 8)) (sym here))
      (codes_of_width n);
}

-- A set of one byte, which was merged with another byte and has its former bits where the mask lacks them.
pub recoded_byte : (on : Bool → Bool → Bool) (n : ℕ) (old : List ℕ) (made mask : ℕ) (B : ℕ → ℕ → Bool)
    → n < 3 → length old ≡ width n → CodeMask n mask → mask < 256 → ((m : ℕ) → m < 8 → bit made m ≡ on (bit (get_or old 0 0) m) (B 0 m))
    → Recoded n old (set old 0 (bit_or (bit_and made mask) (bit_and (get_or old 0 0) (255 - mask)))) (λ c. on (bit_from old 0 c) (B (c / 8) (c % 8)))
recoded_byte on n old made mask B few long masks small is =
    let wide : width n ≡ 1 = cond-true _ 1 (2 ^ (n - 3)) (le-leb n 3 (omega arith)) in
    let some : 0 < length old = omega arith in
    let before = get_or old 0 0 in
    let last = bit_or (bit_and made mask) (bit_and before (255 - mask)) in
    let first = get_or-set_same old 0 made 0 some in
    recoded on n old (set old 0 made) (set old 0 last) mask B long masks
    (λ x m x< m<.
    let e : x ≡ 0 = omega arith in
    ap (λ p. bit (get_or (set old 0 made) p 0) m) e ∙ ap (λ b. bit b m) first ∙ is m m< ∙ ap (λ p. on (bit (get_or old p 0) m) (B p m)) (sym e))
    (record {
      others = λ k ne. get_or-set_other old 0 k last 0 ne ∙ sym (get_or-set_other old 0 k made 0 ne);
      first = λ m m<. ap (λ b. bit b m) (get_or-set_same old 0 last 0 some) ∙ mended_byte made before mask m small m< ∙ ap (λ b. cond (bit mask m) (bit b m) (bit before m)) (sym first);
    })

-- A set without spare bits that was merged into.
pub recoded_whole : (on : Bool → Bool → Bool) (n : ℕ) (old new : List ℕ) (mask : ℕ) (B : ℕ → ℕ → Bool)
    → 3 ≤ n → length old ≡ width n → CodeMask n mask → Merged on old new B → Recoded n old new (λ c. on (bit_from old 0 c) (B (c / 8) (c % 8)))
recoded_whole on n old new mask B many long masks merged =
    let top : 2 ^ 3 ≤ 2 ^ n = pow_mono {i = 3} {j = n} many in
    recoded on n old new new mask B long masks merged
    (record { others = λ k ne. refl; first = λ m m<. sym (cond-true (bit mask m) _ _ (masks m m< ∙ lt-ltb m (2 ^ n) (omega arith))) })
