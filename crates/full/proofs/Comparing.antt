-- What the passes that read say of the sets.
use Rattle.std.proofs.Common.{◌≡◌, ℕ, ◌+◌, ◌*◌, ◌/◌, ◌%◌, ◌^◌, ◌<◌, ◌≤◌, Bool, true, false, ◌&&◌, eqb, ltb, List, length, get_or, Some, None, Option, Decides, sym, ap, ◌∙◌, subst, ⊎_elim, zero-add, arith}
use lib.Bits.{bit_and}
use Rattle.std.proofs.lemmas.Nat.{and_le_l}
use Rattle.std.proofs.lemmas.Bool.{cases_Bool, cases_lt, eqb-true, eq-eqb, lt-ltb, le-ltb, ltb-true, cond-true, cond-false}
use Rattle.std.proofs.lemmas.Map.Entries.{option_filter}
use Rattle.std.proofs.lemmas.Bool.Decides.{Decides-like}
use Rattle.logic.specs.Codes.{bit}
use Rattle.store.specs.Calls.{SameMembers}
use Rattle.store.specs.Least.{Least}
use Rattle.store.specs.declared.shape.Shape.{Shape}
use Rattle.full.specs.Bytes.{width, bit_from, CodeMask}
use Rattle.full.specs.Passes.{Differ}
use Rattle.full.specs.Stores.{shape_bits, full_sets, Shown}
use Rattle.full.proofs.BitLaws.{and_bit, bit_none_of, no_bits}
use Rattle.full.proofs.Members.{by_bits, no_code}
use Rattle.full.proofs.Widths.{codes_of_width, code_within}

both_off : (p q : Bool) → (p && q) ≡ false → q ≡ true → p ≡ false
both_off p q h k = grind arith

one_off : (p q : Bool) → (q ≡ true → p ≡ false) → (p && q) ≡ false
one_off p q h = ⊎_elim (λ e. let z = h e in grind arith) (λ e. grind arith) (cases_Bool q)

-- Two spans that differ at no bit of the mask have the same codes: the code c is bit c mod 8 of a byte, and below 2^n
-- that bit is in the mask. A bit of the mask is a code in every byte of the span.
same_codes : (n : ℕ) (first second : List ℕ) (d mask : ℕ) → length first ≡ width n → CodeMask n mask → d < 256 → Differ first second d
    → Decides (eqb (bit_and d mask) 0) ((c : ℕ) → c < 2 ^ n → bit_from first 0 c ≡ bit_from second 0 c)
same_codes n first second d mask wide masks small differ = (
  λ e c c<.
      let none : bit (bit_and d mask) (c % 8) ≡ false = ap (λ x. bit x (c % 8)) (eqb-true (bit_and d mask) 0 e) ∙ bit_none_of (c % 8) in
      let on : bit mask (c % 8) ≡ true = masks (c % 8) (omega arith) ∙ lt-ltb (c % 8) (2 ^ n) (omega arith) in
      let x< = code_within n c c< in
      let place = zero-add (c / 8) in
      ap (λ p. bit (get_or first p 0) (c % 8)) place
      ∙ (differ (c % 8)).0 (both_off (bit d (c % 8)) (bit mask (c % 8)) (sym (and_bit d mask (c % 8)) ∙ none) on) (c / 8) (omega arith)
      ∙ ap (λ p. bit (get_or second p 0) (c % 8)) (sym place),
  λ all. eq-eqb (bit_and d mask) 0 (no_bits (bit_and d mask) (omega (arith, and_le_l d mask)) (λ m m<.
      and_bit d mask m ∙ one_off (bit d m) (bit mask m) (λ on. (differ m).1 (λ x x<.
      let low : m < 2 ^ n = ltb-true m (2 ^ n) (sym (masks m m<) ∙ on) in
      let c< : 8 * x + m < 2 ^ n = ⊎_elim (λ h. omega arith) (λ h. omega arith) (codes_of_width n) in
      let q : 0 + (8 * x + m) / 8 ≡ x = omega arith in
      let r : (8 * x + m) % 8 ≡ m = omega arith in
      let e = all (8 * x + m) c< in
      rw (q, r) at e)))),
)

pub shown_bits : (s : Shape) (bytes : List ℕ) (i : ℕ) (span : List ℕ) (c : ℕ) → Shown s bytes i span → c < 2 ^ shape_bits s → full_sets s bytes i c ≡ bit_from span 0 c
shown_bits s bytes i span c shown c< = by_bits (shape_bits s) bytes i c shown.inside c< ∙ sym (shown.bits c (code_within (shape_bits s) c c<))

pub same_sets : (s : Shape) (bytes : List ℕ) (i j : ℕ) (first second : List ℕ) (d mask : ℕ) → Shown s bytes i first → Shown s bytes j second
    → CodeMask (shape_bits s) mask → d < 256 → Differ first second d
    → Decides (eqb (bit_and d mask) 0) (SameMembers (full_sets s bytes i) (full_sets s bytes j))
same_sets s bytes i j first second d mask one two masks small differ =
    let n = shape_bits s in
    Decides-like (eqb (bit_and d mask) 0)
    (λ alike c. ⊎_elim
    (λ c<. shown_bits s bytes i first c one c< ∙ alike c c< ∙ sym (shown_bits s bytes j second c two c<))
    (λ ge. no_code n bytes i c ge ∙ sym (no_code n bytes j c ge))
    (cases_lt c (2 ^ n)))
    (λ all c c<. sym (shown_bits s bytes i first c one c<) ∙ all c ∙ shown_bits s bytes j second c two c<)
    (same_codes n first second d mask one.long masks small differ)

-- the first bit that is set, if it is a code
next_none : (s : Shape) (bytes : List ℕ) (i : ℕ) (span : List ℕ) (c : ℕ) → Shown s bytes i span
    → ((d : ℕ) → c ≤ d → d < 2 ^ shape_bits s → bit_from span 0 d ≡ false) → Least (full_sets s bytes i) c None
next_none s bytes i span c shown none d le =
    ⊎_elim
    (λ d<. shown_bits s bytes i span d shown d< ∙ none d le d<)
    (λ ge. no_code (shape_bits s) bytes i d ge)
    (cases_lt d (2 ^ shape_bits s))

pub next_code : (s : Shape) (bytes : List ℕ) (i : ℕ) (span : List ℕ) (c : ℕ) (o : Option ℕ) → Shown s bytes i span
    → Least (bit_from span 0) c o → Least (full_sets s bytes i) c (option_filter (λ d. ltb d (2 ^ shape_bits s)) o)
next_code s bytes i span c None shown least = next_none s bytes i span c shown (λ d le d<. least d le)
next_code s bytes i span c (Some e) shown least =
    let P : Option ℕ → Type 0 = Least (full_sets s bytes i) c in
    ⊎_elim
    (λ e<. subst P (sym (cond-true (ltb e (2 ^ shape_bits s)) (Some e) None (lt-ltb e (2 ^ shape_bits s) e<))) (
      least.0,
      shown_bits s bytes i span e shown e< ∙ least.1,
      λ d le lt. shown_bits s bytes i span d shown (omega arith) ∙ least.2 d le lt,
    ))
    (λ ge. subst P (sym (cond-false (ltb e (2 ^ shape_bits s)) (Some e) None (le-ltb e (2 ^ shape_bits s) ge)))
    (next_none s bytes i span c shown (λ d le d<. least.2 d le (omega arith))))
    (cases_lt e (2 ^ shape_bits s))
