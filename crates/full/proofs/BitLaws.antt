-- The bits of a number.
use Rattle.std.proofs.Common.{◌≡◌, ℕ, zero, suc, ◌+◌, ◌-◌, ◌*◌, ◌/◌, ◌%◌, ◌^◌, ◌<◌, ◌≤◌, Bool, true, false, not, ◌&&◌, ◌||◌, eqb, ltb, sym, refl, ap, ◌∙◌, ⊎_elim, zero-mul, arith, pow_mono}
use native.Mathlib.Nat.{zero-div}
use lib.Bits.{bit_and, bit_or, bit_xor}
use Rattle.std.proofs.lemmas.Nat.{and_shr, or_shr, xor_shr, and_mod, or_mod, xor_mod, shr-shr, mod-pow-add}
use Rattle.std.proofs.lemmas.Bool.{lt-ltb, cases_eq, eqb-false}
use Rattle.logic.specs.Codes.{bit}

abbrev low : (op : ℕ → ℕ → ℕ) (f : Bool → Bool → Bool) → Type 0
low op f = (x y : ℕ) → x < 2 → y < 2 → eqb (op x y) 1 ≡ f (eqb x 1) (eqb y 1)

and_low : low bit_and ◌&&◌
and_low zero zero _ _ = refl
and_low zero (suc zero) _ _ = refl
and_low (suc zero) zero _ _ = refl
and_low (suc zero) (suc zero) _ _ = refl
and_low zero (suc (suc y)) _ h = absurd (omega arith)
and_low (suc zero) (suc (suc y)) _ h = absurd (omega arith)
and_low (suc (suc x)) y h _ = absurd (omega arith)

or_low : low bit_or ◌||◌
or_low zero zero _ _ = refl
or_low zero (suc zero) _ _ = refl
or_low (suc zero) zero _ _ = refl
or_low (suc zero) (suc zero) _ _ = refl
or_low zero (suc (suc y)) _ h = absurd (omega arith)
or_low (suc zero) (suc (suc y)) _ h = absurd (omega arith)
or_low (suc (suc x)) y h _ = absurd (omega arith)

pub and_bit : (a b m : ℕ) → bit (bit_and a b) m ≡ (bit a m && bit b m)
and_bit a b m =
    ap (λ x. eqb (x % 2) 1) (and_shr a b m) ∙ ap (λ x. eqb x 1) (and_mod (a / 2 ^ m) (b / 2 ^ m) 1)
    ∙ and_low (a / 2 ^ m % 2) (b / 2 ^ m % 2) (omega arith) (omega arith)

pub or_bit : (a b m : ℕ) → bit (bit_or a b) m ≡ (bit a m || bit b m)
or_bit a b m =
    ap (λ x. eqb (x % 2) 1) (or_shr a b m) ∙ ap (λ x. eqb x 1) (or_mod (a / 2 ^ m) (b / 2 ^ m) 1)
    ∙ or_low (a / 2 ^ m % 2) (b / 2 ^ m % 2) (omega arith) (omega arith)

-- a set and itself
pub or_same : (p : Bool) → (p || p) ≡ p
or_same p = grind arith

pub and_same : (p : Bool) → (p && p) ≡ p
and_same p = grind arith

xor_low : low bit_xor (λ p q. (p || q) && not (p && q))
xor_low zero zero _ _ = refl
xor_low zero (suc zero) _ _ = refl
xor_low (suc zero) zero _ _ = refl
xor_low (suc zero) (suc zero) _ _ = refl
xor_low zero (suc (suc y)) _ h = absurd (omega arith)
xor_low (suc zero) (suc (suc y)) _ h = absurd (omega arith)
xor_low (suc (suc x)) y h _ = absurd (omega arith)

pub xor_bit : (a b m : ℕ) → bit (bit_xor a b) m ≡ ((bit a m || bit b m) && not (bit a m && bit b m))
xor_bit a b m =
    ap (λ x. eqb (x % 2) 1) (xor_shr a b m) ∙ ap (λ x. eqb x 1) (xor_mod (a / 2 ^ m) (b / 2 ^ m) 1)
    ∙ xor_low (a / 2 ^ m % 2) (b / 2 ^ m % 2) (omega arith) (omega arith)

without : (p q : Bool) → ((q || (q && p)) && not (q && (q && p))) ≡ (q && not p)
without p q = grind arith

-- b without the bits of a
pub without_bit : (a b m : ℕ) → bit (bit_xor b (bit_and b a)) m ≡ (bit b m && not (bit a m))
without_bit a b m = xor_bit b (bit_and b a) m ∙ ap (λ t. (bit b m || t) && not (bit b m && t)) (and_bit b a m) ∙ without (bit a m) (bit b m)

-- one bit more at the low end
pub bit_first : (r t : ℕ) → t < 2 → bit (r * 2 + t) 0 ≡ eqb t 1
bit_first r t h = ap (λ x. eqb x 1) (omega arith)

pub bit_rest : (r t m : ℕ) → t < 2 → bit (r * 2 + t) (m + 1) ≡ bit r m
bit_rest r t m h =
    let half : (r * 2 + t) / 2 ≡ r = omega arith in
    let down : (r * 2 + t) / 2 ^ (m + 1) ≡ r / 2 ^ m =
    ap (λ e. (r * 2 + t) / 2 ^ e) (omega arith) ∙ sym (shr-shr (r * 2 + t) 1 m) ∙ ap (λ x. x / 2 ^ m) half in
    ap (λ x. eqb (x % 2) 1) down

pub bit_none_of : (m : ℕ) → bit 0 m ≡ false
bit_none_of m = ap (λ x. eqb (x % 2) 1) (zero-div (2 ^ m))

-- a statement on each bit of a byte
pub below8 : (P : ℕ → Type 0) → P 0 → P 1 → P 2 → P 3 → P 4 → P 5 → P 6 → P 7 → (m : ℕ) → m < 8 → P m
below8 P a b c d e f g h zero lt = a
below8 P a b c d e f g h (suc zero) lt = b
below8 P a b c d e f g h (suc (suc zero)) lt = c
below8 P a b c d e f g h (suc (suc (suc zero))) lt = d
below8 P a b c d e f g h (suc (suc (suc (suc zero)))) lt = e
below8 P a b c d e f g h (suc (suc (suc (suc (suc zero))))) lt = f
below8 P a b c d e f g h (suc (suc (suc (suc (suc (suc zero)))))) lt = g
below8 P a b c d e f g h (suc (suc (suc (suc (suc (suc (suc zero))))))) lt = h
below8 P a b c d e f g h (suc (suc (suc (suc (suc (suc (suc (suc m)))))))) lt = absurd (omega arith)

not_low : (t u : ℕ) → t < 2 → u ≡ 1 - t → eqb u 1 ≡ not (eqb t 1)
not_low zero u h e = ap (λ v. eqb v 1) e
not_low (suc zero) u h e = ap (λ v. eqb v 1) e
not_low (suc (suc t)) u h e = absurd (omega arith)

-- the bits that a byte lacks
pub not_bit : (a m : ℕ) → a < 256 → m < 8 → bit (255 - a) m ≡ not (bit a m)
not_bit a m small lt =
    not_low (a / 2 ^ m % 2) ((255 - a) / 2 ^ m % 2) (omega arith)
    (below8 (λ k. (255 - a) / 2 ^ k % 2 ≡ 1 - a / 2 ^ k % 2) (omega arith) (omega arith) (omega arith) (omega arith) (omega arith) (omega arith) (omega arith) (omega arith) m lt)

pub mask_0 : (m : ℕ) → m < 8 → bit 170 m ≡ bit m 0
mask_0 = below8 (λ m. bit 170 m ≡ bit m 0) refl refl refl refl refl refl refl refl

pub mask_1 : (m : ℕ) → m < 8 → bit 204 m ≡ bit m 1
mask_1 = below8 (λ m. bit 204 m ≡ bit m 1) refl refl refl refl refl refl refl refl

pub mask_2 : (m : ℕ) → m < 8 → bit 240 m ≡ bit m 2
mask_2 = below8 (λ m. bit 240 m ≡ bit m 2) refl refl refl refl refl refl refl refl

pub full_byte : (t m : ℕ) → t < 2 → m < 8 → bit (t * 255) m ≡ eqb t 1
full_byte zero m two lt = bit_none_of m
full_byte (suc zero) m two lt = below8 (λ j. bit 255 j ≡ true) refl refl refl refl refl refl refl refl m lt
full_byte (suc (suc t)) m two lt = absurd (omega arith)

-- the lowest 2^n bits of a byte
pub low_codes_0 : (m : ℕ) → m < 8 → bit 1 m ≡ ltb m (2 ^ 0)
low_codes_0 = below8 (λ m. bit 1 m ≡ ltb m (2 ^ 0)) refl refl refl refl refl refl refl refl

pub low_codes_1 : (m : ℕ) → m < 8 → bit 3 m ≡ ltb m (2 ^ 1)
low_codes_1 = below8 (λ m. bit 3 m ≡ ltb m (2 ^ 1)) refl refl refl refl refl refl refl refl

pub low_codes_2 : (m : ℕ) → m < 8 → bit 15 m ≡ ltb m (2 ^ 2)
low_codes_2 = below8 (λ m. bit 15 m ≡ ltb m (2 ^ 2)) refl refl refl refl refl refl refl refl

pub low_codes_all : (n m : ℕ) → 3 ≤ n → m < 8 → bit 255 m ≡ ltb m (2 ^ n)
low_codes_all n m h lt = let top : 2 ^ 3 ≤ 2 ^ n = pow_mono {i = 3} {j = n} h in full_byte 1 m (omega arith) lt ∙ sym (lt-ltb m (2 ^ n) (omega arith))

-- a number whose k lowest bits are clear
pub clear_low : (d k : ℕ) → ((m : ℕ) → m < k → bit d m ≡ false) → d % 2 ^ k ≡ 0
clear_low d zero none = omega arith
clear_low d (suc k) none =
    let split : d % 2 ^ (1 + k) ≡ (d / 2 ^ k % 2 ^ 1) * 2 ^ k + d % 2 ^ k = mod-pow-add d 1 k in
    let not_one = eqb-false (d / 2 ^ k % 2) 1 (none k (omega arith)) in
    let digit : d / 2 ^ k % 2 ≡ 0 = ⊎_elim (λ e. e) (λ ne. absurd (not_one (omega arith))) (cases_eq (d / 2 ^ k % 2) 0) in
    let top : (d / 2 ^ k % 2) * 2 ^ k ≡ 0 * 2 ^ k = ap (λ t. t * 2 ^ k) digit in
    let rest = clear_low d k (λ m h. none m (omega arith)) in
    let same : d % 2 ^ suc k ≡ d % 2 ^ (1 + k) = ap (λ j. d % 2 ^ j) (omega arith) in
    omega (arith, zero-mul (2 ^ k))

pub no_bits : (x : ℕ) → x < 256 → ((m : ℕ) → m < 8 → bit x m ≡ false) → x ≡ 0
no_bits x small none = let low = clear_low x 8 none in omega arith
