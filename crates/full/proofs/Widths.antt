-- The bytes of sets, side by side: which set a byte is of, and which of a set's bits are codes.
use Rattle.std.proofs.Common.{◌≡◌, ℕ, ◌+◌, ◌-◌, ◌*◌, ◌/◌, ◌%◌, ◌^◌, ◌<◌, ◌≤◌, ◌⊎◌, ap, ◌∙◌, inl, inr, ⊎_elim, add-mul, one-mul, arith, pow_mono, pow-add}
use Rattle.std.proofs.lemmas.Nat.{div-add-mod', mul-le, one_shl}
use Rattle.std.proofs.lemmas.Bool.{cases_lt, cond-true, cond-false, le-leb, lt-leb}
use Rattle.full.specs.Bytes.{width}
use Rattle.full.proofs.Runs.{whole_runs}

-- every bit of a set is a code, or the codes are the lowest bits of its one byte
pub codes_of_width : (n : ℕ) → (2 ^ n ≡ 8 * width n) ⊎ ((width n ≡ 1) × (2 ^ n ≤ 8))
codes_of_width n =
    ⊎_elim
    (λ big. let wide : width n ≡ 2 ^ (n - 3) = cond-false _ 1 (2 ^ (n - 3)) (lt-leb n 3 big) in
    let split : 2 ^ n ≡ 2 ^ (n - 3) * 8 = ap (λ m. 2 ^ m) (omega arith) ∙ pow-add 2 (n - 3) 3 in
    inl (omega arith))
    (λ few. let wide : width n ≡ 1 = cond-true _ 1 (2 ^ (n - 3)) (le-leb n 3 few) in
    let top : 2 ^ n ≤ 2 ^ 3 = pow_mono {i = n} {j = 3} few in
    inr (wide, omega arith))
    (cases_lt 3 n)

pub codes_fit : (n : ℕ) → 2 ^ n ≤ 8 * width n
codes_fit n = ⊎_elim (λ h. omega arith) (λ h. omega arith) (codes_of_width n)

pub code_within : (n c : ℕ) → c < 2 ^ n → c / 8 < width n
code_within n c h = let fit = codes_fit n in omega arith

pub next_start : (i j w : ℕ) → i < j → i * w + w ≤ j * w
next_start i j w h =
    let a : (i + 1) * w ≤ j * w = mul-le (i + 1) w j w (omega arith) (omega arith) in
    omega (arith, add-mul i 1 w, one-mul w)

-- a set that is counted lies in the bytes
pub set_fits : (i w len : ℕ) → i < len / w → i * w + w ≤ len
set_fits i w len h = omega (arith, next_start i (len / w) w h, div-add-mod' len w)

-- the bytes of two sets are apart
pub sets_apart : (i j w x : ℕ) → (j ≡ i → ⊥) → x < w → (j * w + x < i * w) ⊎ (i * w + w ≤ j * w + x)
sets_apart i j w x ne h =
    ⊎_elim
    (λ below. inl (omega (arith, next_start j i w below)))
    (λ above. inr (omega (arith, next_start i j w (let lt : i < j = omega arith in lt))))
    (cases_lt j i)

-- the bytes of a set are whole runs of the bit b
pub width_whole : (n b : ℕ) → b < n → 3 ≤ b → width n % 2 ^ (b - 2) ≡ 0
width_whole n b lt h =
    let wide : width n ≡ 2 ^ (n - 3) = cond-false _ 1 (2 ^ (n - 3)) (lt-leb n 3 (omega arith)) in
    ap (λ t. t % 2 ^ (b - 2)) wide ∙ whole_runs (b - 2) (n - 3) (omega arith)

pub width_within : (n : ℕ) → n ≤ 12 → width n ≤ 512
width_within n h =
    let top : 2 ^ n ≤ 2 ^ 12 = pow_mono {i = n} {j = 12} h in
    ⊎_elim (λ all. omega arith) (λ one. omega arith) (codes_of_width n)

pub width_most : (k : ℕ) → k ≤ 9 → 1 * 2 ^ k % 2 ^ 64 ≤ 512
width_most k h =
    let whole : (1 * 2 ^ k) % 2 ^ 64 ≡ 2 ^ k = one_shl k 64 (omega arith) in
    let top : 2 ^ k ≤ 2 ^ 9 = pow_mono {i = k} {j = 9} h in
    omega arith
