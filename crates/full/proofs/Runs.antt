-- A span whose runs of bytes are cleared and kept by turns.
use Rattle.std.proofs.Common.{◌≡◌, ℕ, ◌+◌, ◌-◌, ◌*◌, ◌/◌, ◌%◌, ◌^◌, ◌<◌, ◌≤◌, ◌⊎◌, Bool, true, false, ◌&&◌, ◌||◌, eqb, leb, List, length, get_or, sym, ap, ◌∙◌, inl, inr, ⊎_elim, mul_assoc, mul_comm, add-mul, one-mul, zero-mul, arith, pow-add}
use native.Mathlib.Nat.{mul-mod_left}
use Rattle.std.proofs.lemmas.Nat.{mul-le, div-mul-add, div-add-mod'}
use Rattle.std.proofs.lemmas.Bool.{cases_lt, lt-leb, le-leb}
use Rattle.logic.specs.Codes.{bit}
use Rattle.full.specs.Passes.{Merged}
use Rattle.full.proofs.BitLaws.{bit_none_of}

-- the byte z of the first run of the pair q, and of its second
run_low : (q r z : ℕ) → z < r → eqb ((q * (2 * r) + z) / r % 2) 1 ≡ false
run_low q r z h =
    let e : q * (2 * r) + z ≡ (2 * q) * r + z = ap (λ t. t + z) (sym (mul_assoc q 2 r) ∙ ap (λ t. t * r) (mul_comm q 2)) in
    ap (λ t. eqb t 1) (ap (λ t. t / r % 2) e ∙ ap (λ t. t % 2) (div-mul-add (2 * q) r z h) ∙ (let even : 2 * q % 2 ≡ 0 = omega arith in even))

run_high : (q r z : ℕ) → z < r → eqb ((q * (2 * r) + (r + z)) / r % 2) 1 ≡ true
run_high q r z h =
    let e : q * (2 * r) + (r + z) ≡ (2 * q + 1) * r + z =
    let a = mul_assoc q 2 r in let b = ap (λ t. t * r) (mul_comm q 2) in let d = add-mul (2 * q) 1 r in let f = one-mul r in omega arith in
    ap (λ t. eqb t 1) (ap (λ t. t / r % 2) e ∙ ap (λ t. t % 2) (div-mul-add (2 * q + 1) r z h) ∙ (let odd : (2 * q + 1) % 2 ≡ 1 = omega arith in odd))

-- the bytes below n are cleared and kept by turns
abbrev pub Kept : List ℕ → List ℕ → ℕ → ℕ → Type 0
Kept old new r n = (x m : ℕ) → x < length old → m < 8 → bit (get_or new x 0) m ≡ (bit (get_or old x 0) m && (leb n x || eqb (x / r % 2) 1))

-- a pair that is counted lies in the span
pub runs_fit : (q pairs r : ℕ) → q < pairs → q * (2 * r) + 2 * r ≤ pairs * (2 * r)
runs_fit q pairs r h =
    let a : (q + 1) * (2 * r) ≤ pairs * (2 * r) = mul-le (q + 1) (2 * r) pairs (2 * r) (omega arith) (omega arith) in
    omega (arith, add-mul q 1 (2 * r), one-mul (2 * r))

kept_all : (p q : Bool) → q ≡ true → p ≡ (p && q)
kept_all p q h = grind arith

kept_none : (p q : Bool) → q ≡ false → false ≡ (p && q)
kept_none p q h = grind arith

both_on : (p a b : Bool) → b ≡ true → (p && (true || b)) ≡ (p && (a || b))
both_on p a b h = grind arith

-- no pair yet
pub kept_first : (old : List ℕ) (r : ℕ) → Kept old old r (0 * (2 * r))
kept_first old r x m x< m< =
    let e = zero-mul (2 * r) in
    kept_all (bit (get_or old x 0) m) _ (ap (λ t. t || eqb (x / r % 2) 1) (le-leb (0 * (2 * r)) x (omega arith)))

-- One pair of runs more: a byte before the pair is as the earlier pairs left it, one of the first run is cleared, one of
-- the second is untouched so far, since neither the earlier pairs nor this clearing reach it.
pub kept_more : (old new after : List ℕ) (r q : ℕ) → 1 ≤ r → Kept old new r (q * (2 * r))
    → ((x : ℕ) → (x < q * (2 * r)) ⊎ (q * (2 * r) + r ≤ x) → get_or after x 0 ≡ get_or new x 0)
    → ((z : ℕ) → z < r → ◌≡◌ {A = ℕ} (get_or after (q * (2 * r) + z) 0) 0)
    → Kept old after r ((q + 1) * (2 * r))
kept_more old new after r q some have others cleared x m x< m< =
    let n = q * (2 * r) in
    let more : (q + 1) * (2 * r) ≡ n + 2 * r = add-mul q 1 (2 * r) ∙ ap (λ t. n + t) (one-mul (2 * r)) in
    let p = bit (get_or old x 0) m in
    let odd = eqb (x / r % 2) 1 in
    ⊎_elim
    (λ low. ap (λ v. bit v m) (others x (inl low)) ∙ have x m x< m<
    ∙ ap (λ t. p && (t || odd)) (lt-leb n x low ∙ sym (lt-leb ((q + 1) * (2 * r)) x (omega arith))))
    (λ from. ⊎_elim
    (λ gone.
    let z = x - n in
    let e : n + z ≡ x = omega arith in
    let off : odd ≡ false = ap (λ t. eqb (t / r % 2) 1) (sym e) ∙ run_low q r z (omega arith) in
    ap (λ v. bit v m) (ap (λ t. get_or after t 0) (sym e) ∙ cleared z (omega arith)) ∙ bit_none_of m
    ∙ kept_none p _ (ap (λ t. t || odd) (lt-leb ((q + 1) * (2 * r)) x (omega arith)) ∙ off))
    (λ beyond. ap (λ v. bit v m) (others x (inr beyond)) ∙ have x m x< m< ∙ ap (λ t. p && (t || odd)) (le-leb n x (omega arith))
    ∙ ⊎_elim
    (λ kept.
    let z = x - n - r in
    let e : n + (r + z) ≡ x = omega arith in
    let on : odd ≡ true = ap (λ t. eqb (t / r % 2) 1) (sym e) ∙ run_high q r z (omega arith) in
    both_on p (leb ((q + 1) * (2 * r)) x) odd on)
    (λ behind. ap (λ t. p && (t || odd)) (sym (le-leb ((q + 1) * (2 * r)) x (omega arith))))
    (cases_lt x (n + 2 * r)))
    (cases_lt x (n + r)))
    (cases_lt x n)

-- all pairs
pub kept_last : (old new : List ℕ) (r n : ℕ) → Kept old new r n → length old ≤ n → Merged ◌&&◌ old new (λ x m. eqb (x / r % 2) 1)
kept_last old new r n have end x m x< m< =
    have x m x< m< ∙ ap (λ t. bit (get_or old x 0) m && (t || eqb (x / r % 2) 1)) (lt-leb n x (omega arith))

-- a span of a power of two is whole runs
pub whole_runs : (i j : ℕ) → i ≤ j → 2 ^ j % 2 ^ i ≡ 0
whole_runs i j h =
    let e : 2 ^ j ≡ 2 ^ (j - i) * 2 ^ i = ap (λ t. 2 ^ t) (omega arith) ∙ pow-add 2 (j - i) i in
    ap (λ t. t % 2 ^ i) e ∙ mul-mod_left (2 ^ (j - i)) (2 ^ i)

-- the runs of a bit
pub runs_count : (count b : ℕ) → 3 ≤ b → count % 2 ^ (b - 2) ≡ 0 → count / 2 ^ (b - 2) * (2 * 2 ^ (b - 3)) ≡ count
runs_count count b h whole =
    let e : 2 * 2 ^ (b - 3) ≡ 2 ^ (b - 2) = mul_comm 2 (2 ^ (b - 3)) ∙ sym (pow-add 2 (b - 3) 1) ∙ ap (λ t. 2 ^ t) (omega arith) in
    let all : count / 2 ^ (b - 2) * 2 ^ (b - 2) ≡ count = omega (arith, div-add-mod' count (2 ^ (b - 2))) in
    ap (λ t. count / 2 ^ (b - 2) * t) e ∙ all
