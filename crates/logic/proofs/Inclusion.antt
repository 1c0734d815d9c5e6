-- Codes by their bits: which are valuations, and that inclusion orders them.
use Rattle.std.proofs.Common.{◌≡◌, ℕ, zero, suc, ◌+◌, ◌*◌, ◌/◌, ◌%◌, ◌^◌, ◌<◌, ◌≤◌, true, eqb, ltb, sym, refl, ap, ◌∙◌, subst, inl, inr, not-suc-le-zero, mul_comm, arith}
use Rattle.std.proofs.lemmas.Nat.{shr-shr, shr_below, div-add-mod', div_below, mod_below, mod-pow-add}
use Rattle.std.proofs.lemmas.Bool.{eqb-true, eq-eqb, ltb-true, lt-ltb, and_parts, and_from, cases_lt, cases_eq}
use Rattle.logic.specs.Codes.{bit, gives, inhabited, Includes}
use Rattle.logic.specs.Laws.{ValuationTested, InclusionOrder}
use Rattle.logic.proofs.Counting.{one_more}

-- the first bit, and the bits of half a number
pub bit_zero : (v : ℕ) → bit v 0 ≡ true → v % 2 ≡ 1
bit_zero v e = let p = eqb-true (v / 2 ^ 0 % 2) 1 e in omega arith

pub zero_bit : (v : ℕ) → v % 2 ≡ 1 → bit v 0 ≡ true
zero_bit v e = eq-eqb (v / 2 ^ 0 % 2) 1 (omega arith)

pub bit_half : (v b : ℕ) → bit (v / 2) b ≡ bit v (suc b)
bit_half v b =
    let e : 1 + b ≡ suc b = omega arith in
    ap (λ x. eqb (x % 2) 1) (shr-shr v 1 b ∙ ap (λ k. v / 2 ^ k) e)

-- the bits of a shifted number
pub bit_shifted : (v j b : ℕ) → bit (v / 2 ^ j) b ≡ bit v (j + b)
bit_shifted v j b = ap (λ x. eqb (x % 2) 1) (shr-shr v j b)

half_below : (n v : ℕ) → v < 2 ^ suc n → v / 2 < 2 ^ n
half_below n v l = let e : suc n ≡ n + 1 = omega arith in shr_below v n 1 (subst (λ k. v < 2 ^ k) e l)

-- a number whose bits another has is no larger
pub bits_le : (n v w : ℕ) → v < 2 ^ n → ((b : ℕ) → b < n → bit v b ≡ true → bit w b ≡ true) → v ≤ w
bits_le zero v w l h = omega arith
bits_le (suc n) v w l h =
    let high = bits_le n (v / 2) (w / 2) (half_below n v l) (λ b k e. bit_half w b ∙ h (suc b) (omega arith) (sym (bit_half v b) ∙ e)) in
    let low : v % 2 ≤ w % 2 =
    elim (cases_lt (v % 2) 1) [
      | inl z ↦ omega arith
      | inr o ↦ (let q = bit_zero w (h 0 (omega arith) (zero_bit v (omega arith))) in omega arith)
    ] in
    omega arith

-- inclusion, bit by bit: the bit b is the action b % A of the variable b / A
pub includes_bits : (actions variables w v : ℕ) → Includes actions variables w v
    → (b : ℕ) → b < actions * variables → bit v b ≡ true → bit w b ≡ true
includes_bits zero variables w v h b l e = absurd (omega arith)
includes_bits (suc a) variables w v h b l e =
    let split : b / suc a * suc a + b % suc a ≡ b = div-add-mod' b (suc a) in
    subst (λ j. bit w j ≡ true) split
    (h (b / suc a) (b % suc a) (div_below b (suc a) variables (omega arith) (subst (λ z. b < z) (mul_comm (suc a) variables) l))
    (mod_below b (suc a) (omega arith)) (subst (λ j. bit v j ≡ true) (sym split) e))

pub includes_le : (actions variables w v : ℕ) → v < 2 ^ (actions * variables) → Includes actions variables w v → v ≤ w
includes_le actions variables w v l h = bits_le (actions * variables) v w l (includes_bits actions variables w v h)

pub includes_trans : (actions variables u v w : ℕ) → Includes actions variables u v → Includes actions variables v w → Includes actions variables u w
includes_trans actions variables u v w a b y x k l e = a y x k l (b y x k l e)

pub includes_same : (actions variables v w : ℕ) → v < 2 ^ (actions * variables) → w < 2 ^ (actions * variables)
    → Includes actions variables v w → Includes actions variables w v → v ≡ w
includes_same actions variables v w lv lw a b =
    let p = includes_le actions variables v w lw a in
    let q = includes_le actions variables w v lv b in
    omega arith

pub inclusion_order : InclusionOrder
inclusion_order = record {
  reflexive = λ actions variables c y a k l e. e;
  transitive = includes_trans;
  antisymmetric = includes_same;
}

-- a number is not 0 below 2^n exactly where it has a bit below n
split_low : (n x : ℕ) → x % 2 ^ suc n ≡ (x / 2 % 2 ^ n) * 2 + x % 2
split_low n x = let e : suc n ≡ n + 1 = omega arith in ap (λ k. x % 2 ^ k) e ∙ mod-pow-add x n 1

pub some_bit : (n x : ℕ) → 0 < x % 2 ^ n → (a : ℕ) × (a < n) × (bit x a ≡ true)
some_bit zero x h = absurd (omega arith)
some_bit (suc n) x h =
    elim (cases_eq (x % 2) 1) [
      | inl e ↦ (0, omega arith, zero_bit x e)
      | inr ne ↦ (
          let p = some_bit n (x / 2) (omega (arith, split_low n x)) in
          (suc p.0, omega (arith, p.1), sym (bit_half x p.0) ∙ p.2))
    ]

pub bit_some : (n x a : ℕ) → a < n → bit x a ≡ true → 0 < x % 2 ^ n
bit_some zero x a l e = absurd (not-suc-le-zero l)
bit_some (suc n) x zero l e = omega (arith, split_low n x, bit_zero x e)
bit_some (suc n) x (suc a) l e =
    let p = bit_some n (x / 2) a (omega arith) (bit_half x a ∙ e) in
    omega (arith, split_low n x)

-- the actions of one variable
field_gives : (actions c y : ℕ) → 0 < c / 2 ^ (y * actions) % 2 ^ actions → (a : ℕ) × (a < actions) × (gives actions c y a ≡ true)
field_gives actions c y h =
    let p = some_bit actions (c / 2 ^ (y * actions)) h in
    (p.0, p.1, sym (bit_shifted c (y * actions) p.0) ∙ p.2)

gives_field : (actions c y a : ℕ) → a < actions → gives actions c y a ≡ true → 0 < c / 2 ^ (y * actions) % 2 ^ actions
gives_field actions c y a l e = bit_some actions (c / 2 ^ (y * actions)) a l (bit_shifted c (y * actions) a ∙ e)

pub inhabited_some : (actions k c : ℕ) → inhabited actions k c ≡ true
    → (y : ℕ) → y < k → (a : ℕ) × (a < actions) × (gives actions c y a ≡ true)
inhabited_some actions zero c e y l = absurd (not-suc-le-zero l)
inhabited_some actions (suc k) c e y l =
    let p = and_parts (ltb 0 (c / 2 ^ (k * actions) % 2 ^ actions)) (inhabited actions k c) e in
    one_more (λ y. (a : ℕ) × (a < actions) × (gives actions c y a ≡ true)) k (inhabited_some actions k c p.1)
    (field_gives actions c k (ltb-true 0 (c / 2 ^ (k * actions) % 2 ^ actions) p.0)) y l

pub some_inhabited : (actions k c : ℕ) → ((y : ℕ) → y < k → (a : ℕ) × (a < actions) × (gives actions c y a ≡ true))
    → inhabited actions k c ≡ true
some_inhabited actions zero c h = refl
some_inhabited actions (suc k) c h =
    let p = h k (omega arith) in
    and_from _ _ (lt-ltb 0 (c / 2 ^ (k * actions) % 2 ^ actions) (gives_field actions c k p.0 p.1 p.2))
    (some_inhabited actions k c (λ y l. h y (omega arith)))

pub valuation_tested : ValuationTested
valuation_tested actions variables c = (
  λ e. let p = and_parts (ltb c (2 ^ (actions * variables))) (inhabited actions variables c) e in
      record { small = ltb-true c (2 ^ (actions * variables)) p.0; some = inhabited_some actions variables c p.1 },
  λ x. and_from _ _ (lt-ltb c (2 ^ (actions * variables)) x.small) (some_inhabited actions variables c x.some),
)
