-- The ones of a code, and the order by them. Assumes nothing.
use Rattle.std.proofs.Common.{◌≡◌, ℕ, zero, suc, ◌+◌, ◌/◌, ◌%◌, ◌^◌, ◌<◌, ◌⊎◌, sym, refl, ap, ◌∙◌, inl, inr, ⊎_elim, false, Decides, is_lt, Less, Equal, Greater, Ordering, mod-eq_of_lt, one-add, arith, pow_pos}
use native.Mathlib.Nat.{mod-one}
use lib.Count as count
use Rattle.std.proofs.lemmas.Nat.{mod-pow-add, mod_below}
use Rattle.std.proofs.lemmas.Bool.{both_ways, cases_Bool, cases_order, cond-true, cond-false, eqb-true, eqb-false}
use Rattle.std.proofs.lemmas.Cmp.{ranked}
use Rattle.std.specs.Ordering.{nat_cmp, ordering_then, MatchOrdering}
use Rattle.logic.specs.Codes.{bit}
use Rattle.members.specs.Numbers.{number}
use Rattle.members.specs.Order.{ones, Before, BeforeOrders}

ones_zero : count.ones 0 ≡ 0
unfolding count.ones count.ones_in
ones_zero = refl

ones_one : count.ones 1 ≡ 1
unfolding count.ones count.ones_in
ones_one = refl

-- the lowest n + 1 bits are bit n above the lowest n
low_more : (c n : ℕ) → count.ones (c % 2 ^ suc n) ≡ count.ones (c / 2 ^ n % 2) + count.ones (c % 2 ^ n)
low_more c n =
    ap (λ k. count.ones (c % 2 ^ k)) (sym (one-add n))
    ∙ ap count.ones (mod-pow-add c 1 n)
    ∙ count.ones_cat n (c / 2 ^ n % 2) (c % 2 ^ n) (mod_below c (2 ^ n) (pow_pos n))

number_ones : (c n : ℕ) → number (bit c) n ≡ count.ones (c % 2 ^ n)
number_ones c zero = sym (ap count.ones (mod-one c) ∙ ones_zero)
number_ones c (suc n) =
    let rest = number_ones c n in
    let more = low_more c n in
    ⊎_elim
    (λ e.
    let one : count.ones (c / 2 ^ n % 2) ≡ 1 = ap count.ones (eqb-true (c / 2 ^ n % 2) 1 e) ∙ ones_one in
    let here = cond-true (bit c n) (number (bit c) n + 1) (number (bit c) n) e in
    here ∙ (let z : number (bit c) n + 1 ≡ count.ones (c % 2 ^ suc n) = omega arith in z))
    (λ e.
    let lacks : c / 2 ^ n % 2 ≡ 0 = omega (arith, eqb-false (c / 2 ^ n % 2) 1 e) in
    let none : count.ones (c / 2 ^ n % 2) ≡ 0 = ap count.ones lacks ∙ ones_zero in
    let here = cond-false (bit c n) (number (bit c) n + 1) (number (bit c) n) e in
    here ∙ (let z : number (bit c) n ≡ count.ones (c % 2 ^ suc n) = omega arith in z))
    (cases_Bool (bit c n))

-- what `count_ones` answers
pub ones_counted : (c : ℕ) → c < 2 ^ 64 → ones c ≡ count.ones c
unfolding ones
ones_counted c h = number_ones c 64 ∙ ap count.ones (mod-eq_of_lt h)

-- the order, over the ones x, y, z of the codes a, b, c
either : (x y a b : ℕ) → (a ≡ b → ⊥) → ((x < y) ⊎ ((x ≡ y) × (a < b))) ⊎ ((y < x) ⊎ ((y ≡ x) × (b < a)))
either x y a b ne =
    ⊎_elim
    (λ same. ⊎_elim (λ e. absurd (ne e)) (⊎_elim (λ lt. inl (inr (same, lt))) (λ gt. inr (inr (sym same, gt)))) (cases_order a b))
    (⊎_elim (λ lt. inl (inl lt)) (λ gt. inr (inl gt)))
    (cases_order x y)

not_both : (x y a b : ℕ) → (x < y) ⊎ ((x ≡ y) × (a < b)) → (y < x) ⊎ ((y ≡ x) × (b < a)) → ⊥
not_both x y a b p q = omega arith

carries : (x y z a b c : ℕ) → (x < y) ⊎ ((x ≡ y) × (a < b)) → (y < z) ⊎ ((y ≡ z) × (b < c)) → (x < z) ⊎ ((x ≡ z) × (a < c))
carries x y z a b c p q =
    ⊎_elim
    (λ lt. ⊎_elim (λ lt'. inl (omega arith)) (λ eq'. inl (omega (arith, eq'.0))) q)
    (λ eq. ⊎_elim (λ lt'. inl (omega (arith, eq.0))) (λ eq'. inr (eq.0 ∙ eq'.0, omega (arith, eq.1, eq'.1))) q)
    p

pub before_orders : BeforeOrders
before_orders = record {
  either = λ a b. either (ones a) (ones b) a b;
  not_both = λ a b. not_both (ones a) (ones b) a b;
  not_itself = λ a h. not_both (ones a) (ones a) a a h h;
  carries = λ a b c. carries (ones a) (ones b) (ones c) a b c;
}

-- how a pair of numbers is compared: by the first ones, of equals by the second ones
pairs : (x y a b : ℕ) (o p : Ordering) → MatchOrdering o (x < y) (x ≡ y) (y < x) → MatchOrdering p (a < b) (a ≡ b) (b < a)
    → Decides (is_lt (ordering_then o p)) ((x < y) ⊎ ((x ≡ y) × (a < b)))
pairs x y a b Less p h k = (λ _. inl h, λ _. refl)
pairs x y a b Equal Less h k = (λ _. inr (h, k), λ _. refl)
pairs x y a b Equal Equal h k = (λ e. absurd (both_ways false refl e), λ l. absurd (omega arith))
pairs x y a b Equal Greater h k = (λ e. absurd (both_ways false refl e), λ l. absurd (omega arith))
pairs x y a b Greater p h k = (λ e. absurd (both_ways false refl e), λ l. absurd (omega arith))

-- so the library's order on pairs of ones and code is the order of codes
pub before_decided : (a b : ℕ) → Decides (is_lt (ordering_then (nat_cmp (ones a) (ones b)) (nat_cmp a b))) (Before a b)
before_decided a b = pairs (ones a) (ones b) a b (nat_cmp (ones a) (ones b)) (nat_cmp a b) (ranked (ones a) (ones b) _ refl) (ranked a b _ refl)
