-- Looking at the variables one by one. Assumes nothing.
use Rattle.std.proofs.Common.{◌≡◌, ◌≢◌, ℕ, zero, suc, ◌*◌, ◌/◌, ◌%◌, ◌^◌, ◌<◌, ◌≤◌, Bool, true, false, ltb, length, get_or, sym, refl, ap, ◌∙◌, ⊎_elim, zero-add, arith, pow_mono}
use Rattle.std.specs.Bool.{MatchBool}
use Rattle.std.specs.List.{range_with_len, AllWithin, HoldsAt}
use Rattle.std.proofs.lemmas.Nat.{one_shl}
use Rattle.std.proofs.lemmas.List.FromFn.{length-range_with_len, get_or-range_with_len}
use Rattle.std.proofs.lemmas.Bool.{le-ltb, lt-ltb, cases_eq, and_right, and_left, and_from}
use Rattle.logic.specs.Codes.{inhabited}

-- every variable with an action
inhabited_all : (actions variables c : ℕ) → ((y : ℕ) → y < variables → (c / 2 ^ (y * actions) % 2 ^ actions ≡ 0 → ⊥)) → inhabited actions variables c ≡ true
inhabited_all a zero c some = refl
inhabited_all a (suc k) c some =
    and_from _ _ (lt-ltb 0 (c / 2 ^ (k * a) % 2 ^ a) (let ne = some k (omega arith) in omega arith)) (inhabited_all a k c (λ y h. some y (omega arith)))

-- a variable without an action is enough
pub inhabited_lacks : (actions variables y c : ℕ) → y < variables → c / 2 ^ (y * actions) % 2 ^ actions ≡ 0 → inhabited actions variables c ≡ false
inhabited_lacks a zero y c h none = absurd (omega arith)
inhabited_lacks a (suc k) y c h none =
    ⊎_elim
    (λ e. and_left _ (inhabited a k c) (le-ltb 0 (c / 2 ^ (k * a) % 2 ^ a) (let z : c / 2 ^ (k * a) % 2 ^ a ≡ 0 = rw e at none in omega arith)))
    (λ ne. and_right (ltb 0 (c / 2 ^ (k * a) % 2 ^ a)) _ (inhabited_lacks a k y c (omega arith) none))
    (cases_eq y k)

-- the answer after each variable was looked at, or one without an action was met
pub inhabited_is : (actions variables c m : ℕ) (r : Bool) → m ≡ 2 ^ actions
    → MatchBool r (AllWithin (λ y. c / 2 ^ (y * actions) % m ≢ 0) (range_with_len 0 variables) 0 (length (range_with_len 0 variables))) ((k : ℕ) × (k < length (range_with_len 0 variables)) × HoldsAt (λ y. c / 2 ^ (y * actions) % m ≡ 0) (range_with_len 0 variables) k)
    → r ≡ inhabited actions variables c
inhabited_is a k c m true whole all =
    sym (inhabited_all a k c (λ y h none.
    let low : y < length (range_with_len 0 k) = rw length-range_with_len h in
    let is : get_or (range_with_len 0 k) y 0 ≡ y = get_or-range_with_len 0 k y 0 h ∙ zero-add y in
    let z = rw is at (all y 0 (omega arith) low) in z (ap (λ t. c / 2 ^ (y * a) % t) whole ∙ none)))
inhabited_is a k c m false whole found =
    let y = found.0 in
    let h : y < k = rw length-range_with_len at found.1 in
    let is : get_or (range_with_len 0 k) y 0 ≡ y = get_or-range_with_len 0 k y 0 h ∙ zero-add y in
    let none = rw is at (found.2 0) in
    sym (inhabited_lacks a k y c h (ap (λ t. c / 2 ^ (y * a) % t) (sym whole) ∙ none))

-- so many codes at most
pub codes_most : (n : ℕ) → n ≤ 12 → 1 * 2 ^ n % 2 ^ 64 ≤ 4096
codes_most n h =
    let whole : (1 * 2 ^ n) % 2 ^ 64 ≡ 2 ^ n = one_shl n 64 (omega arith) in
    let top : 2 ^ n ≤ 2 ^ 12 = pow_mono {i = n} {j = 12} h in
    omega arith
