-- The bits of a set of actions.
use Rattle.std.proofs.Common.{◌≡◌, ℕ, zero, suc, ◌+◌, ◌-◌, ◌*◌, ◌/◌, ◌%◌, ◌^◌, ◌<◌, Bool, true, false, ◌||◌, eqb, List, [], ◌∷◌, Decides, sym, refl, ap, ◌∙◌, subst, inl, inr, pow-suc, arith}
use native.Mathlib.Nat.{two-pow-succ, zero-div, div_self, div-eq_of_lt}
use lib.Bits.{bit_or, or_shr, or_mod}
use Rattle.std.specs.List.{ContainsAt as Has}
use Rattle.std.proofs.lemmas.Nat.{pow_pos, pow-add, shl-shr, pow_below, mod_below}
use Rattle.std.proofs.Math.Bool.{or_assoc}
use Rattle.std.proofs.lemmas.Bool.{cases_order, eqb-true, eq-eqb, ne_eqb, or_cases, or_parts, or_right, or_left, or_from}
use Rattle.std.proofs.lemmas.Bool.Decides.{Decides-by_or, Decides-eqb, Decides-at, same_from_decides}
use Rattle.logic.specs.Codes.{bit}
use Rattle.logic.proofs.Inclusion.{bits_le}
use Rattle.words.proofs.Words.{never_both}
use Rattle.model.specs.Grammar.{Once}

-- whether a number is in a list
abbrev pub among : ℕ → List ℕ → Bool
among b [] = false
among b (a ∷ xs) = eqb a b || among b xs

among_decides : (b : ℕ) (xs : List ℕ) → Decides (among b xs) (Has xs b)
among_decides b xs = Decides-by_or (λ x. eqb x b) (λ x. x ≡ b) (among b) (λ x. Decides-eqb x b) refl (λ _ _. refl) xs

pub bit_none : (b : ℕ) → bit 0 b ≡ false
bit_none b = ap (λ x. eqb (x % 2) 1) (zero-div (2 ^ b))

-- 2 ^ a has the bit a and no other
higher : (b j : ℕ) → bit (2 ^ (suc j + b)) b ≡ false
higher b j =
    let e : 2 ^ (suc j + b) / 2 ^ b ≡ 2 ^ j * 2 = ap (λ x. x / 2 ^ b) (pow-add 2 (suc j) b) ∙ shl-shr (2 ^ suc j) b ∙ pow-suc 2 j in
    let z : 2 ^ (suc j + b) / 2 ^ b % 2 ≡ 0 = ap (λ x. x % 2) e ∙ omega arith in
    ap (λ x. eqb x 1) z

pub bit_power : (a b : ℕ) → bit (2 ^ a) b ≡ eqb a b
bit_power a b =
    elim (cases_order a b) [
      | inl e ↦ subst (λ x. bit (2 ^ a) x ≡ eqb a x) e (ap (λ x. eqb (x % 2) 1) (div_self (pow_pos a)) ∙ sym (eq-eqb a a refl))
      | inr (inl l) ↦ ap (λ x. eqb (x % 2) 1) (div-eq_of_lt (pow_below a b l)) ∙ sym (ne_eqb a b (λ e. omega arith))
      | inr (inr l) ↦ (let k : a ≡ suc (a - suc b) + b = omega arith in ap (λ x. bit (2 ^ x) b) k ∙ higher b (a - suc b) ∙ sym (ne_eqb a b (λ e. omega arith)))
    ]

below_two : (P : ℕ → Type 0) → P 0 → P 1 → (n : ℕ) → n < 2 → P n
below_two P p0 p1 zero h = p0
below_two P p0 p1 (suc zero) h = p1
below_two P p0 p1 (suc (suc n)) h = absurd (omega arith)

one_bit : (s t : ℕ) → s < 2 → t < 2 → eqb (bit_or s t) 1 ≡ (eqb s 1 || eqb t 1)
one_bit s t ls lt =
    below_two (λ s. eqb (bit_or s t) 1 ≡ (eqb s 1 || eqb t 1))
    (below_two (λ t. eqb (bit_or 0 t) 1 ≡ (eqb 0 1 || eqb t 1)) refl refl t lt)
    (below_two (λ t. eqb (bit_or 1 t) 1 ≡ (eqb 1 1 || eqb t 1)) refl refl t lt) s ls

pub bit_of_or : (c d b : ℕ) → bit (bit_or c d) b ≡ (bit c b || bit d b)
bit_of_or c d b =
    ap (λ x. eqb (x % 2) 1) (or_shr c d b)
    ∙ ap (λ x. eqb x 1) (or_mod (c / 2 ^ b) (d / 2 ^ b) 1)
    ∙ one_bit (c / 2 ^ b % 2) (d / 2 ^ b % 2) (mod_below (c / 2 ^ b) 2 (omega arith)) (mod_below (d / 2 ^ b) 2 (omega arith))

below_power : (n : ℕ) → n < 2 ^ n
below_power zero = omega arith
below_power (suc n) = omega (arith, below_power n, two-pow-succ n)

-- Codes with the same bits are the same: each has the bits of the other, so it is no larger.
pub bits_same : (n m : ℕ) → ((b : ℕ) → bit n b ≡ bit m b) → n ≡ m
bits_same n m same =
    let le = bits_le n n m (below_power n) (λ b lt h. sym (same b) ∙ h) in
    let ge = bits_le m m n (below_power m) (λ b lt h. same b ∙ h) in
    omega arith

-- a set and the actions of a list
abbrev pub with_all : ℕ → List ℕ → ℕ
with_all set [] = set
with_all set (a ∷ xs) = with_all (bit_or set (2 ^ a)) xs

pub bit_with : (set a b : ℕ) → bit (bit_or set (2 ^ a)) b ≡ (bit set b || eqb a b)
bit_with set a b = bit_of_or set (2 ^ a) b ∙ ap (λ x. bit set b || x) (bit_power a b)

pub bit_with_all : (set : ℕ) (xs : List ℕ) (b : ℕ) → bit (with_all set xs) b ≡ (bit set b || among b xs)
bit_with_all set [] b = or_none (bit set b)
  where
    or_none : (x : Bool) → x ≡ (x || false)
    or_none true = refl
    or_none false = refl
bit_with_all set (a ∷ xs) b =
    bit_with_all (bit_or set (2 ^ a)) xs b ∙ ap (λ x. x || among b xs) (bit_with set a b) ∙ or_assoc (bit set b) (eqb a b) (among b xs)

-- no action of the list is in the set
abbrev pub Clear : ℕ → List ℕ → Type 0
Clear set xs = (b : ℕ) → among b xs ≡ true → bit set b ≡ false

pub among_first : (a : ℕ) (xs : List ℕ) → among a (a ∷ xs) ≡ true
among_first a xs = or_left (eqb a a) (among a xs) (eq-eqb a a refl)

pub clear_first : (set a : ℕ) (xs : List ℕ) → Clear set (a ∷ xs) → bit set a ≡ false
clear_first set a xs clear = clear a (among_first a xs)

pub clear_more : (set a : ℕ) (xs : List ℕ) → Once (a ∷ xs) → Clear set (a ∷ xs) → Clear (bit_or set (2 ^ a)) xs
clear_more set a xs once clear b has =
    let apart : eqb a b ≡ false = ne_eqb a b (λ e. once.0 ((among_decides a xs).0 (ap (λ x. among x xs) e ∙ has))) in
    bit_with set a b ∙ or_from (bit set b) (eqb a b) (clear b (or_right (eqb a b) (among b xs) has)) apart

pub clear_back : (set a : ℕ) (xs : List ℕ) → bit set a ≡ false → Clear (bit_or set (2 ^ a)) xs → Clear set (a ∷ xs)
clear_back set a xs new clear b has =
    elim (or_cases (eqb a b) (among b xs) has) [
      | inl e ↦ subst (λ x. bit set x ≡ false) (eqb-true a b e) new
      | inr m ↦ (or_parts (bit set b) (eqb a b) (sym (bit_with set a b) ∙ clear b m)).0
    ]

pub once_more : (set a : ℕ) (xs : List ℕ) → Once xs → Clear (bit_or set (2 ^ a)) xs → Once (a ∷ xs)
once_more set a xs once clear =
    let has : bit (bit_or set (2 ^ a)) a ≡ true = bit_with set a a ∙ or_right (bit set a) (eqb a a) (eq-eqb a a refl) in
    (λ m. never_both (bit (bit_or set (2 ^ a)) a) has (clear a ((among_decides a xs).1 m)), once)

-- the code with exactly the bits of the list
pub code_is : (code : ℕ) (xs : List ℕ) → ((b : ℕ) → Decides (bit code b) (Has xs b)) → code ≡ with_all 0 xs
code_is code xs bits = bits_same code (with_all 0 xs) (λ b. same_from_decides (bit code b) (among b xs) (bits b) (among_decides b xs) ∙ sym (bit_with_all 0 xs b ∙ ap (λ x. x || among b xs) (bit_none b)))

pub bits_are : (xs : List ℕ) (b : ℕ) → Decides (bit (with_all 0 xs) b) (Has xs b)
bits_are xs b =
    Decides-at (bit (with_all 0 xs) b) (among b xs) (bit_with_all 0 xs b ∙ ap (λ x. x || among b xs) (bit_none b)) (among_decides b xs)

pub some_code : (a : ℕ) (xs : List ℕ) → with_all 0 (a ∷ xs) ≡ 0 → ⊥
some_code a xs none =
    never_both (bit (with_all 0 (a ∷ xs)) a) (bit_with_all 0 (a ∷ xs) a ∙ or_right (bit 0 a) (among a (a ∷ xs)) (among_first a xs)) (ap (λ c. bit c a) none ∙ bit_none a)
