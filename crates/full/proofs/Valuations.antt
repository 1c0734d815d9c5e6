-- The bytes of the set of all valuations, laid down bit by bit and byte by byte.
use Rattle.std.proofs.Common.{◌≡◌, ℕ, zero, suc, ◌+◌, ◌-◌, ◌*◌, ◌/◌, ◌%◌, ◌^◌, ◌<◌, ◌≤◌, Bool, true, false, cond, eqb, List, [], ◌∷◌, ◌++◌, length, length-append, get_or, set, replicate, sym, refl, ap, ◌∙◌, subst, inr, ⊎_elim, arith, get_or-set_other, get_or-set_same, pow_mono, pow-add}
use Rattle.std.proofs.Math.ListN.{get_or-append}
use Rattle.std.proofs.Math.Seq.{get_or-append_seam}
use Rattle.std.proofs.lemmas.Bool.{cases_eq, cases_lt, le-ltb, and_left}
use Rattle.logic.specs.Codes.{bit, valuation}
use Rattle.full.specs.Bytes.{width, bit_from}
use Rattle.full.proofs.BitLaws.{bit_first, bit_rest, bit_none_of}
use Rattle.full.proofs.Splicing.{Spliced}
use Rattle.full.proofs.Widths.{codes_fit}

-- one bit more of a byte, from the high end
pub byte_more : (f : ℕ → Bool) (x b r t : ℕ) → b < 8 → r < 2 ^ b → ((m : ℕ) → m < b → bit r m ≡ f (8 * x + (8 - b + m)))
    → t < 2 → eqb t 1 ≡ f (8 * x + (7 - b))
    → (r % 128 * 2 + t < 2 ^ (b + 1)) × ((m : ℕ) → m < b + 1 → bit (r % 128 * 2 + t) m ≡ f (8 * x + (8 - (b + 1) + m)))
byte_more f x b r t lt small have two is =
    let top : 2 ^ b ≤ 2 ^ 7 = pow_mono {i = b} {j = 7} (omega arith) in
    let whole : r % 128 ≡ r = omega arith in
    let more : 2 ^ (b + 1) ≡ 2 ^ b * 2 = pow-add 2 b 1 in (
      omega arith,
      λ m m<. ap (λ q. bit (q * 2 + t) m) whole ∙ ⊎_elim
          (λ e. rw e (bit_first r t two ∙ is ∙ ap (λ n. f (8 * x + n)) (omega arith)))
          (λ ne. let up : m ≡ (m - 1) + 1 = omega arith in
          ap (bit (r * 2 + t)) up ∙ bit_rest r t (m - 1) two ∙ have (m - 1) (omega arith) ∙ ap (λ n. f (8 * x + n)) (omega arith))
          (cases_eq m 0),
    )

-- the byte that the numbers from 0 on build, whichever they are so far
abbrev pub Built : (ℕ → Bool) → ℕ → List ℕ → ℕ → Type 0
Built f x ys r = ((k : ℕ) → k < length ys → get_or ys k 0 ≡ k) → length ys ≤ 8
    → (r < 2 ^ length ys) × ((m : ℕ) → m < length ys → bit r m ≡ f (8 * x + (8 - length ys + m)))

pub built_none : (f : ℕ → Bool) (x : ℕ) → Built f x [] 0
built_none f x rising few = (omega arith, λ m m<. absurd (omega arith))

one_if : (v : Bool) → (cond v 1 0 < 2) × (eqb (cond v 1 0) 1 ≡ v)
one_if true = (omega arith, refl)
one_if false = (omega arith, refl)

pub built_more : (f : ℕ → Bool) (x : ℕ) (ys : List ℕ) (r b : ℕ) → Built f x ys r → Built f x (ys ++ (b ∷ [])) (r % 128 * 2 + cond (f (8 * x + (7 - b))) 1 0)
built_more f x ys r b have rising few =
    let n = length ys in
    let next = r % 128 * 2 + cond (f (8 * x + (7 - b))) 1 0 in
    let long : length (ys ++ (b ∷ [])) ≡ n + 1 = length-append ys (b ∷ []) in
    let last : b ≡ n = sym (get_or-append_seam ys b [] 0) ∙ rising n (omega arith) in
    let inv = have (λ k h. sym (get_or-append ys (b ∷ []) 0 k h) ∙ rising k (omega arith)) (omega arith) in
    let bit_b = one_if (f (8 * x + (7 - b))) in
    let P : ℕ → Type 0 = λ l. (next < 2 ^ l) × ((m : ℕ) → m < l → bit next m ≡ f (8 * x + (8 - l + m))) in
    subst P (sym long) (byte_more f x n r (cond (f (8 * x + (7 - b))) 1 0) (omega arith) inv.0 inv.1 bit_b.0 (bit_b.1 ∙ ap (λ v. f (8 * x + (7 - v))) last))

-- one byte more
pub laid_more : (f : ℕ → Bool) (bytes : List ℕ) (x v : ℕ) → x < length bytes → ((k m : ℕ) → k < x → m < 8 → bit (get_or bytes k 0) m ≡ f (8 * k + m))
    → ((m : ℕ) → m < 8 → bit v m ≡ f (8 * x + m)) → (k m : ℕ) → k < x + 1 → m < 8 → bit (get_or (set bytes x v) k 0) m ≡ f (8 * k + m)
laid_more f bytes x v lt have is k m k< m< =
    ⊎_elim
    (λ e. ap (λ p. bit (get_or (set bytes x v) p 0) m) e ∙ ap (λ b. bit b m) (get_or-set_same bytes x v 0 lt) ∙ is m m< ∙ ap (λ p. f (8 * p + m)) (sym e))
    (λ ne. ap (λ b. bit b m) (get_or-set_other bytes x k v 0 ne) ∙ have k m (omega arith) m<)
    (cases_eq k x)

pub no_valuation : (a k c : ℕ) → 2 ^ (a * k) ≤ c → valuation a k c ≡ false
no_valuation a k c h = and_left _ _ (le-ltb c (2 ^ (a * k)) h)

zeros : (size i : ℕ) → ◌≡◌ {A = ℕ} (get_or (replicate size 0) i 0) 0
zeros zero i = refl
zeros (suc size) zero = refl
zeros (suc size) (suc i) = zeros size i

-- all bytes of a set, laid down where there were zeros: beyond them there is no valuation
pub laid_all : (a k size : ℕ) (bytes part : List ℕ) → length part ≡ width (a * k) → Spliced (replicate size 0) bytes part 0
    → ((x m : ℕ) → x < length part → m < 8 → bit (get_or part x 0) m ≡ valuation a k (8 * x + m)) → (c : ℕ) → bit_from bytes 0 c ≡ valuation a k c
laid_all a k size bytes part wide spliced laid c =
    let fit = codes_fit (a * k) in
    ⊎_elim
    (λ lt. let whole : 8 * (c / 8) + c % 8 ≡ c = omega arith in
    ap (λ b. bit b (c % 8)) (spliced.inside (c / 8) lt) ∙ laid (c / 8) (c % 8) lt (omega arith) ∙ ap (valuation a k) whole)
    (λ ge. ap (λ b. bit b (c % 8)) (spliced.others (0 + c / 8) (inr (omega arith)) ∙ zeros size (0 + c / 8)) ∙ bit_none_of (c % 8) ∙ sym (no_valuation a k c (omega arith)))
    (cases_lt (c / 8) (length part))
