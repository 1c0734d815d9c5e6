-- What passes over the bytes of a span find.
use Rattle.std.proofs.Common.{◌≡◌, ℕ, zero, suc, ◌+◌, ◌-◌, ◌*◌, ◌/◌, ◌%◌, ◌^◌, ◌<◌, ◌≤◌, Bool, true, false, not, ◌&&◌, ◌||◌, eqb, List, [], ◌∷◌, ◌++◌, length, length-append, get_or, take, drop, Some, None, Option, refl, sym, ap, ◌∙◌, subst, ⊎_elim, zero-add, pow-suc, arith, pow_mono, get_or-take, get_or-drop}
use native.Mathlib.Nat.{div-eq_of_lt}
use lib.Bits.{bit_or, bit_xor}
use lib.Count.{count_trailing_zeros, under}
use Rattle.std.proofs.lemmas.Nat.{shr-shr}
use Rattle.std.specs.List.{zip, All, AllWithin}
use Rattle.std.proofs.Math.ListN.{get_or-append}
use Rattle.std.proofs.Math.Seq.{get_or-append_seam}
use Rattle.std.proofs.lemmas.Bool.{cases_lt, cases_eq, or_parts, or_from, false≢true}
use Rattle.std.proofs.lemmas.List.{get_or_past}
use Rattle.std.proofs.lemmas.List.Elements.{All-append}
use Rattle.std.proofs.lemmas.Slice.Zip.{length-zip}
use Rattle.logic.specs.Codes.{bit}
use Rattle.store.specs.Least.{Least}
use Rattle.full.specs.Bytes.{bit_from}
use Rattle.full.specs.Passes.{Differ}
use Rattle.full.proofs.BitLaws.{below8, or_bit, xor_bit, bit_none_of}

agrees : (p q : Bool) → ((p || q) && not (p && q)) ≡ false → p ≡ q
agrees p q h = grind arith

alike : (p q : Bool) → p ≡ q → ((p || q) && not (p && q)) ≡ false
alike p q h = grind arith

pair_at : (a b : List ℕ) (k : ℕ) (d : ℕ × ℕ) → k < length a → length a ≡ length b → get_or (zip a b) k d ≡ (get_or a k 0, get_or b k 0)
pair_at [] b k d h e = absurd (omega arith)
pair_at (x ∷ a) [] k d h e = absurd (omega arith)
pair_at (x ∷ a) (y ∷ b) zero d h e = refl
pair_at (x ∷ a) (y ∷ b) (suc k) d h e = pair_at a b k d (omega arith) (omega arith)

long_zip : (a b : List ℕ) → length a ≡ length b → length (zip a b) ≡ length a
long_zip a b e = omega (arith, length-zip a b)

one_alike : (P : ℕ × ℕ → Type 0) (x : ℕ × ℕ) → P x → All P (x ∷ [])
one_alike P x h zero d k< = h
one_alike P x h (suc k) d k< = absurd (omega arith)

front_alike : (P : ℕ × ℕ → Type 0) (xs : List (ℕ × ℕ)) (x : ℕ × ℕ) → All P (xs ++ (x ∷ [])) → All P xs
front_alike P xs x all k d k< = subst P (get_or-append xs (x ∷ []) d k k<) (all k d (omega (arith, length-append xs (x ∷ []))))

last_alike : (P : ℕ × ℕ → Type 0) (xs : List (ℕ × ℕ)) (x : ℕ × ℕ) → All P (xs ++ (x ∷ [])) → P x
last_alike P xs x all = subst P (get_or-append_seam xs x [] x) (all (length xs) x (omega (arith, length-append xs (x ∷ []))))

-- the bits at which some of these pairs of bytes differ
abbrev pub DifferBy : List (ℕ × ℕ) → ℕ → Type 0
DifferBy pairs d = (m : ℕ) → (bit d m ≡ false → All (λ p. bit p.0 m ≡ bit p.1 m) pairs) × (All (λ p. bit p.0 m ≡ bit p.1 m) pairs → bit d m ≡ false)

pub differ_none : DifferBy [] 0
differ_none m = (λ _ k d k<. absurd (omega arith), λ _. bit_none_of m)

-- one pair more
pub differ_more : (pairs : List (ℕ × ℕ)) (d a b : ℕ) → DifferBy pairs d → DifferBy (pairs ++ ((a, b) ∷ [])) (bit_or d (bit_xor a b))
differ_more pairs d a b have m =
    let P : ℕ × ℕ → Type 0 = λ p. bit p.0 m ≡ bit p.1 m in
    let parts : bit (bit_or d (bit_xor a b)) m ≡ (bit d m || ((bit a m || bit b m) && not (bit a m && bit b m))) =
    or_bit d (bit_xor a b) m ∙ ap (λ t. bit d m || t) (xor_bit a b m) in (
      λ none.
          let both = or_parts (bit d m) ((bit a m || bit b m) && not (bit a m && bit b m)) (sym parts ∙ none) in
          All-append P pairs ((a, b) ∷ []) ((have m).0 both.0) (one_alike P (a, b) (agrees (bit a m) (bit b m) both.1)),
      λ all. parts ∙ or_from (bit d m) _ ((have m).1 (front_alike P pairs (a, b) all)) (alike (bit a m) (bit b m) (last_alike P pairs (a, b) all)),
    )

-- the pairs of two lists, index by index
pub differ_zip : (a b : List ℕ) (d : ℕ) → length a ≡ length b → DifferBy (zip a b) d → Differ a b d
differ_zip a b d same have m = (
  λ none x x<. let P : ℕ × ℕ → Type 0 = λ p. bit p.0 m ≡ bit p.1 m in
      subst P (pair_at a b x (0, 0) x< same) ((have m).0 none x (0, 0) (omega (arith, long_zip a b same))),
  λ all. (have m).1 (λ k d k<. let P : ℕ × ℕ → Type 0 = λ p. bit p.0 m ≡ bit p.1 m in
      let h : k < length a = omega (arith, long_zip a b same) in subst P (sym (pair_at a b k d h same)) (all k h)),
)

-- halving a number moves its bits one down
halved : (n m : ℕ) → bit n (suc m) ≡ bit (n / 2) m
halved n m = ap (λ x. eqb (x % 2) 1) (ap (λ e. n / 2 ^ e) (omega arith) ∙ sym (shr-shr n 1 m))

-- The lowest bit that is set, by halving: an even number has it one above its half's, an odd one at 0.
pub lowest : (k n : ℕ) → 0 < n → n < 2 ^ k → (count_trailing_zeros k n < k) × (bit n (count_trailing_zeros k n) ≡ true) × ((m : ℕ) → m < count_trailing_zeros k n → bit n m ≡ false)
unfolding count_trailing_zeros
lowest zero n some top = absurd (omega arith)
lowest (suc k) n some top =
    let wide : 2 ^ suc k ≡ 2 ^ k * 2 = pow-suc 2 k in
    ⊎_elim
    (λ even.
    let t = count_trailing_zeros k (n / 2) in
    let is : count_trailing_zeros (suc k) n ≡ suc t = ap (λ r. under r t) even in
    let low = lowest k (n / 2) (omega arith) (omega arith) in
    let P : ℕ → Type 0 = λ z. (z < suc k) × (bit n z ≡ true) × ((m : ℕ) → m < z → bit n m ≡ false) in
    subst P (sym is) (
      omega (arith, low.0),
      halved n t ∙ low.1,
      λ m h. ⊎_elim
          (λ e. rw e (ap (λ x. eqb x 1) (let z : n / 2 ^ 0 % 2 ≡ 0 = omega arith in z)))
          (λ ne. let up : m ≡ suc (m - 1) = omega arith in ap (bit n) up ∙ halved n (m - 1) ∙ low.2 (m - 1) (omega arith))
          (cases_eq m 0),
    ))
    (λ odd.
    let t = count_trailing_zeros k (n / 2) in
    let one : n % 2 ≡ 1 = omega arith in
    let is : count_trailing_zeros (suc k) n ≡ 0 = ap (λ r. under r t) one in
    let P : ℕ → Type 0 = λ z. (z < suc k) × (bit n z ≡ true) × ((m : ℕ) → m < z → bit n m ≡ false) in
    subst P (sym is) (omega arith, ap (λ x. eqb x 1) (let z : n / 2 ^ 0 % 2 ≡ 1 = omega arith in z), λ m h. absurd (omega arith)))
    (cases_eq (n % 2) 0)

-- a bit that is set lies in the byte
bit_within : (b j : ℕ) → b < 256 → bit b j ≡ true → j < 8
bit_within b j small e =
    ⊎_elim (λ lt. lt)
    (λ ge. let top : 2 ^ 8 ≤ 2 ^ j = pow_mono {i = 8} {j = j} ge in
    let none : b / 2 ^ j ≡ 0 = div-eq_of_lt (omega arith) in
    absurd (false≢true (sym (ap (λ x. eqb (x % 2) 1) none) ∙ e)))
    (cases_lt j 8)

shifted : (b s m : ℕ) → bit (b / 2 ^ s) m ≡ bit b (s + m)
shifted b s m = ap (λ x. eqb (x % 2) 1) (shr-shr b s m)

-- in the rest of c's own byte
pub first_head : (bytes : List ℕ) (c : ℕ) → get_or bytes (c / 8) 0 < 256 → 0 < get_or bytes (c / 8) 0 / 2 ^ (c % 8) → get_or bytes (c / 8) 0 / 2 ^ (c % 8) < 256
    → Least (bit_from bytes 0) c (Some (c + count_trailing_zeros 8 (get_or bytes (c / 8) 0 / 2 ^ (c % 8))))
first_head bytes c small some head< =
    let b = get_or bytes (c / 8) 0 in
    let s = c % 8 in
    let t = count_trailing_zeros 8 (b / 2 ^ s) in
    let low = lowest 8 (b / 2 ^ s) some head< in
    let on : bit b (s + t) ≡ true = sym (shifted b s t) ∙ low.1 in
    let room : s + t < 8 = bit_within b (s + t) small on in
    let q : 0 + (c + t) / 8 ≡ c / 8 = omega arith in
    let r : (c + t) % 8 ≡ s + t = omega arith in (
      omega arith,
      ap (λ p. bit (get_or bytes p 0) ((c + t) % 8)) q ∙ ap (bit b) r ∙ on,
      λ d le lt.
          let q : 0 + d / 8 ≡ c / 8 = omega arith in
          let r : d % 8 ≡ s + (d - c) = omega arith in
          ap (λ p. bit (get_or bytes p 0) (d % 8)) q ∙ ap (bit b) r ∙ sym (shifted b s (d - c)) ∙ low.2 (d - c) (omega arith),
    )

-- after a first byte that has none
head_none : (bytes : List ℕ) (c d : ℕ) → get_or bytes (c / 8) 0 / 2 ^ (c % 8) ≡ 0 → c ≤ d → d / 8 ≡ c / 8 → bit_from bytes 0 d ≡ false
head_none bytes c d none le same =
    let b = get_or bytes (c / 8) 0 in
    let q : 0 + d / 8 ≡ c / 8 = omega arith in
    let m : d % 8 ≡ c % 8 + (d - c) = omega arith in
    ap (λ p. bit (get_or bytes p 0) (d % 8)) q ∙ ap (bit b) m ∙ sym (shifted b (c % 8) (d - c)) ∙ ap (λ h. bit h (d - c)) none ∙ bit_none_of (d - c)

pub first_rest : (bytes : List ℕ) (c : ℕ) (o : Option ℕ) → get_or bytes (c / 8) 0 / 2 ^ (c % 8) ≡ 0 → Least (bit_from bytes 0) (8 * (c / 8 + 1)) o → Least (bit_from bytes 0) c o
first_rest bytes c None none rest =
    λ d le. ⊎_elim (λ same. head_none bytes c d none le same) (λ ne. rest d (omega arith)) (cases_eq (d / 8) (c / 8))
first_rest bytes c (Some r) none rest = (
  omega (arith, rest.0),
  rest.1,
  λ d le lt. ⊎_elim (λ same. head_none bytes c d none le same) (λ ne. rest.2 d (omega arith) lt) (cases_eq (d / 8) (c / 8)),
)

-- no bit from c on is set in the bytes below x
abbrev pub Unset : List ℕ → ℕ → ℕ → Type 0
Unset bytes c x = (d : ℕ) → c ≤ d → d < 8 * x → bit_from bytes 0 d ≡ false

-- behind the last byte
past : (bytes : List ℕ) (d : ℕ) → length bytes ≤ d / 8 → bit_from bytes 0 d ≡ false
past bytes d h =
    ap (λ p. bit (get_or bytes p 0) (d % 8)) (zero-add (d / 8)) ∙ ap (λ b. bit b (d % 8)) (get_or_past bytes (d / 8) 0 h) ∙ bit_none_of (d % 8)

pub first_none : (bytes : List ℕ) (c x : ℕ) → length bytes ≤ x → Unset bytes c x → Least (bit_from bytes 0) c None
first_none bytes c x end have d le = ⊎_elim (λ low. have d le low) (λ high. past bytes d (omega arith)) (cases_lt d (8 * x))

-- a number that has the bits of so many bytes
abbrev pub Holds : List ℕ → ℕ → ℕ → ℕ → Type 0
Holds bytes p size v = (d : ℕ) → d < 8 * size → bit v d ≡ bit_from bytes p d

moved : (bytes : List ℕ) (x d : ℕ) → 8 * x ≤ d → bit_from bytes x (d - 8 * x) ≡ bit_from bytes 0 d
moved bytes x d le =
    let q : x + (d - 8 * x) / 8 ≡ 0 + d / 8 = omega arith in
    let r : (d - 8 * x) % 8 ≡ d % 8 = omega arith in
    ap (λ p. bit (get_or bytes p 0) ((d - 8 * x) % 8)) q ∙ ap (bit (get_or bytes (0 + d / 8) 0)) r

pub unset_more : (bytes : List ℕ) (c x size v : ℕ) → Unset bytes c x → Holds bytes x size v → v ≡ 0 → Unset bytes c (x + size)
unset_more bytes c x size v have holds none d le lt =
    ⊎_elim
    (λ low. have d le low)
    (λ high. sym (moved bytes x d high) ∙ sym (holds (d - 8 * x) (omega arith)) ∙ ap (λ n. bit n (d - 8 * x)) none ∙ bit_none_of (d - 8 * x))
    (cases_lt d (8 * x))

-- The bytes before x have no bit from c on, and the number v has the bits of the next ones: its lowest bit is the first.
pub first_in : (bytes : List ℕ) (c x size v k : ℕ) → k ≡ 8 * size → c ≤ 8 * x → Unset bytes c x → Holds bytes x size v → 0 < v → v < 2 ^ k
    → Least (bit_from bytes 0) c (Some (8 * x + count_trailing_zeros k v))
first_in bytes c x size v k wide from have holds some top =
    let t = count_trailing_zeros k v in
    let low = lowest k v some top in
    let t< = low.0 in
    let e : (8 * x + t) - 8 * x ≡ t = omega arith in (
      omega arith,
      sym (moved bytes x (8 * x + t) (omega arith)) ∙ ap (bit_from bytes x) e ∙ sym (holds t (omega arith)) ∙ low.1,
      λ d le lt.
          ⊎_elim
          (λ less. have d le less)
          (λ high. sym (moved bytes x d high) ∙ sym (holds (d - 8 * x) (omega arith)) ∙ low.2 (d - 8 * x) (omega arith))
          (cases_lt d (8 * x)),
    )

one_byte : (bytes : List ℕ) (p : ℕ) → Holds bytes p 1 (get_or bytes p 0)
one_byte bytes p d lt =
    let q : p ≡ p + d / 8 = omega arith in
    let r : d ≡ d % 8 = omega arith in
    ap (λ m. bit (get_or bytes p 0) m) r ∙ ap (λ x. bit (get_or bytes x 0) (d % 8)) q

-- the bytes from x on begin with so many zeros
zeros_unset : (bytes rest : List ℕ) (c x i : ℕ) → rest ≡ drop x bytes → Unset bytes c x → ((k : ℕ) → k < i → ◌≡◌ {A = ℕ} (get_or rest k 0) 0) → Unset bytes c (x + i)
zeros_unset bytes rest c x i is have zeros d le lt =
    ⊎_elim
    (λ low. have d le low)
    (λ high.
    let k = d / 8 - x in
    let q : 0 + d / 8 ≡ x + k = omega arith in
    let none : get_or bytes (x + k) 0 ≡ 0 = sym (get_or-drop x bytes k 0) ∙ ap (λ l. get_or l k 0) (sym is) ∙ zeros k (omega arith) in
    ap (λ p. bit (get_or bytes p 0) (d % 8)) q ∙ ap (λ b. bit b (d % 8)) none ∙ bit_none_of (d % 8))
    (cases_lt d (8 * x))

-- the last bytes, one by one: `o` is where they have the first that is not 0
pub first_last : (bytes rest : List ℕ) (c x : ℕ) → rest ≡ drop x bytes → x + length rest ≡ length bytes → c ≤ 8 * x → Unset bytes c x
    → AllWithin (λ y. ◌≡◌ {A = ℕ} y 0) rest 0 (length rest) → Least (bit_from bytes 0) c None
first_last bytes rest c x is whole from have zeros =
    first_none bytes c (x + length rest) (omega arith) (zeros_unset bytes rest c x (length rest) is have (λ k k<. zeros k 0 (omega arith) k<))

pub first_byte : (bytes rest : List ℕ) (c x i : ℕ) → rest ≡ drop x bytes → c ≤ 8 * x → Unset bytes c x → 0 < get_or bytes (x + i) 0 → get_or bytes (x + i) 0 < 256
    → AllWithin (λ y. ◌≡◌ {A = ℕ} y 0) rest 0 i → Least (bit_from bytes 0) c (Some (8 * (x + i) + count_trailing_zeros 8 (get_or bytes (x + i) 0)))
first_byte bytes rest c x i is from have some small zeros =
    first_in bytes c (x + i) 1 (get_or bytes (x + i) 0) 8 refl (omega arith) (zeros_unset bytes rest c x i is have (λ k k<. zeros k 0 (omega arith) k<))
    (one_byte bytes (x + i)) some small

-- eight bytes as one number
low_byte : (v m : ℕ) → m < 8 → bit (v % 256) m ≡ bit v m
low_byte v = below8 (λ m. bit (v % 256) m ≡ bit v m) (ap (λ t. eqb t 1) (omega arith)) (ap (λ t. eqb t 1) (omega arith)) (ap (λ t. eqb t 1) (omega arith)) (ap (λ t. eqb t 1) (omega arith)) (ap (λ t. eqb t 1) (omega arith)) (ap (λ t. eqb t 1) (omega arith)) (ap (λ t. eqb t 1) (omega arith)) (ap (λ t. eqb t 1) (omega arith))

-- The byte of a bit d is the digit d ÷ 8 of the word to the base 256, and a digit's bits are the word's from there on.
pub word_bit : (b : ℕ → ℕ) (w : ℕ) → ((k : ℕ) → b k < 256)
    → w ≡ b 0 + b 1 * 256 + b 2 * 65536 + b 3 * 16777216 + b 4 * 4294967296 + b 5 * 1099511627776 + b 6 * 281474976710656 + b 7 * 72057594037927936
    → (d : ℕ) → d < 64 → bit w d ≡ bit (b (d / 8)) (d % 8)
word_bit b w small is d lt =
    let s0 = small 0 in let s1 = small 1 in let s2 = small 2 in let s3 = small 3 in
    let s4 = small 4 in let s5 = small 5 in let s6 = small 6 in let s7 = small 7 in
    let byte : w / 2 ^ (8 * (d / 8)) % 256 ≡ b (d / 8) =
    below8 (λ k. w / 2 ^ (8 * k) % 256 ≡ b k) (omega arith) (omega arith) (omega arith) (omega arith) (omega arith) (omega arith) (omega arith) (omega arith) (d / 8) (omega arith) in
    ap (bit w) (let e : d ≡ 8 * (d / 8) + d % 8 = omega arith in e) ∙ sym (shifted w (8 * (d / 8)) (d % 8))
    ∙ sym (low_byte (w / 2 ^ (8 * (d / 8))) (d % 8) (omega arith)) ∙ ap (λ v. bit v (d % 8)) byte

-- the eight bytes from x on
pub word_holds : (bytes rest word : List ℕ) (x w : ℕ) → rest ≡ drop x bytes → word ≡ take 8 rest → ((k : ℕ) → get_or bytes k 0 < 256)
    → w ≡ get_or word 0 0 + get_or word 1 0 * 256 + get_or word 2 0 * 65536 + get_or word 3 0 * 16777216 + get_or word 4 0 * 4294967296 + get_or word 5 0 * 1099511627776 + get_or word 6 0 * 281474976710656 + get_or word 7 0 * 72057594037927936
    → Holds bytes x 8 w
word_holds bytes rest word x w is cut small whole d lt =
    let byte : (k : ℕ) → k < 8 → get_or word k 0 ≡ get_or bytes (x + k) 0 =
    λ k h. ap (λ l. get_or l k 0) (cut ∙ ap (take 8) is) ∙ get_or-take 8 (drop x bytes) k 0 h ∙ get_or-drop x bytes k 0 in
    let e0 = byte 0 (omega arith) in let e1 = byte 1 (omega arith) in let e2 = byte 2 (omega arith) in let e3 = byte 3 (omega arith) in
    let e4 = byte 4 (omega arith) in let e5 = byte 5 (omega arith) in let e6 = byte 6 (omega arith) in let e7 = byte 7 (omega arith) in
    word_bit (λ k. get_or bytes (x + k) 0) w (λ k. small (x + k)) (omega arith) d (omega arith)
