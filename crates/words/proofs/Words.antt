-- The next word from a position on is one word, and two runs of bytes find it.
use Rattle.std.proofs.Common.{◌≡◌, ℕ, ◌+◌, ◌-◌, ◌<◌, ◌≤◌, min, Bool, true, false, not, List, ◌++◌, length, get_or, take, drop, replicate, sym, refl, ap, ◌∙◌, subst, ⊎_elim, length-drop, arith}
use Rattle.std.specs.List.{prefix_len}
use Rattle.std.proofs.lemmas.Bool.{cases_lt}
use Rattle.std.proofs.lemmas.List.{get_or-drop, get_or-take, length-take, take_all, take_at}
use Rattle.std.proofs.lemmas.List.Sums.{prefix_len-le-length, prefix_len_passes, prefix_len_stops}
use Rattle.words.specs.declared.Class.{Class}
use Rattle.words.specs.declared.Class.TheVariants.{Blank, Solid, Allowed}
use Rattle.words.specs.Words.{blank, within, name_bytes, name_from, All, WordAt, Clean, Foreign, Ends}

never : (b : Bool) → b ≡ true → not b ≡ true → ⊥
never true _ h = let z : ◌≡◌ {A = ℕ} 0 1 = cc in omega arith
never false h _ = let z : ◌≡◌ {A = ℕ} 0 1 = cc in omega arith

pub never_both : (b : Bool) → b ≡ true → b ≡ false → ⊥
never_both b h k = never b h (ap not k)

module _ (text : List ℕ) (p : ℕ) where
  -- of two words the one that starts earlier would have a blank in it
  not_before : (s e s' e' : ℕ) → WordAt text p s e → WordAt text p s' e' → s < s' → ⊥
  not_before s e s' e' w v lt = never (blank (get_or text s 0)) (v.blanks s w.behind lt) (w.solid s (omega arith) w.some)

  -- and the one that ends earlier would not be a longest run
  not_shorter : (s e e' : ℕ) → WordAt text p s e → WordAt text p s e' → e < e' → ⊥
  not_shorter s e e' w v lt = never (blank (get_or text e 0)) (w.longest (omega (arith, v.inside))) (v.solid e (omega (arith, w.some)) lt)

  same_start : (s e s' e' : ℕ) → WordAt text p s e → WordAt text p s' e' → s ≡ s'
  same_start s e s' e' w v =
      let a : s < s' → ⊥ = not_before s e s' e' w v in
      let b : s' < s → ⊥ = not_before s' e' s e v w in
      omega arith

  pub word_unique : (s e s' e' : ℕ) → WordAt text p s e → WordAt text p s' e' → (s ≡ s') × (e ≡ e')
  word_unique s e s' e' w v =
      let same = same_start s e s' e' w v in
      let v' : WordAt text p s e' = subst (λ x. WordAt text p x e') (sym same) v in
      let a : e < e' → ⊥ = not_shorter s e e' w v' in
      let b : e' < e → ⊥ = not_shorter s e' e v' w in
      (same, omega arith)

  pub word_not_ends : (s e : ℕ) → WordAt text p s e → Ends text p → ⊥
  word_not_ends s e w ends = never (blank (get_or text s 0)) (ends s w.behind (omega (arith, w.some, w.inside))) (w.solid s (omega arith) w.some)

pub clean_not_foreign : (text : List ℕ) (s e : ℕ) → Clean text s e → Foreign text s e → ⊥
clean_not_foreign text s e clean f = never_both (within Allowed (get_or text f.at 0)) (clean f.at f.behind f.before) f.strange

pub rest_whole : (text : List ℕ) (from n : ℕ) → n ≡ length text - from → take n (drop from text) ≡ drop from text
rest_whole text from n is = take_all n (drop from text) (omega (arith, length-drop from text))

-- the bytes of a class that stand from a position on
module _ (k : Class) (text : List ℕ) (from n : ℕ) (rest : List ℕ) (same : rest ≡ drop from text) (is : n ≡ prefix_len (within k) rest) where
  at_rest : (i : ℕ) → get_or rest i 0 ≡ get_or text (from + i) 0
  at_rest i = ap (λ xs. get_or xs i 0) same ∙ get_or-drop from text i 0

  long : length rest ≡ length text - from
  long = ap length same ∙ length-drop from text

  pub run_all : All k text from (from + n)
  run_all i low lt =
      subst (λ j. within k (get_or text j 0) ≡ true) (omega arith)
      (ap (within k) (sym (at_rest (i - from))) ∙ prefix_len_passes (within k) rest (i - from) 0 (omega arith))

  pub run_inside : n ≤ length text - from
  run_inside = omega (arith, prefix_len-le-length (within k) rest, long)

  pub run_stops : from + n < length text → within k (get_or text (from + n) 0) ≡ false
  run_stops lt =
      ap (λ j. within k (get_or text (from + j) 0)) is
      ∙ ap (within k) (sym (at_rest (prefix_len (within k) rest)))
      ∙ prefix_len_stops (within k) rest 0 (omega (arith, long))

not_false : (b : Bool) → not b ≡ false → b ≡ true
not_false true h = refl
not_false false h = let z : ◌≡◌ {A = ℕ} 0 1 = cc in absurd (omega arith)

-- blanks and then a run of other bytes make a word
module _ (text : List ℕ) (at n m : ℕ) (one two : List ℕ) (is_one : one ≡ drop at text) (blanks : n ≡ prefix_len (within Blank) one) (is_two : two ≡ drop (at + n) text) (solid : m ≡ prefix_len (within Solid) two) (lt : at + n < length text) where
  pub word_some : 0 < m
  word_some =
      ⊎_elim (λ h. h)
      (λ h. let b = run_stops Blank text at n one is_one blanks lt in
      let c = run_stops Solid text (at + n) m two is_two solid (omega (arith, lt)) in
      absurd (never_both (blank (get_or text (at + n) 0)) (not_false _ (subst (λ j. not (blank (get_or text j 0)) ≡ false) (omega arith) c)) b))
      (cases_lt 0 m)

  pub word_at : WordAt text at (at + n) (at + n + m)
  word_at = record {
    behind = omega arith;
    blanks = run_all Blank text at n one is_one blanks;
    some = omega (arith, word_some);
    inside = omega (arith, lt, run_inside Solid text (at + n) m two is_two solid);
    solid = run_all Solid text (at + n) m two is_two solid;
    longest = λ h. not_false _ (run_stops Solid text (at + n) m two is_two solid h);
  }

-- whether the bytes between two positions are all of a class
module _ (k : Class) (text : List ℕ) (start m p r : ℕ) (same : p ≡ m) (is : r ≡ prefix_len (within k) (take p (drop start text))) where
  piece : (i : ℕ) → i < m → get_or (take p (drop start text)) i 0 ≡ get_or text (start + i) 0
  piece i lt = get_or-take p (drop start text) i 0 (omega arith) ∙ get_or-drop start text i 0

  pub piece_all : m ≤ r → All k text start (start + m)
  piece_all h i low lt =
      subst (λ j. within k (get_or text j 0) ≡ true) (omega arith)
      (ap (within k) (sym (piece (i - start) (omega arith))) ∙ prefix_len_passes (within k) (take p (drop start text)) (i - start) 0 (omega arith))

  pub piece_stops : r < m → m ≤ length text - start → within k (get_or text (start + r) 0) ≡ false
  piece_stops lt inside =
      ap (within k) (sym (piece r lt))
      ∙ ap (λ j. within k (get_or (take p (drop start text)) j 0)) is
      ∙ prefix_len_stops (within k) (take p (drop start text)) 0 (omega (arith, length-take p (drop start text), length-drop start text))

-- reading a name's bytes never goes past its eight
pub take_min : (xs : List ℕ) (n m : ℕ) → length xs ≡ 8 → m ≡ min n 8 → take m xs ≡ take n xs
take_min xs n m long is =
    ⊎_elim (λ h. ap (λ k. take k xs) (omega arith)) (λ h. take_all m xs (omega arith) ∙ sym (take_all n xs (omega arith))) (cases_lt n 8)

-- a word of at most eight bytes is kept whole
pub kept_whole : (w : List ℕ) → length w ≤ 8 → name_bytes (name_from w) ≡ w
kept_whole w short =
    let front : take 8 w ≡ w = take_all 8 w short in
    ap (λ n. take n (take 8 w ++ replicate (8 - length w) 0)) (omega arith)
    ∙ ap (λ v. take (length w) (v ++ replicate (8 - length w) 0)) front
    ∙ take_at w (replicate (8 - length w) 0) (length w) refl
