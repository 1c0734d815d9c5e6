-- A line says which code it names. Assumes nothing.
use Rattle.std.proofs.Common.{◌≡◌, ℕ, zero, suc, ◌+◌, ◌*◌, ◌^◌, ◌<◌, ◌≤◌, Bool, true, false, cond, eqb, leb, ◌≢◌, List, [], ◌∷◌, ◌++◌, length, get_or, Some, codes, Option, sym, refl, ap, ◌∙◌, subst, ⊎_elim, mul-zero, arith}
use Rattle.std.specs.List.{flat_map, prefix_len, AllByRecursion}
use Rattle.std.proofs.ByRecursion.{All-append, All-get_or, All-push}
use Rattle.std.proofs.lemmas.List.{append_assoc, append-nil, append_cancel_right, same_from_push}
use Rattle.std.proofs.lemmas.Bool.{cases_Bool, cases_lt, cond-true, cond-false, and_parts, ltb-true, eqb-true}
use Rattle.logic.specs.Codes.{gives}
use Rattle.logic.proofs.Inclusion.{includes_same}
use Rattle.words.specs.Words.{within, class_of_first, named, lookup}
use Rattle.words.specs.declared.Class.TheVariants.{LowerTail}
use Rattle.words.specs.declared.Letters.TheVariants.{Lower}
use Rattle.model.specs.declared.names.Names.TheVariants.{Actions}
use Rattle.model.proofs.Sheets.{names_look_up}
use Rattle.report.specs.Laws.{LinesNameTheListed, LinesApart}
use Rattle.report.specs.Lines.{spaced, gap, passing, given_text, given_texts, line}
use Rattle.report.proofs.Listing.{names_unique}
use Rattle.report.proofs.Spacing.{spaced_more, none_texts}

pub lines_name : LinesNameTheListed
lines_name M U actions variables φ bytes h = record {
  codes = h.listed;
  named = h.lists;
  only = λ others k. names_unique _ others h.listed k h.lists;
  all = length h.codes;
  rounds = h.rounds;
  lines = h.says;
}

-- the byte s is none of these
Lacks : ℕ → List ℕ → Type 0
Lacks s = AllByRecursion (λ b. b ≢ s)

heads : (x y : ℕ) (xs ys : List ℕ) → x ∷ xs ≡ y ∷ ys → (x ≡ y) × (xs ≡ ys)
heads x y xs ys e = (cc, cc)

lacks_none : (s : ℕ) (zs xs ys : List ℕ) → Lacks s zs → zs ≡ xs ++ s ∷ ys → ⊥
unfolding Lacks
lacks_none s [] [] ys h e = let z : ◌≡◌ {A = ℕ} 0 1 = cc in omega arith
lacks_none s [] (x ∷ xs) ys h e = let z : ◌≡◌ {A = ℕ} 0 1 = cc in omega arith
lacks_none s (z ∷ zs) [] ys h e = h.0 (heads z s zs ys e).0
lacks_none s (z ∷ zs) (x ∷ xs) ys h e = lacks_none s zs xs ys h.1 (heads z x zs (xs ++ s ∷ ys) e).1

-- a text is cut in one way at the first s
split_first : (s : ℕ) (xs ys xs' ys' : List ℕ) → Lacks s xs → Lacks s xs' → xs ++ s ∷ ys ≡ xs' ++ s ∷ ys' → (xs ≡ xs') × (ys ≡ ys')
unfolding Lacks
split_first s [] ys [] ys' a b e = (refl, (heads s s ys ys' e).1)
split_first s [] ys (x ∷ xs') ys' a b e = absurd (b.0 (sym (heads s x ys (xs' ++ s ∷ ys') e).0))
split_first s (x ∷ xs) ys [] ys' a b e = absurd (a.0 (heads x s (xs ++ s ∷ ys) ys' e).0)
split_first s (x ∷ xs) ys (x' ∷ xs') ys' a b e =
    let h = heads x x' (xs ++ s ∷ ys) (xs' ++ s ∷ ys') e in
    let r = split_first s xs ys xs' ys' a.1 b.1 h.1 in
    (λ i. h.0 i ∷ r.0 i, r.1)

-- and in one way at the last
split_last : (s : ℕ) (xs ys xs' ys' : List ℕ) → Lacks s ys → Lacks s ys' → xs ++ s ∷ ys ≡ xs' ++ s ∷ ys' → (xs ≡ xs') × (ys ≡ ys')
split_last s [] ys [] ys' a b e = (refl, (heads s s ys ys' e).1)
split_last s [] ys (x ∷ xs') ys' a b e = absurd (lacks_none s ys xs' ys' a (heads s x ys (xs' ++ s ∷ ys') e).1)
split_last s (x ∷ xs) ys [] ys' a b e = absurd (lacks_none s ys' xs ys b (sym (heads x s (xs ++ s ∷ ys) ys' e).1))
split_last s (x ∷ xs) ys (x' ∷ xs') ys' a b e =
    let h = heads x x' (xs ++ s ∷ ys) (xs' ++ s ∷ ys') e in
    let r = split_last s xs ys xs' ys' a b h.1 in
    (λ i. h.0 i ∷ r.0 i, r.1)

-- a word of a line: not empty, without a space and without a brace
record Plain (w : List ℕ) : Type 0 where
  some : 0 < length w
  unspaced : Lacks 32 w
  unbraced : Lacks 123 w

-- words behind the first: each behind a space
behind : List (List ℕ) → List ℕ
behind ws = flat_map (λ v. 32 ∷ v) ws

first_word : (w w' : List ℕ) (ws ws' : List (List ℕ)) → Lacks 32 w → Lacks 32 w' → AllByRecursion Plain ws → AllByRecursion Plain ws' → w ++ behind ws ≡ w' ++ behind ws' → (w ≡ w') × (ws ≡ ws')
unfolding behind
first_word w w' [] [] a b p q e = (sym (append-nil w) ∙ e ∙ append-nil w', refl)
first_word w w' [] (v' ∷ vs') a b p q e = absurd (lacks_none 32 w w' (v' ++ behind vs') a (sym (append-nil w) ∙ e))
first_word w w' (v ∷ vs) [] a b p q e = absurd (lacks_none 32 w' w (v ++ behind vs) b (sym (append-nil w') ∙ sym e))
first_word w w' (v ∷ vs) (v' ∷ vs') a b p q e =
    let h = split_first 32 w (v ++ behind vs) w' (v' ++ behind vs') a b e in
    let r = first_word v v' vs vs' p.0.unspaced q.0.unspaced p.1 q.1 h.1 in
    (h.0, λ i. r.0 i ∷ r.1 i)

not_empty : (w ys : List ℕ) → 0 < length w → [] ≡ w ++ ys → ⊥
not_empty [] ys h e = omega arith
not_empty (b ∷ bs) ys h e = let z : ◌≡◌ {A = ℕ} 0 1 = cc in omega arith

-- plain words with one space between are cut in one way
spaced_apart : (ws ws' : List (List ℕ)) → AllByRecursion Plain ws → AllByRecursion Plain ws' → spaced ws ≡ spaced ws' → ws ≡ ws'
unfolding behind
spaced_apart [] [] p q e = refl
spaced_apart [] (w ∷ ws) p q e = absurd (not_empty w (behind ws) q.0.some e)
spaced_apart (w ∷ ws) [] p q e = absurd (not_empty w (behind ws) p.0.some (sym e))
spaced_apart (w ∷ ws) (w' ∷ ws') p q e =
    let r = first_word w w' ws ws' p.0.unspaced q.0.unspaced p.1 q.1 e in λ i. r.0 i ∷ r.1 i

module _ (names : List (List ℕ)) (plain : AllByRecursion Plain names) (apart : (i j : ℕ) → i < length names → j < length names → get_or names i [] ≡ get_or names j [] → i ≡ j) where
  passing_plain : (t : ℕ → Bool) (n : ℕ) → n ≤ length names → AllByRecursion Plain (passing t names n)
  passing_plain t zero low = tt
  passing_plain t (suc n) low =
      let P : List (List ℕ) → Type 0 = AllByRecursion Plain in
      let rest = passing_plain t n (omega arith) in
      ⊎_elim
      (λ e. subst P (sym (cond-true (t n) (passing t names n ++ get_or names n [] ∷ []) (passing t names n) e)) (All-push Plain (passing t names n) (get_or names n []) rest (All-get_or Plain names n [] (omega arith) plain)))
      (λ e. subst P (sym (cond-false (t n) (passing t names n ++ get_or names n [] ∷ []) (passing t names n) e)) rest)
      (cases_Bool (t n))

  Earlier : ℕ → List ℕ → Type 0
  Earlier n w = (k : ℕ) × (k < n) × (w ≡ get_or names k [])

  later : (n : ℕ) (ws : List (List ℕ)) → AllByRecursion (Earlier n) ws → AllByRecursion (Earlier (suc n)) ws
  unfolding Earlier
  later n [] h = tt
  later n (w ∷ ws) h = ((h.0.0, omega (arith, h.0.1), h.0.2), later n ws h.1)

  passing_earlier : (t : ℕ → Bool) (n : ℕ) → AllByRecursion (Earlier n) (passing t names n)
  unfolding Earlier
  passing_earlier t zero = tt
  passing_earlier t (suc n) =
      let P : List (List ℕ) → Type 0 = AllByRecursion (Earlier (suc n)) in
      let rest = later n (passing t names n) (passing_earlier t n) in
      ⊎_elim
      (λ e. subst P (sym (cond-true (t n) (passing t names n ++ get_or names n [] ∷ []) (passing t names n) e)) (All-push (Earlier (suc n)) (passing t names n) (get_or names n []) rest (n, omega arith, refl)))
      (λ e. subst P (sym (cond-false (t n) (passing t names n ++ get_or names n [] ∷ []) (passing t names n) e)) rest)
      (cases_Bool (t n))

  last_earlier : (n : ℕ) (ws : List (List ℕ)) (w : List ℕ) → AllByRecursion (Earlier n) (ws ++ w ∷ []) → Earlier n w
  last_earlier n [] w h = h.0
  last_earlier n (v ∷ ws) w h = last_earlier n ws w h.1

  -- the name of n is not among those in front of it
  not_earlier : (t : ℕ → Bool) (n : ℕ) (ws : List (List ℕ)) → n < length names → ws ++ get_or names n [] ∷ [] ≡ passing t names n → ⊥
  unfolding Earlier
  not_earlier t n ws low e =
      let P : List (List ℕ) → Type 0 = AllByRecursion (Earlier n) in
      let k = last_earlier n ws (get_or names n []) (subst P (sym e) (passing_earlier t n)) in
      let lower : k.0 < n = k.1 in
      let same : n ≡ k.0 = apart n k.0 low (omega arith) k.2 in
      omega arith

  -- which names pass tells the test
  passing_apart : (t u : ℕ → Bool) (n : ℕ) → n ≤ length names → passing t names n ≡ passing u names n → (a : ℕ) → a < n → t a ≡ u a
  passing_apart t u zero low e a h = absurd (omega arith)
  passing_apart t u (suc n) low e a h =
      let w = get_or names n [] in
      let T = passing t names n in
      let V = passing u names n in
      let at_last : (x y : Bool) → t n ≡ x → u n ≡ y → x ≡ y → T ≡ V → t a ≡ u a =
      λ x y p q r same.
      ⊎_elim
      (λ l. passing_apart t u n (omega arith) same a l)
      (λ l. let here : a ≡ n = omega arith in ap t here ∙ p ∙ r ∙ sym q ∙ sym (ap u here))
      (cases_lt a n) in
      ⊎_elim
      (λ p.
      ⊎_elim
      (λ q. at_last true true p q refl (same_from_push T V w w (sym (cond-true (t n) (T ++ w ∷ []) T p) ∙ e ∙ cond-true (u n) (V ++ w ∷ []) V q)).0)
      (λ q. absurd (not_earlier u n T (omega arith) (sym (cond-true (t n) (T ++ w ∷ []) T p) ∙ e ∙ cond-false (u n) (V ++ w ∷ []) V q)))
      (cases_Bool (u n)))
      (λ p.
      ⊎_elim
      (λ q. absurd (not_earlier t n V (omega arith) (sym (cond-true (u n) (V ++ w ∷ []) V q) ∙ sym e ∙ cond-false (t n) (T ++ w ∷ []) T p)))
      (λ q. at_last false false p q refl (sym (cond-false (t n) (T ++ w ∷ []) T p) ∙ e ∙ cond-false (u n) (V ++ w ∷ []) V q))
      (cases_Bool (u n)))
      (cases_Bool (t n))

  lacks_brace : (ws : List (List ℕ)) → AllByRecursion Plain ws → Lacks 123 (behind ws)
  unfolding Lacks behind
  lacks_brace [] p = tt
  lacks_brace (w ∷ ws) p = All-append (λ b. b ≢ 123) (32 ∷ w) (behind ws) (λ e. let z : 32 ≡ 123 = e in omega arith, p.0.unbraced) (lacks_brace ws p.1)

  body_lacks : (ws : List (List ℕ)) → AllByRecursion Plain ws → Lacks 123 (spaced ws ++ codes "}")
  unfolding Lacks behind
  body_lacks [] p = (λ e. let z : 125 ≡ 123 = e in omega arith, tt)
  body_lacks (w ∷ ws) p =
      All-append (λ b. b ≢ 123) (w ++ behind ws) (codes "}") (All-append (λ b. b ≢ 123) w (behind ws) p.0.unbraced (lacks_brace ws p.1)) (λ e. let z : 125 ≡ 123 = e in omega arith, tt)

  -- in front of the last brace stands what was before, a gap and the name; behind it the actions
  regroup : (front between name body : List ℕ) → front ++ (between ++ (name ++ (codes "={" ++ body))) ≡ (front ++ (between ++ (name ++ 61 ∷ []))) ++ 123 ∷ body
  regroup front between name body = simp append_assoc

  -- The variables are told from the last to the first: its actions stand behind the last brace of the text.
  texts_apart : (variables : List (List ℕ)) (c d n : ℕ) → spaced (given_texts names variables c n) ≡ spaced (given_texts names variables d n)
      → (y : ℕ) → y < n → (a : ℕ) → a < length names → gives (length names) c y a ≡ gives (length names) d y a
  texts_apart variables c d zero e y low a h = absurd (omega arith)
  texts_apart variables c d (suc n) e y low a h =
      let size = length names in
      let C = given_texts names variables c n in
      let D = given_texts names variables d n in
      let cs = passing (gives size c n) names size in
      let ds = passing (gives size d n) names size in
      let name = get_or variables n [] in
      let between = gap (eqb n 0) in
      let whole : (x : ℕ) → spaced (given_texts names variables x n) ++ (between ++ given_text names variables x n) ≡ spaced (given_texts names variables x (suc n)) =
      λ x. ap (λ g. spaced (given_texts names variables x n) ++ (gap g ++ given_text names variables x n)) (none_texts names variables x n) ∙ spaced_more (given_texts names variables x n) (given_text names variables x n) in
      let same = sym (regroup (spaced C) between name (spaced cs ++ codes "}")) ∙ whole c ∙ e ∙ sym (whole d) ∙ regroup (spaced D) between name (spaced ds ++ codes "}") in
      let plain_c = passing_plain (gives size c n) size (omega arith) in
      let plain_d = passing_plain (gives size d n) size (omega arith) in
      let cut = split_last 123 (spaced C ++ (between ++ (name ++ 61 ∷ []))) (spaced cs ++ codes "}") (spaced D ++ (between ++ (name ++ 61 ∷ []))) (spaced ds ++ codes "}") (body_lacks cs plain_c) (body_lacks ds plain_d) same in
      let front = append_cancel_right (spaced C) (spaced D) (between ++ (name ++ 61 ∷ [])) cut.0 in
      let words = spaced_apart cs ds plain_c plain_d (append_cancel_right (spaced cs) (spaced ds) (codes "}") cut.1) in
      ⊎_elim
      (λ l. texts_apart variables c d n front y l a h)
      (λ l.
      let here : n ≡ y = omega arith in
      let P : ℕ → Type 0 = λ k. gives size c k a ≡ gives size d k a in
      subst P here (passing_apart (gives size c n) (gives size d n) size (omega arith) words a h))
      (cases_lt y n)

  lines_differ : (variables : List (List ℕ)) (c d : ℕ) → c < 2 ^ (length names * length variables) → d < 2 ^ (length names * length variables) → line names variables c ≡ line names variables d → c ≡ d
  lines_differ [] c d low high e = let z : length names * 0 ≡ 0 = mul-zero (length names) in omega (arith, ap (λ k. 2 ^ k) z)
  lines_differ (v ∷ vs) c d low high e =
      let same = texts_apart (v ∷ vs) c d (length (v ∷ vs)) e in
      includes_same (length names) (length (v ∷ vs)) c d low high
      (λ y a ly la h. same y ly a la ∙ h) (λ y a ly la h. sym (same y ly a la) ∙ h)

all_leading : (p : ℕ → Bool) (xs : List ℕ) → prefix_len p xs ≡ length xs → AllByRecursion (λ x. p x ≡ true) xs
all_leading p [] e = tt
all_leading p (x ∷ xs) e =
    ⊎_elim
    (λ h. (h, all_leading p xs (let one : cond (p x) (1 + prefix_len p xs) 0 ≡ 1 + prefix_len p xs = cond-true (p x) (1 + prefix_len p xs) 0 h in omega arith)))
    (λ h. let off : cond (p x) (1 + prefix_len p xs) 0 ≡ 0 = cond-false (p x) (1 + prefix_len p xs) 0 h in absurd (omega arith))
    (cases_Bool (p x))

tails_lack : (s : ℕ) → within LowerTail s ≡ false → (xs : List ℕ) → AllByRecursion (λ x. within LowerTail x ≡ true) xs → Lacks s xs
unfolding Lacks
tails_lack s off [] h = tt
tails_lack s off (x ∷ xs) h = (λ e. let z : true ≡ false = sym h.0 ∙ ap (within LowerTail) e ∙ off in let o : ◌≡◌ {A = ℕ} 0 1 = cc in omega arith, tails_lack s off xs h.1)

named_plain : (w : List ℕ) → named Lower w ≡ true → Plain w
named_plain w h =
    let some = and_parts _ _ h in
    let tail = (and_parts (within (class_of_first Lower) (get_or w 0 0)) _ (and_parts (leb (length w) 8) _ some.1).1).1 in
    let all = all_leading (within LowerTail) w (eqb-true _ _ tail) in
    record { some = ltb-true 0 (length w) some.0; unspaced = tails_lack 32 refl w all; unbraced = tails_lack 123 refl w all }

all_plain : (ws : List (List ℕ)) → AllByRecursion (λ w. named Lower w ≡ true) ws → AllByRecursion Plain ws
all_plain [] h = tt
all_plain (w ∷ ws) h = (named_plain w h.0, all_plain ws h.1)

same_some : (m n : ℕ) (o : Option ℕ) → o ≡ Some m → o ≡ Some n → m ≡ n
same_some m n o p q = cc

pub lines_apart : LinesApart
lines_apart m a variables c d low high e =
    lines_differ m.actions (all_plain m.actions (a.given Actions).plain)
    (λ i j li lj same.
    same_some i j (lookup (get_or m.actions i []) m.actions) (names_look_up m a Actions i li) (ap (λ w. lookup w m.actions) same ∙ names_look_up m a Actions j lj))
    variables c d low high e
