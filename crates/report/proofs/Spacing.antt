-- Words with one space between, one more at a time. Assumes nothing.
use Rattle.std.proofs.Common.{◌≡◌, ℕ, zero, suc, ◌+◌, ◌*◌, ◌<◌, Bool, true, false, eqb, List, [], ◌∷◌, ◌++◌, map, length, get_or, codes, sym, refl, ap, ◌∙◌, add-one, arith}
use Rattle.std.proofs.lemmas.List.{flat_map_more, append-nil, length-map, nil_from_length}
use Rattle.std.proofs.lemmas.Bool.{cond-true, cond-false, ne_eqb}
use Rattle.logic.specs.Codes.{bit, gives}
use Rattle.words.specs.declared.Name.{Name}
use Rattle.words.specs.Words.{name_bytes}
use Rattle.report.specs.declared.printer.Printer.{Printer}
use Rattle.report.specs.Printers.{Lays}
use Rattle.report.specs.Lines.{spaced, gap, none, passing, braced, given_text, given_texts, line}
use Rattle.report.proofs.Laying.{lays_then, lays_same}

pub spaced_more : (ws : List (List ℕ)) (w : List ℕ) → spaced ws ++ (gap (none ws) ++ w) ≡ spaced (ws ++ w ∷ [])
spaced_more [] w = sym (append-nil w)
spaced_more (v ∷ ws) w = flat_map_more (λ u. 32 ∷ u) v ws w

pub none_push : (ws : List (List ℕ)) (w : List ℕ) → none (ws ++ w ∷ []) ≡ false
none_push [] w = refl
none_push (v ∷ ws) w = refl

-- one more word: the gap, then the word
pub spaced_lays :
    (ws : List (List ℕ)) (w : List ℕ) {between : List ℕ} {p q r t : Printer}
    → between ≡ gap (none ws) → Lays p (spaced ws) q → Lays q between r → Lays r w t → Lays p (spaced (ws ++ w ∷ [])) t
spaced_lays ws w e a b c = lays_same (spaced_more ws w) (lays_then a (lays_then (lays_same e b) c))

pub passing_yes : (test : ℕ → Bool) (names : List (List ℕ)) (n : ℕ) → test n ≡ true → passing test names (n + 1) ≡ passing test names n ++ get_or names n [] ∷ []
passing_yes test names n h = rw (add-one n) (cond-true (test n) _ _ h)

pub passing_no : (test : ℕ → Bool) (names : List (List ℕ)) (n : ℕ) → test n ≡ false → passing test names (n + 1) ≡ passing test names n
passing_no test names n h = rw (add-one n) (cond-false (test n) _ _ h)

pub texts_more : (actions variables : List (List ℕ)) (c y : ℕ) → given_texts actions variables c (y + 1) ≡ given_texts actions variables c y ++ given_text actions variables c y ∷ []
texts_more actions variables c y = rw (add-one y) refl

-- no variable stands in front of the first
pub none_texts : (actions variables : List (List ℕ)) (c y : ℕ) → eqb y 0 ≡ none (given_texts actions variables c y)
none_texts actions variables c zero = refl
none_texts actions variables c (suc y) =
    ne_eqb (suc y) 0 (λ e. omega arith) ∙ sym (none_push (given_texts actions variables c y) (given_text actions variables c y))

-- a variable's text, with the position of its first bit counted along
pub text_here :
    (xs : List Name) (variables : List (List ℕ)) (name : List ℕ) (c y position : ℕ) → name ≡ get_or variables y [] → position ≡ y * length xs
    → braced name (passing (λ a. bit c (position + a)) (map name_bytes xs) (length xs)) ≡ given_text (map name_bytes xs) variables c y
text_here xs variables name c y position is e =
    let names = map name_bytes xs in
    ap (λ p. braced name (passing (λ a. bit c (p + a)) names (length xs))) e
    ∙ ap (λ n. braced name (passing (λ a. bit c (y * n + a)) names n)) (sym (length-map xs name_bytes))
    ∙ ap (λ v. braced v (passing (gives (length names) c y) names (length names))) is

whole_line : (actions variables : List (List ℕ)) (c : ℕ) → 0 < length variables → spaced (given_texts actions variables c (length variables)) ≡ line actions variables c
whole_line actions [] c h = absurd (omega arith)
whole_line actions (v ∷ vs) c h = refl

pub line_some : (actions variables : List (List ℕ)) (c n : ℕ) → length variables ≡ n → 0 < n → spaced (given_texts actions variables c n) ≡ line actions variables c
line_some actions variables c n long h = ap (λ k. spaced (given_texts actions variables c k)) (sym long) ∙ whole_line actions variables c (omega arith)

pub line_none : (actions variables : List (List ℕ)) (c : ℕ) → length variables ≡ 0 → codes "-" ≡ line actions variables c
line_none actions variables c h = ap (λ vs. line actions vs c) (sym (nil_from_length variables h))
