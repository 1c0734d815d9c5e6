-- The list of the members of a set. Assumes nothing.
use Rattle.std.proofs.Common.{◌≡◌, ℕ, zero, suc, ◌+◌, ◌-◌, ◌<◌, ◌≤◌, Bool, true, false, List, [], ◌∷◌, length, get_or, Some, None, Ok, Err, Option, Result, sym, refl, ap, ◌∙◌, subst, ⊎_elim, arith}
use Rattle.std.proofs.lemmas.Bool.{both_ways, cond-true, cond-false, cases_lt, cases_Bool}
use Rattle.std.specs.Result.{result_unwrap_or}
use Rattle.store.specs.declared.fault.Fault.{Fault}
use Rattle.store.specs.Frames.{Frame, frame_codes}
use Rattle.store.specs.Calls.{Answers, set_and_start}
use Rattle.store.specs.Least.{Least}
use Rattle.store.proofs.Refusals.{ok_answers, set_and_start_none}
use Rattle.members.specs.Numbers.{Lists}
use Rattle.members.specs.Listed.{ListsFrom, listed, ListsUnique, ListedLists}

pub not_member : (b : Bool) → (b ≡ true → ⊥) → b ≡ false
not_member b h = ⊎_elim (λ e. absurd (h e)) (λ e. e) (cases_Bool b)

-- where c stands in x ∷ cs, if it is above x
later : (x : ℕ) (cs : List ℕ) (c k : ℕ) → x < c → k < suc (length cs) → get_or (x ∷ cs) k 0 ≡ c → (j : ℕ) × (j < length cs) × (get_or cs j 0 ≡ c)
later x cs c zero h l e = absurd (omega arith)
later x cs c (suc k) h l e = (k, omega arith, e)

-- every entry of an ascending list is at least its first
first_low : (x : ℕ) (cs : List ℕ) (k : ℕ) → k < suc (length cs) → ((j i : ℕ) → j < i → i < suc (length cs) → get_or (x ∷ cs) j 0 < get_or (x ∷ cs) i 0) → x ≤ get_or (x ∷ cs) k 0
first_low x cs zero l up = omega arith
first_low x cs (suc k) l up = let h = up 0 (suc k) (omega arith) l in omega arith

pub first_gap : (m : ℕ → Bool) (a x : ℕ) (cs : List ℕ) → ListsFrom m a (x ∷ cs) → (d : ℕ) → a ≤ d → d < x → m d ≡ false
first_gap m a x cs h d low high =
    not_member (m d) (λ e.
    let w = h.whole d low e in
    let least : x ≤ get_or (x ∷ cs) w.0 0 = first_low x cs w.0 w.1 h.ascending in
    let same : get_or (x ∷ cs) w.0 0 ≡ d = w.2 in
    omega arith)

pub rest_lists : (m : ℕ → Bool) (a x : ℕ) (cs : List ℕ) → ListsFrom m a (x ∷ cs) → ListsFrom m (x + 1) cs
rest_lists m a x cs h = record {
  low = λ k l. let up = h.ascending 0 (suc k) (omega arith) (omega arith) in omega arith;
  ascending = λ j k l n. h.ascending (suc j) (suc k) (omega arith) (omega arith);
  sound = λ k l. h.sound (suc k) (omega arith);
  whole = λ c l e.
      let low : a ≤ x = h.low 0 (omega arith) in
      let w = h.whole c (omega arith) e in
      later x cs c w.0 (omega arith) w.1 w.2;
}

-- an empty list has no member
empty_lacks : (m : ℕ → Bool) (a : ℕ) → ListsFrom m a [] → (c : ℕ) → a ≤ c → m c ≡ true → ⊥
empty_lacks m a h c low here = let w = h.whole c low here in let none = w.1 in omega arith

first_least : (m : ℕ → Bool) (a x y : ℕ) (cs ds : List ℕ) → ListsFrom m a (x ∷ cs) → ListsFrom m a (y ∷ ds) → x ≤ y
first_least m a x y cs ds h g =
    ⊎_elim
    (λ lt. absurd (both_ways (m y) (first_gap m a x cs h y (g.low 0 (omega arith)) lt) (g.sound 0 (omega arith))))
    (λ le. le)
    (cases_lt y x)

pub lists_unique : ListsUnique
lists_unique m a [] [] h g = refl
lists_unique m a [] (y ∷ ds) h g = absurd (empty_lacks m a h y (g.low 0 (omega arith)) (g.sound 0 (omega arith)))
lists_unique m a (x ∷ cs) [] h g = absurd (empty_lacks m a g x (h.low 0 (omega arith)) (h.sound 0 (omega arith)))
lists_unique m a (x ∷ cs) (y ∷ ds) h g =
    let below : x ≤ y = first_least m a x y cs ds h g in
    let above : y ≤ x = first_least m a y x ds cs g h in
    let same : y ≡ x = omega arith in
    let P : ℕ → Type 0 = λ z. ListsFrom m (z + 1) ds in
    let rest : cs ≡ ds = lists_unique m (x + 1) cs ds (rest_lists m a x cs h) (subst P same (rest_lists m a y ds g)) in
    ap (λ l. x ∷ l) rest ∙ ap (λ z. z ∷ ds) (sym same)

one_more : (m : ℕ → Bool) (a : ℕ) (cs : List ℕ) → m a ≡ true → ListsFrom m (a + 1) cs → ListsFrom m a (a ∷ cs)
one_more m a cs here h = record { low = lows; ascending = ups; sound = sounds; whole = wholes }
  where
    lows : (k : ℕ) → k < suc (length cs) → a ≤ get_or (a ∷ cs) k 0
    lows zero l = omega arith
    lows (suc k) l = let up = h.low k (omega arith) in omega arith

    ups : (j k : ℕ) → j < k → k < suc (length cs) → get_or (a ∷ cs) j 0 < get_or (a ∷ cs) k 0
    ups j zero l n = absurd (omega arith)
    ups zero (suc k) l n = let up = h.low k (omega arith) in omega arith
    ups (suc j) (suc k) l n = h.ascending j k (omega arith) (omega arith)

    sounds : (k : ℕ) → k < suc (length cs) → m (get_or (a ∷ cs) k 0) ≡ true
    sounds zero l = here
    sounds (suc k) l = h.sound k (omega arith)

    wholes : (c : ℕ) → a ≤ c → m c ≡ true → (k : ℕ) × (k < suc (length cs)) × (get_or (a ∷ cs) k 0 ≡ c)
    wholes c l e =
        ⊎_elim
        (λ lt. let w = h.whole c (omega arith) e in (suc w.0, let n = w.1 in omega arith, w.2))
        (λ le. (0, omega arith, let same : a ≡ c = omega arith in same))
        (cases_lt a c)

none_more : (m : ℕ → Bool) (a : ℕ) (cs : List ℕ) → m a ≡ false → ListsFrom m (a + 1) cs → ListsFrom m a cs
none_more m a cs lacks h = record {
  low = λ k l. let up = h.low k l in omega arith;
  ascending = h.ascending;
  sound = h.sound;
  whole = λ c l e.
      ⊎_elim
      (λ lt. h.whole c (omega arith) e)
      (λ le. let same : c ≡ a = omega arith in absurd (both_ways (m c) (ap m same ∙ lacks) e))
      (cases_lt a c);
}

-- from a on so many numbers are looked at that every member is below
enough : (m : ℕ → Bool) (n : ℕ) → ((c : ℕ) → m c ≡ true → c < n) → (more a : ℕ) → n ≤ a + more → ListsFrom m a (listed m a more)
enough m n small zero a l = record {
  low = λ k h. absurd (omega arith);
  ascending = λ j k h h'. absurd (omega arith);
  sound = λ k h. absurd (omega arith);
  whole = λ c h e. let below = small c e in absurd (omega arith);
}
enough m n small (suc more) a l =
    let rest = enough m n small more (a + 1) (omega arith) in
    let P : List ℕ → Type 0 = ListsFrom m a in
    ⊎_elim
    (λ here. subst P (sym (cond-true (m a) (a ∷ listed m (a + 1) more) (listed m (a + 1) more) here)) (one_more m a (listed m (a + 1) more) here rest))
    (λ lacks. subst P (sym (cond-false (m a) (a ∷ listed m (a + 1) more) (listed m (a + 1) more) lacks)) (none_more m a (listed m (a + 1) more) lacks rest))
    (cases_Bool (m a))

pub listed_lists : ListedLists
listed_lists m a n small = enough m n small (n - a) a (omega arith)

-- from 0 on every member is listed
pub lists_from_start : (m : ℕ → Bool) (cs : List ℕ) → ListsFrom m 0 cs → Lists m cs
lists_from_start m cs h = record { ascending = h.ascending; sound = h.sound; whole = λ c e. h.whole c (omega arith) e }

pub lists_to_start : (m : ℕ → Bool) (cs : List ℕ) → Lists m cs → ListsFrom m 0 cs
lists_to_start m cs h = record { low = λ k l. omega arith; ascending = h.ascending; sound = h.sound; whole = λ c l e. h.whole c e }

-- where no member is left the list is empty
pub listed_none : (m : ℕ → Bool) (a more : ℕ) → Least m a None → listed m a more ≡ []
listed_none m a zero none = refl
listed_none m a (suc more) none =
    cond-false (m a) (a ∷ listed m (a + 1) more) (listed m (a + 1) more) (none a (omega arith)) ∙ listed_none m (a + 1) more (λ d l. none d (omega arith))

-- the first member from a on heads the list
heads : (m : ℕ → Bool) (c more a : ℕ) → Least m a (Some c) → c < a + more → listed m a more ≡ c ∷ listed m (c + 1) (a + more - (c + 1))
heads m c zero a h l = let low = h.0 in absurd (omega arith)
heads m c (suc more) a h l =
    let low = h.0 in
    let both = cond-true (m a) (a ∷ listed m (a + 1) more) (listed m (a + 1) more) in
    let skip = cond-false (m a) (a ∷ listed m (a + 1) more) (listed m (a + 1) more) in
    ⊎_elim
    (λ lt.
    let length_same : a + 1 + more - (c + 1) ≡ a + suc more - (c + 1) = omega arith in
    skip (h.2 a (omega arith) lt)
    ∙ heads m c more (a + 1) (omega arith, h.1, λ e le. h.2 e (omega arith)) (omega arith)
    ∙ ap (λ n. c ∷ listed m (c + 1) n) length_same)
    (λ le.
    let same : c ≡ a = omega arith in
    let left : more ≡ a + suc more - (a + 1) = omega arith in
    let P : ℕ → Type 0 = λ z. listed m a (suc more) ≡ z ∷ listed m (z + 1) (a + suc more - (z + 1)) in
    subst P (sym same) (both (ap m (sym same) ∙ h.1) ∙ ap (λ n. a ∷ listed m (a + 1) n) left))
    (cases_lt a c)

pub listed_some : (m : ℕ → Bool) (a c n : ℕ) → Least m a (Some c) → a ≤ n → c < n → listed m a (n - a) ≡ c ∷ listed m (c + 1) (n - (c + 1))
listed_some m a c n h low below =
    let whole : a + (n - a) ≡ n = omega arith in
    heads m c (n - a) a h (omega arith) ∙ ap (λ k. c ∷ listed m (c + 1) (k - (c + 1))) whole

-- what `next` answers at a place that there is
pub found : (f : Frame) (m : ℕ → Bool) (i from : ℕ) (r : Result (Option ℕ) Fault) → Answers r (set_and_start f i from) (Least m from) → i < f.count → from ≤ frame_codes f
    → Least m from (result_unwrap_or r None)
found f m i from (Ok o) h inside low = (ok_answers o (Least m from) (set_and_start f i from) h).1
found f m i from (Err e) h inside low =
    let P : Option Fault → Type 0 = λ z. Answers (Err e) z (Least m from) in absurd (subst P (set_and_start_none f i from inside low) h)
