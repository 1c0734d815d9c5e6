-- Ascending lists of codes. Assumes nothing.
use Rattle.std.proofs.Common.{◌≡◌, ℕ, zero, suc, ◌+◌, ◌<◌, ◌≤◌, Bool, true, false, List, [], ◌∷◌, ◌++◌, length, get_or, sym, refl, ap, ◌∙◌, subst, ⊎_elim, arith}
use Rattle.std.proofs.lemmas.List.{length_push, get_or_append_left, get_or_push}
use Rattle.std.proofs.lemmas.Bool.{cond-true, cond-false, cases_lt, cases_Bool, both_ways}
use Rattle.members.specs.Numbers.{number}
use Rattle.report.specs.Listings.{Names, below}

pub length_below : (m : ℕ → Bool) (n : ℕ) → length (below m n) ≡ number m n
length_below m zero = refl
length_below m (suc n) =
    ⊎_elim
    (λ e. ap length (cond-true (m n) (below m n ++ n ∷ []) (below m n) e) ∙ length_push (below m n) n ∙ ap (λ k. k + 1) (length_below m n) ∙ sym (cond-true (m n) (number m n + 1) (number m n) e))
    (λ e. ap length (cond-false (m n) (below m n ++ n ∷ []) (below m n) e) ∙ length_below m n ∙ sym (cond-false (m n) (number m n + 1) (number m n) e))
    (cases_Bool (m n))

-- cs has the members below n, each once, ascending
record NamesBelow (m : ℕ → Bool) (n : ℕ) (cs : List ℕ) : Type 0 where
  small : (k : ℕ) → k < length cs → get_or cs k 0 < n
  ascending : (j k : ℕ) → j < k → k < length cs → get_or cs j 0 < get_or cs k 0
  sound : (k : ℕ) → k < length cs → m (get_or cs k 0) ≡ true
  whole : (c : ℕ) → c < n → m c ≡ true → (k : ℕ) × (k < length cs) × (get_or cs k 0 ≡ c)

-- an element of cs and n behind it
at_end : (P : ℕ → ℕ → Type 0) (cs : List ℕ) (n : ℕ) → ((k : ℕ) → k < length cs → P k (get_or cs k 0)) → P (length cs) n → (k : ℕ) → k < length (cs ++ n ∷ []) → P k (get_or (cs ++ n ∷ []) k 0)
at_end P cs n front last k h =
    let long = length_push cs n in
    ⊎_elim
    (λ l. subst (P k) (sym (get_or_append_left cs (n ∷ []) 0 k l)) (front k l))
    (λ l.
    let e : length cs ≡ k = omega arith in
    subst (P k) (sym (get_or_push cs n 0 k e)) (let Q : ℕ → Type 0 = λ i. P i n in subst Q e last))
    (cases_lt k (length cs))

one_behind : (m : ℕ → Bool) (n : ℕ) (cs : List ℕ) → m n ≡ true → NamesBelow m n cs → NamesBelow m (suc n) (cs ++ n ∷ [])
one_behind m n cs here h =
    let long = length_push cs n in
    record {
      small = at_end (λ k c. c < suc n) cs n (λ k l. let s = h.small k l in omega arith) (omega arith);
      ascending = λ j k l r.
          ⊎_elim
          (λ s.
          let x : get_or (cs ++ n ∷ []) j 0 ≡ get_or cs j 0 = get_or_append_left cs (n ∷ []) 0 j (omega arith) in
          let y : get_or (cs ++ n ∷ []) k 0 ≡ get_or cs k 0 = get_or_append_left cs (n ∷ []) 0 k s in
          let up = h.ascending j k l s in
          omega arith)
          (λ s.
          let x : get_or (cs ++ n ∷ []) j 0 ≡ get_or cs j 0 = get_or_append_left cs (n ∷ []) 0 j (omega arith) in
          let y : get_or (cs ++ n ∷ []) k 0 ≡ n = get_or_push cs n 0 k (omega arith) in
          let up = h.small j (omega arith) in
          omega arith)
          (cases_lt k (length cs));
      sound = at_end (λ k c. m c ≡ true) cs n h.sound here;
      whole = λ c l e.
          ⊎_elim
          (λ s.
          let w = h.whole c s e in
          let low : w.0 < length cs = w.1 in
          (w.0, omega arith, get_or_append_left cs (n ∷ []) 0 w.0 low ∙ w.2))
          (λ s. (length cs, omega arith, get_or_push cs n 0 (length cs) refl ∙ let same : n ≡ c = omega arith in same))
          (cases_lt c n);
    }

none_behind : (m : ℕ → Bool) (n : ℕ) (cs : List ℕ) → m n ≡ false → NamesBelow m n cs → NamesBelow m (suc n) cs
none_behind m n cs lacks h = record {
  small = λ k l. let s = h.small k l in omega arith;
  ascending = h.ascending;
  sound = h.sound;
  whole = λ c l e.
      ⊎_elim
      (λ s. h.whole c s e)
      (λ s. let same : c ≡ n = omega arith in absurd (both_ways (m c) (ap m same ∙ lacks) e))
      (cases_lt c n);
}

names_below : (m : ℕ → Bool) (n : ℕ) → NamesBelow m n (below m n)
names_below m zero = record {
  small = λ k l. absurd (omega arith);
  ascending = λ j k l r. absurd (omega arith);
  sound = λ k l. absurd (omega arith);
  whole = λ c l e. absurd (omega arith);
}
names_below m (suc n) =
    let P : List ℕ → Type 0 = NamesBelow m (suc n) in
    ⊎_elim
    (λ e. subst P (sym (cond-true (m n) (below m n ++ n ∷ []) (below m n) e)) (one_behind m n (below m n) e (names_below m n)))
    (λ e. subst P (sym (cond-false (m n) (below m n ++ n ∷ []) (below m n) e)) (none_behind m n (below m n) e (names_below m n)))
    (cases_Bool (m n))

pub below_names : (m : ℕ → Bool) (n : ℕ) (P : ℕ → Type 0) → ((c : ℕ) → m c ≡ true → c < n) → ((c : ℕ) → m c ≡ true → P c) → ((c : ℕ) → P c → m c ≡ true) → Names P (below m n)
below_names m n P small to from =
    let h = names_below m n in
    record {
      ascending = h.ascending;
      sound = λ k l. to (get_or (below m n) k 0) (h.sound k l);
      whole = λ c p. h.whole c (small c (from c p)) (from c p);
    }

-- every entry of an ascending list is at least its first
first_low : (P : ℕ → Type 0) (x : ℕ) (cs : List ℕ) (k : ℕ) → k < suc (length cs) → Names P (x ∷ cs) → x ≤ get_or (x ∷ cs) k 0
first_low P x cs zero l h = omega arith
first_low P x cs (suc k) l h = let up = h.ascending 0 (suc k) (omega arith) l in omega arith

later : (x : ℕ) (cs : List ℕ) (c k : ℕ) → x < c → k < suc (length cs) → get_or (x ∷ cs) k 0 ≡ c → (j : ℕ) × (j < length cs) × (get_or cs j 0 ≡ c)
later x cs c zero h l e = absurd (omega arith)
later x cs c (suc k) h l e = (k, omega arith, e)

names_rest : (P : ℕ → Type 0) (x : ℕ) (cs : List ℕ) → Names P (x ∷ cs) → Names (λ c. P c × (x < c)) cs
names_rest P x cs h = record {
  ascending = λ j k l r. h.ascending (suc j) (suc k) (omega arith) (omega arith);
  sound = λ k l. (h.sound (suc k) (omega arith), h.ascending 0 (suc k) (omega arith) (omega arith));
  whole = λ c p. let w = h.whole c p.0 in later x cs c w.0 p.1 w.1 w.2;
}

first_least : (P : ℕ → Type 0) (x y : ℕ) (xs ys : List ℕ) → Names P (x ∷ xs) → Names P (y ∷ ys) → x ≤ y
first_least P x y xs ys a b =
    let w = a.whole y (b.sound 0 (omega arith)) in
    let least : x ≤ get_or (x ∷ xs) w.0 0 = first_low P x xs w.0 w.1 a in
    let same : get_or (x ∷ xs) w.0 0 ≡ y = w.2 in
    omega arith

-- Two ascending lists of the same numbers are one list: their first numbers are each the least, and so on behind them.
pub names_unique : (P : ℕ → Type 0) (xs ys : List ℕ) → Names P xs → Names P ys → xs ≡ ys
names_unique P [] [] a b = refl
names_unique P [] (y ∷ ys) a b = let w = a.whole y (b.sound 0 (omega arith)) in let none = w.1 in absurd (omega arith)
names_unique P (x ∷ xs) [] a b = let w = b.whole x (a.sound 0 (omega arith)) in let none = w.1 in absurd (omega arith)
names_unique P (x ∷ xs) (y ∷ ys) a b =
    let le = first_least P x y xs ys a b in
    let ge = first_least P y x ys xs b a in
    let e : x ≡ y = omega arith in
    let Q : ℕ → Type 0 = λ z. Names (λ c. P c × (z < c)) ys in
    let rest = names_unique (λ c. P c × (x < c)) xs ys (names_rest P x xs a) (subst Q (sym e) (names_rest P y ys b)) in
    cc
