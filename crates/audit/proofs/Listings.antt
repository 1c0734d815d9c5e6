-- What a listing carried to its end names. Assumes nothing.
use Rattle.std.proofs.Common.{◌≡◌, ℕ, zero, suc, ◌<◌, ◌≤◌, List, length, get_or, Some, None, ap, ⊎_elim, arith}
use Rattle.std.proofs.lemmas.Bool.{cases_lt}
use Rattle.bench.specs.Questions.{First, Names}
use Rattle.audit.specs.Laws.{place}

-- the first n of xs are the codes with P below the place where the listing goes on
record Upto (P : ℕ → Type 0) (xs : List ℕ) (n : ℕ) : Type 0 where
  ascending : (j k : ℕ) → j < k → k < n → get_or xs j 0 < get_or xs k 0
  below : (k : ℕ) → k < n → get_or xs k 0 < place xs n
  whole : (c : ℕ) → c < place xs n → P c → (k : ℕ) × (k < n) × (get_or xs k 0 ≡ c)

module _ (P : ℕ → Type 0) (xs : List ℕ) where
  upto_more : (n : ℕ) → Upto P xs n → First P (place xs n) (Some (get_or xs n 0)) → Upto P xs (suc n)
  upto_more n h first =
      let low : place xs n ≤ get_or xs n 0 = first.0 in
      record {
        ascending = λ j k p q.
            ⊎_elim
            (λ l. h.ascending j k p l)
            (λ l. let e : n ≡ k = omega arith in let under = h.below j (omega arith) in let same : get_or xs n 0 ≡ get_or xs k 0 = ap (λ i. get_or xs i 0) e in omega arith)
            (cases_lt k n);
        below = λ k q.
            ⊎_elim
            (λ l. let under = h.below k l in omega arith)
            (λ l. let e : n ≡ k = omega arith in let same : get_or xs n 0 ≡ get_or xs k 0 = ap (λ i. get_or xs i 0) e in omega arith)
            (cases_lt k n);
        whole = λ c q t.
            ⊎_elim
            (λ l. let w = h.whole c l t in let in_n = w.1 in (w.0, omega arith, w.2))
            (λ l.
            ⊎_elim
            (λ under. absurd (first.2 c l under t))
            (λ over. (n, omega arith, omega arith))
            (cases_lt c (get_or xs n 0)))
            (cases_lt c (place xs n));
      }

  upto : ((k : ℕ) → k < length xs → First P (place xs k) (Some (get_or xs k 0))) → (n : ℕ) → n ≤ length xs → Upto P xs n
  upto firsts zero l = record {
    ascending = λ j k p q. absurd (omega arith);
    below = λ k p. absurd (omega arith);
    whole = λ c p q. absurd (omega arith);
  }
  upto firsts (suc n) l = upto_more n (upto firsts n (omega arith)) (firsts n (omega arith))

  -- each answer is the first code from the place on, so that none is passed over; the last says that there is none behind
  pub firsts_name : ((k : ℕ) → k < length xs → First P (place xs k) (Some (get_or xs k 0))) → First P (place xs (length xs)) None → Names P xs
  firsts_name firsts none =
      let all = upto firsts (length xs) (omega arith) in
      record {
        ascending = all.ascending;
        sound = λ k l. (firsts k l).1;
        whole = λ c t.
            ⊎_elim
            (λ l. all.whole c l t)
            (λ l. absurd (none c l t))
            (cases_lt c (place xs (length xs)));
      }
