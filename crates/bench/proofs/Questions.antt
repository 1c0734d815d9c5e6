-- Each question to a set of codes has one answer. Assumes nothing.
use Rattle.std.proofs.Common.{◌≡◌, ℕ, zero, suc, ◌-◌, ◌<◌, ◌≤◌, List, length, get_or, Some, None, Option, sym, refl, ap, ⊎_elim, arith}
use Rattle.std.proofs.lemmas.Bool.{cases_lt, cases_eq, cases_order}
use Rattle.members.proofs.Ordering.{before_orders}
use Rattle.bench.specs.Questions.{First, Names, Many, Fewest}

module _ (P : ℕ → Type 0) where
  pub first_unique : (p : ℕ) (o q : Option ℕ) → First P p o → First P p q → o ≡ q
  first_unique p None None h k = refl
  first_unique p None (Some d) h k = absurd (h d k.0 k.1)
  first_unique p (Some c) None h k = absurd (k c h.0 h.1)
  first_unique p (Some c) (Some d) h k =
      ⊎_elim
      (λ same. ap Some same)
      (⊎_elim
      (λ below. absurd (k.2 c h.0 below h.1))
      (λ above. absurd (h.2 d k.0 above k.1)))
      (cases_order c d)

  pub fewest_unique : (o q : Option ℕ) → Fewest P o → Fewest P q → o ≡ q
  fewest_unique None None h k = refl
  fewest_unique None (Some d) h k = absurd (h d k.0)
  fewest_unique (Some c) None h k = absurd (k c h.0)
  fewest_unique (Some c) (Some d) h k =
      ⊎_elim
      (λ same. ap Some same)
      (λ apart. absurd (before_orders.not_both c d (h.1 d k.0 (λ e. apart (sym e))) (k.1 c h.0 apart)))
      (cases_eq c d)

  -- Each code of one list stands in the other, at the same place or behind it: of two codes the larger stands behind the smaller.
  reaches : (cs ds : List ℕ) → Names P cs → Names P ds → (i : ℕ) → i < length cs → (j : ℕ) × (i ≤ j) × (j < length ds) × (get_or ds j 0 ≡ get_or cs i 0)
  reaches cs ds h k zero l = let w = k.whole (get_or cs 0 0) (h.sound 0 l) in (w.0, omega arith, w.1, w.2)
  reaches cs ds h k (suc i) l =
      let u = reaches cs ds h k i (omega arith) in
      let w = k.whole (get_or cs (suc i) 0) (h.sound (suc i) l) in
      let up : get_or cs i 0 < get_or cs (suc i) 0 = h.ascending i (suc i) (omega arith) l in
      let old : get_or ds u.0 0 ≡ get_or cs i 0 = u.3 in
      let new : get_or ds w.0 0 ≡ get_or cs (suc i) 0 = w.2 in
      let low : i ≤ u.0 = u.1 in
      let behind : u.0 < w.0 =
      ⊎_elim
      (λ e. let same : get_or ds w.0 0 ≡ get_or ds u.0 0 = ap (λ n. get_or ds n 0) e in absurd (omega arith))
      (⊎_elim
      (λ before. let down : get_or ds w.0 0 < get_or ds u.0 0 = k.ascending w.0 u.0 before u.2 in absurd (omega arith))
      (λ after. after))
      (cases_order w.0 u.0) in
      (w.0, omega arith, w.1, w.2)

  fewer : (cs ds : List ℕ) → Names P cs → Names P ds → length cs ≤ length ds
  fewer cs ds h k =
      ⊎_elim
      (λ some. let w = reaches cs ds h k (length cs - 1) (omega arith) in let low = w.1 in let high = w.2 in omega arith)
      (λ none. omega arith)
      (cases_lt 0 (length cs))

  pub many_unique : (n m : ℕ) → Many P n → Many P m → n ≡ m
  many_unique n m h k =
      let up = fewer h.codes k.codes h.names k.names in
      let down = fewer k.codes h.codes k.names h.names in
      let first = h.counts in
      let second = k.counts in
      omega arith
