-- Members that include no other member. Assumes nothing.
use Rattle.std.proofs.Common.{◌≡◌, ℕ, zero, suc, ◌*◌, ◌^◌, ◌<◌, ◌≤◌, Bool, true, false, Decides, List, length, nat_lt, slice_index, Some, None, sym, ◌∙◌, subst, refl, ap, inl, inr, ⊎_elim, arith}
use Rattle.std.proofs.lemmas.Bool.{both_ways, cases_lt, cases_order, ltb-true, ltb-false}
use Rattle.std.proofs.lemmas.List.{get_or-take}
use Rattle.std.proofs.lemmas.List.Folds.{length-prefix_len}
use Rattle.std.proofs.lemmas.List.Sums.{prefix_len-le-length, prefix_len_passes, prefix_len_stops}
use Rattle.std.specs.Bool.{MatchBool}
use Rattle.std.specs.List.{AllWithin, HoldsAt, prefix_len, take_while}
use Rattle.logic.specs.Codes.{Includes}
use Rattle.logic.proofs.Inclusion.{includes_le, includes_trans}
use Rattle.logic.proofs.Minimal.{some_below, includes_decided}
use Rattle.logic.proofs.Settling.{Decided, same_decided}
use Rattle.members.specs.Numbers.{Lists}
use Rattle.members.specs.Minimal.{IncludesNoOther, Minimal, LeastMinimalUnique, MinimalReached}

module _ (actions variables : ℕ) (m : ℕ → Bool) (coded : (c : ℕ) → m c ≡ true → c < 2 ^ (actions * variables)) where
  -- the members from c on need no look: what c includes is not above it
  pub no_other_below : (c : ℕ) → ((d : ℕ) → d < c → m d ≡ true → Includes actions variables c d → d ≡ c) → IncludesNoOther actions variables m c
  no_other_below c before d e h =
      ⊎_elim
      (λ lt. before d lt e h)
      (λ ge. let le = includes_le actions variables c d (coded d e) h in omega arith)
      (cases_lt d c)

  -- of the listed members those below c stand first
  lower_first : (c : ℕ) (cs : List ℕ) → Lists m cs → (k : ℕ) → k < length cs → slice_index cs k < c → k < prefix_len (λ d. nat_lt d c) cs
  lower_first c cs lists k low below =
      ⊎_elim
      (λ lt. lt)
      (λ ge.
      let n = prefix_len (λ d. nat_lt d c) cs in
      let stop : n < length cs = omega arith in
      let high : c ≤ slice_index cs n = ltb-false (slice_index cs n) c (prefix_len_stops (λ d. nat_lt d c) cs 0 stop) in
      ⊎_elim
      (λ before. let up = lists.ascending n k before low in absurd (omega arith))
      (λ after. let same : n ≡ k = omega arith in let here = ap (slice_index cs) same in absurd (omega arith))
      (cases_lt n k))
      (cases_lt k (prefix_len (λ d. nat_lt d c) cs))

  -- so it is enough to look at those
  pub no_other_listed : (c : ℕ) (cs : List ℕ) → Lists m cs → (r : Bool)
      → MatchBool r (AllWithin (λ d. d < 2 ^ (actions * variables) → Includes actions variables c d → ⊥) (take_while (λ d. nat_lt d c) cs) 0 (length (take_while (λ d. nat_lt d c) cs)))
      ((k : ℕ) × (k < length (take_while (λ d. nat_lt d c) cs)) × HoldsAt (λ d. d < 2 ^ (actions * variables) → Includes actions variables c d) (take_while (λ d. nat_lt d c) cs) k)
      → Decides r (IncludesNoOther actions variables m c)
  no_other_listed c cs lists true none = (
    λ _.
        no_other_below c (λ d lt e h.
        let w = lists.whole d e in
        let first = lower_first c cs lists w.0 w.1 (let same = w.2 in omega arith) in
        let here : slice_index (take_while (λ d. nat_lt d c) cs) w.0 ≡ d = get_or-take (prefix_len (λ d. nat_lt d c) cs) cs w.0 0 first ∙ w.2 in
        let P : ℕ → Type 0 = λ x. x < 2 ^ (actions * variables) → Includes actions variables c x → ⊥ in
        absurd (subst P here (none w.0 0 (omega arith) (rw (length-prefix_len (λ d. nat_lt d c) cs) first)) (coded d e) h)),
    λ _. refl,
  )
  no_other_listed c cs lists false some =
      let n = prefix_len (λ d. nat_lt d c) cs in
      let k = some.0 in
      let first : k < n = rw (sym (length-prefix_len (λ d. nat_lt d c) cs)) some.1 in
      let few = prefix_len-le-length (λ d. nat_lt d c) cs in
      let d = slice_index cs k in
      let low : d < c = ltb-true d c (prefix_len_passes (λ d. nat_lt d c) cs k 0 first) in
      let here : m d ≡ true = lists.sound k (omega arith) in
      let P : ℕ → Type 0 = λ x. x < 2 ^ (actions * variables) → Includes actions variables c x in
      let has = subst P (get_or-take n cs k 0 first) (some.2 0) (coded d here) in (
        λ e. absurd (both_ways false refl e),
        λ h. let same = h d here has in absurd (omega arith),
      )

  -- a member that c includes
  abbrev Under : ℕ → ℕ → Type 0
  Under c d = (m d ≡ true) × Includes actions variables c d

  under_decided : (c d : ℕ) → Decided (Under c d)
  under_decided c d =
      ⊎_elim
      (λ here. ⊎_elim (λ h. inl (here, h)) (λ none. inr (λ both. none both.1)) (includes_decided actions variables c d))
      (λ lacks. inr (λ both. lacks both.0))
      (same_decided (m d) true)

  -- A member either includes no lower one, and so no other, or it includes a lower one, which by induction includes a
  -- minimal one; the induction is on a bound n above the code.
  reached : (n c : ℕ) → c < n → m c ≡ true → (d : ℕ) × Minimal actions variables m d × Includes actions variables c d
  reached zero c low here = absurd (omega arith)
  reached (suc n) c low here =
      ⊎_elim
      (λ found.
      let r = reached n found.0 (let lt = found.1 in omega arith) found.2.0 in
      (r.0, r.1, includes_trans actions variables c found.0 r.0 found.2.1 r.2))
      (λ none. (
        c,
        record { member = here; no_other = no_other_below c (λ d lt e h. absurd (none d lt (e, h))) },
        λ y a k l e. e,
      ))
      (some_below (Under c) (under_decided c) c)

pub least_minimal_unique : LeastMinimalUnique
least_minimal_unique actions variables m from None None p q = refl
least_minimal_unique actions variables m from None (Some d) p q = absurd (p d q.0 q.1)
least_minimal_unique actions variables m from (Some c) None p q = absurd (q c p.0 p.1)
least_minimal_unique actions variables m from (Some c) (Some d) p q =
    ⊎_elim
    (λ same. ap Some same)
    (⊎_elim (λ below. absurd (q.2 c p.0 below p.1)) (λ above. absurd (p.2 d q.0 above q.1)))
    (cases_order c d)

pub minimal_reached : MinimalReached
minimal_reached actions variables m coded c here = reached actions variables m coded (suc c) c (omega arith) here
