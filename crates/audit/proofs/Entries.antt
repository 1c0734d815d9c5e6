-- The entry along a list of calls. Assumes nothing.
use Rattle.std.proofs.Common.{◌≡◌, ℕ, zero, suc, ◌≤◌, List, get_or, Some, sym, refl, ap, ◌∙◌, subst, inl, inr, ⊎_elim, arith}
use Rattle.std.proofs.lemmas.Bool.{cases_lt, cases_order}
use Rattle.logic.specs.Table.{Table}
use Rattle.store.specs.Frames.{Frame}
use Rattle.formula.specs.Wholes.{Meaning}
use Rattle.bench.specs.declared.call.Call.{Call}
use Rattle.bench.specs.Ledger.{Entry, Accepted, Enters}
use Rattle.bench.proofs.Ledger.{accepted_unique, enters_some}
use Rattle.audit.specs.Runs.{a_call, Quiet, LastAccepted, EntryAfter}

module _ (M : Table) (F : Frame) (cs : List Call) where
  abbrev pub NoneAt : ℕ → Type 0
  NoneAt k = (a : Meaning) → Accepted M F (get_or cs k a_call) a → ⊥

  pub quiet_join : (i j k : ℕ) → Quiet M F cs i j → Quiet M F cs j k → Quiet M F cs i k
  quiet_join i j k p q n low high = ⊎_elim (λ l. p n low l) (λ l. q n l high) (cases_lt n j)

  pub quiet_one : (k : ℕ) → NoneAt k → Quiet M F cs k (suc k)
  quiet_one k none n low high = let e : k ≡ n = omega arith in subst NoneAt e none

  pub quiet_within : (i j k l : ℕ) → i ≤ k → l ≤ j → Quiet M F cs i j → Quiet M F cs k l
  quiet_within i j k l p q h n low high = h n (omega arith) (omega arith)

  -- where no judge is accepted, the last one accepted stays the last
  pub last_stays : (i j : ℕ) (a : Meaning) → i ≤ j → Quiet M F cs i j → LastAccepted M F cs i a → LastAccepted M F cs j a
  last_stays i j a l q h = let low = h.before in record {
    at = h.at;
    before = omega arith;
    accepted = h.accepted;
    since = quiet_join (suc h.at) i j h.since q;
  }

  last_unique : (n : ℕ) (a b : Meaning) → LastAccepted M F cs n a → LastAccepted M F cs n b → a ≡ b
  last_unique n a b h k =
      ⊎_elim
      (λ same.
      let P : ℕ → Type 0 = λ m. Accepted M F (get_or cs m a_call) a in
      accepted_unique M F (get_or cs k.at a_call) a b (subst P same h.accepted) k.accepted)
      (⊎_elim
      (λ below. absurd (h.since k.at below k.before b k.accepted))
      (λ above. absurd (k.since h.at above h.before a h.accepted)))
      (cases_order h.at k.at)

  module _ (e : Entry) where
    pub entry_none : EntryAfter M F e cs 0 e
    entry_none = inr ((λ k l h. absurd (omega arith)), refl)

    pub entry_more : (k : ℕ) (d b : Entry) → EntryAfter M F e cs k d → Enters M F d (get_or cs k a_call) b → EntryAfter M F e cs (suc k) b
    entry_more k d b h (inl p) = inl (p.0, record { at = k; before = omega arith; accepted = p.1; since = λ n l r. absurd (omega arith) }, p.2)
    entry_more k d b (inl h) (inr p) = inl (h.0, last_stays k (suc k) h.0 (omega arith) (quiet_one k p.0) h.1, p.1 ∙ h.2)
    entry_more k d b (inr h) (inr p) = inr (quiet_join 0 k (suc k) h.0 (quiet_one k p.0), p.1 ∙ h.1)

    pub entry_some : (k : ℕ) → (d : Entry) × EntryAfter M F e cs k d
    entry_some zero = (e, entry_none)
    entry_some (suc k) =
        let was = entry_some k in
        let now = enters_some M F (get_or cs k a_call) was.0 in
        (now.0, entry_more k was.0 now.0 was.1 now.1)

    pub entry_unique : (n : ℕ) (d b : Entry) → EntryAfter M F e cs n d → EntryAfter M F e cs n b → d ≡ b
    entry_unique n d b (inl h) (inl k) = h.2 ∙ ap Some (last_unique n h.0 k.0 h.1 k.1) ∙ sym k.2
    entry_unique n d b (inl h) (inr k) = absurd (k.0 h.1.at (omega arith) h.1.before h.0 h.1.accepted)
    entry_unique n d b (inr h) (inl k) = absurd (h.0 k.1.at (omega arith) k.1.before k.0 k.1.accepted)
    entry_unique n d b (inr h) (inr k) = h.1 ∙ sym k.1

    -- the entry after one call more comes from the entry before it
    pub entry_from : (k : ℕ) (b : Entry) → EntryAfter M F e cs (suc k) b → (d : Entry) × EntryAfter M F e cs k d × Enters M F d (get_or cs k a_call) b
    entry_from k b h =
        let was = entry_some k in
        let now = enters_some M F (get_or cs k a_call) was.0 in
        let same = entry_unique (suc k) now.0 b (entry_more k was.0 now.0 was.1 now.1) h in
        let P : Entry → Type 0 = λ y. Enters M F was.0 (get_or cs k a_call) y in
        (was.0, was.1, subst P same now.1)

    pub entry_stays : (i j : ℕ) (d : Entry) → i ≤ j → Quiet M F cs i j → EntryAfter M F e cs i d → EntryAfter M F e cs j d
    entry_stays i j d l q (inl h) = inl (h.0, last_stays i j h.0 l q h.1, h.2)
    entry_stays i j d l q (inr h) = inr (quiet_join 0 i j h.0 q, h.1)
