-- The laws over the answers to a list of calls. Assumes nothing.
use Rattle.std.proofs.Common.{◌≡◌, ℕ, zero, suc, ◌<◌, ◌≤◌, List, length, get_or, Some, None, Ok, Option, Result, sym, refl, subst, inl, inr, ⊎_elim, arith}
use Rattle.std.proofs.lemmas.Bool.{cases_lt}
use Rattle.logic.specs.Table.{Table, Sound}
use Rattle.logic.specs.Listing.{Listed}
use Rattle.store.specs.Frames.{Frame, Lawful}
use Rattle.formula.specs.Wholes.{Meaning}
use Rattle.bench.specs.declared.fault.Fault.{Fault}
use Rattle.bench.specs.declared.fault.Fault.TheVariants.{Differ, TooFewSets, NothingJudged, NoSuchState, NotInUniverse, PlaceTooHigh}
use Rattle.bench.specs.declared.call.Call.{Call}
use Rattle.bench.specs.declared.call.Call.TheVariants as call
use Rattle.bench.specs.declared.call.Answer.{Answer}
use Rattle.bench.specs.declared.call.Answer.TheVariants as answer
use Rattle.bench.specs.Questions.{First, Alone}
use Rattle.bench.specs.Ledger.{Entry, Lists, formula_of, Applies, Value, Says, Accepted}
use Rattle.bench.proofs.Ledger.{says_unique, accepted_or_not}
use Rattle.audit.specs.Runs.{a_call, an_answer, Quiet, LastAccepted, Told}
use Rattle.audit.specs.Laws.{SameAnswers, place, Carried, ListingNames}
use Rattle.audit.proofs.Entries.{quiet_join, quiet_one, quiet_within, entry_some, entry_stays}
use Rattle.audit.proofs.Listings.{firsts_name}

module _ (M : Table) (F : Frame) where
  applies_judge : (e d : Entry) (x : Call) (a : Meaning) → formula_of x ≡ Some a → (n : Fault) → Applies M F e x n → Applies M F d x n
  applies_judge e d (call.Judge f) a is Differ h = h
  applies_judge e d (call.Judge f) a is TooFewSets h = h
  applies_judge e d (call.Judge f) a is NothingJudged h = h
  applies_judge e d (call.Judge f) a is NoSuchState h = h
  applies_judge e d (call.Judge f) a is NotInUniverse h = h
  applies_judge e d (call.Judge f) a is PlaceTooHigh h = h
  applies_judge e d (call.Holds s c) a is n h = let z : ◌≡◌ {A = ℕ} 0 1 = cc in absurd (omega arith)
  applies_judge e d (call.Next s p) a is n h = let z : ◌≡◌ {A = ℕ} 0 1 = cc in absurd (omega arith)
  applies_judge e d (call.Count s) a is n h = let z : ◌≡◌ {A = ℕ} 0 1 = cc in absurd (omega arith)
  applies_judge e d (call.Smallest s) a is n h = let z : ◌≡◌ {A = ℕ} 0 1 = cc in absurd (omega arith)
  applies_judge e d (call.Least s p) a is n h = let z : ◌≡◌ {A = ℕ} 0 1 = cc in absurd (omega arith)

  value_judge : (e d : Entry) (x : Call) (a : Meaning) → formula_of x ≡ Some a → (b : Result Answer Fault) → Value M F e x b → Value M F d x b
  value_judge e d (call.Judge f) a is b h = h
  value_judge e d (call.Holds s c) a is b h = let z : ◌≡◌ {A = ℕ} 0 1 = cc in absurd (omega arith)
  value_judge e d (call.Next s p) a is b h = let z : ◌≡◌ {A = ℕ} 0 1 = cc in absurd (omega arith)
  value_judge e d (call.Count s) a is b h = let z : ◌≡◌ {A = ℕ} 0 1 = cc in absurd (omega arith)
  value_judge e d (call.Smallest s) a is b h = let z : ◌≡◌ {A = ℕ} 0 1 = cc in absurd (omega arith)
  value_judge e d (call.Least s p) a is b h = let z : ◌≡◌ {A = ℕ} 0 1 = cc in absurd (omega arith)

  -- the answer to a judge does not hang on the entry
  says_judge : (e d : Entry) (x : Call) (a : Meaning) → formula_of x ≡ Some a → (b : Result Answer Fault) → Says M F e x b → Says M F d x b
  says_judge e d x a is b (inl h) =
      inl (
        h.0,
        record {
          applies = applies_judge e d x a is h.0 h.1.applies;
          first = λ m l k. h.1.first m l (applies_judge d e x a is m k);
        },
        h.2,
      )
  says_judge e d x a is b (inr h) = inr ((λ n k. h.0 n (applies_judge d e x a is n k)), value_judge e d x a is b h.1)

  pub next_first : (e : Entry) (s p : ℕ) (o : Option ℕ) → Says M F e (call.Next s p) (Ok (answer.Next o)) → First (Lists M F e s) p o
  next_first e s p o (inl h) = let q = h.2 in let z : ◌≡◌ {A = ℕ} 0 1 = cc in absurd (omega arith)
  next_first e s p o (inr h) =
      let q = h.1.1 in
      let same : h.1.0 ≡ o = cc in
      subst (First (Lists M F e s) p) same h.1.2

  pub least_first : (e : Entry) (s p : ℕ) (o : Option ℕ) → Says M F e (call.Least s p) (Ok (answer.Least o)) → First (Alone F.actions F.variables (Lists M F e s)) p o
  least_first e s p o (inl h) = let q = h.2 in let z : ◌≡◌ {A = ℕ} 0 1 = cc in absurd (omega arith)
  least_first e s p o (inr h) =
      let q = h.1.1 in
      let same : h.1.0 ≡ o = cc in
      subst (First (Alone F.actions F.variables (Lists M F e s)) p) same h.1.2

  pub least_state : (e : Entry) (s p : ℕ) (o : Option ℕ) → Says M F e (call.Least s p) (Ok (answer.Least o)) → s < M.states
  least_state e s p o (inl h) = let q = h.2 in let z : ◌≡◌ {A = ℕ} 0 1 = cc in absurd (omega arith)
  least_state e s p o (inr h) = ⊎_elim (λ l. l) (λ l. absurd (h.0 NoSuchState l)) (cases_lt s M.states)

module _ (M : Table) (sound : Sound M) (F : Frame) (lawful : Lawful F) (e : Entry) (cs : List Call) (got : List (Result Answer Fault)) (n : ℕ) (told : Told M F e cs got n) where
  pub same_answers : SameAnswers M F cs got n
  same_answers i j l r same quiet =
      let d = entry_some M F cs e i in
      let b = entry_some M F cs e j in
      let x = get_or cs j a_call in
      let P : Call → Type 0 = λ y. Says M F d.0 y (get_or got i an_answer) in
      let one : Says M F d.0 x (get_or got i an_answer) = subst P same (told i (omega arith) d.0 d.1) in
      ⊎_elim
      (λ h.
      let two = told j r b.0 b.1 in
      says_unique M sound F lawful d.0 x (get_or got i an_answer) (get_or got j an_answer) one
      (says_judge M F b.0 d.0 x h.0 h.1.judges (get_or got j an_answer) two))
      (λ none.
      let N : Call → Type 0 = λ y. (a : Meaning) → Accepted M F y a → ⊥ in
      let still : Quiet M F cs i j = quiet_join M F cs i (suc i) j (quiet_one M F cs i (subst N (sym same) none)) quiet in
      says_unique M sound F lawful d.0 x (get_or got i an_answer) (get_or got j an_answer) one
      (told j r d.0 (entry_stays M F cs e i j d.0 (omega arith) still d.1)))
      (accepted_or_not M F x)

  module _ (ask : ℕ → Call) (said : Option ℕ → Answer) (xs : List ℕ) (h : Carried M F cs got n ask said xs) (a : Meaning) (last : LastAccepted M F cs (h.at 0) a) where
    -- the positions of a listing ascend
    climbs : (k m : ℕ) → k ≤ m → m ≤ length xs → h.at k ≤ h.at m
    climbs k zero l r = let q : zero ≡ k = omega arith in subst (λ i. h.at i ≤ h.at zero) q (omega arith)
    climbs k (suc m) l r =
        ⊎_elim
        (λ low. let up = climbs k m (omega arith) (omega arith) in let step = h.ascends m (omega arith) in omega arith)
        (λ high. let q : suc m ≡ k = omega arith in subst (λ i. h.at i ≤ h.at (suc m)) q (omega arith))
        (cases_lt k (suc m))

    pub asked : (k : ℕ) (o : Option ℕ) → k ≤ length xs → get_or got (h.at k) an_answer ≡ Ok (said o) → Says M F (Some a) (ask (place xs k)) (Ok (said o))
    asked k o l is =
        let low = climbs 0 k (omega arith) l in
        let high = climbs k (length xs) l (omega arith) in
        let inside = h.inside in
        let entry = entry_stays M F cs e (h.at 0) (h.at k) (Some a) low (quiet_within M F cs (h.at 0) (h.at (length xs)) (h.at 0) (h.at k) (omega arith) high h.quiet) (inl (a, last, refl)) in
        let t = told (h.at k) (omega arith) (Some a) entry in
        let P : Call → Type 0 = λ y. Says M F (Some a) y (Ok (said o)) in
        let Q : Result Answer Fault → Type 0 = λ y. Says M F (Some a) (get_or cs (h.at k) a_call) y in
        subst P (h.asks k l) (subst Q is t)

  pub listing_names : ListingNames M F cs got n
  listing_names s xs h a last =
      firsts_name (Listed M F.universe a.formula s) xs
      (λ k l. next_first M F (Some a) s (place xs k) (Some (get_or xs k 0)) (asked (call.Next s) answer.Next xs h a last k (Some (get_or xs k 0)) (omega arith) (h.names k l)))
      (next_first M F (Some a) s (place xs (length xs)) None (asked (call.Next s) answer.Next xs h a last (length xs) None (omega arith) h.ends))
