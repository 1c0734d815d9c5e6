-- The ledger says one answer to each call, and has one entry after it. Assumes nothing.
use Rattle.std.proofs.Common.{◌≡◌, ℕ, cond, eqb, ◌⊎◌, Some, None, Ok, Err, Option, Result, sym, refl, ap, ◌∙◌, subst, inl, inr, ⊎_elim, arith}
use Rattle.std.proofs.lemmas.Bool.{cases_lt, cases_eq, cases_order}
use Rattle.std.proofs.lemmas.Bool.Decides.{same_from_decides}
use Rattle.logic.specs.Table.{Table, Sound}
use Rattle.logic.proofs.Totals.{rounds_one}
use Rattle.store.specs.Frames.{Frame, Lawful, frame_codes}
use Rattle.logic.specs.Formulas.{nodes}
use Rattle.evaluate.specs.Layout.{sets_needed}
use Rattle.evaluate.specs.Evaluation.{Agrees, Enough}
use Rattle.bench.specs.declared.fault.Fault.{Fault}
use Rattle.bench.specs.declared.fault.Fault.TheVariants.{Differ, TooFewSets, NothingJudged, NoSuchState, NotInUniverse, PlaceTooHigh}
use Rattle.bench.specs.declared.call.Call.{Call}
use Rattle.bench.specs.declared.call.Call.TheVariants as call
use Rattle.bench.specs.declared.call.Answer.{Answer}
use Rattle.bench.specs.declared.call.Answer.TheVariants as answer
use Rattle.bench.specs.Faults.{fault_number}
use Rattle.formula.specs.Wholes.{Meaning, meaning_of}
use Rattle.bench.specs.Questions.{Alone}
use Rattle.bench.specs.Ledger.{Entry, Lists, formula_of, Refuses, Value, Says, Accepted, Enters}
use Rattle.bench.proofs.Questions.{first_unique, fewest_unique, many_unique}

abbrev fault_of : ℕ → Fault
fault_of n =
    cond (eqb n 20) Differ
    (cond (eqb n 21) TooFewSets (cond (eqb n 22) NothingJudged (cond (eqb n 23) NoSuchState (cond (eqb n 24) NotInUniverse PlaceTooHigh))))

fault_back : (n : Fault) → fault_of (fault_number n) ≡ n
fault_back Differ = refl
fault_back TooFewSets = refl
fault_back NothingJudged = refl
fault_back NoSuchState = refl
fault_back NotInUniverse = refl
fault_back PlaceTooHigh = refl

module _ (M : Table) (F : Frame) (e : Entry) (x : Call) where
  pub refuses_unique : (n m : Fault) → Refuses M F e x n → Refuses M F e x m → n ≡ m
  refuses_unique n m h k =
      ⊎_elim
      (λ same. sym (fault_back n) ∙ ap fault_of same ∙ fault_back m)
      (⊎_elim
      (λ below. absurd (k.first n below h.applies))
      (λ above. absurd (h.first m above k.applies)))
      (cases_order (fault_number n) (fault_number m))

module _ (M : Table) (sound : Sound M) (F : Frame) (lawful : Lawful F) (e : Entry) where
  value_unique : (x : Call) (a b : Result Answer Fault) → Value M F e x a → Value M F e x b → a ≡ b
  value_unique (call.Judge f) a b h k =
      let one = rounds_one M sound F.universe (frame_codes F) (λ c u. (lawful.valuations c u).small) (meaning_of f.now).formula in
      let same : h.0 ≡ k.0 = one.2 h.0 h.2 ∙ sym (one.2 k.0 k.2) in
      h.1 ∙ ap (λ v. Ok (answer.Rounds v)) same ∙ sym k.1
  value_unique (call.Holds s c) a b h k = h.1 ∙ ap (λ v. Ok (answer.Holds v)) (same_from_decides h.0 k.0 h.2 k.2) ∙ sym k.1
  value_unique (call.Next s p) a b h k =
      h.1 ∙ ap (λ v. Ok (answer.Next v)) (first_unique (Lists M F e s) p h.0 k.0 h.2 k.2) ∙ sym k.1
  value_unique (call.Count s) a b h k =
      h.1 ∙ ap (λ v. Ok (answer.Count v)) (many_unique (Lists M F e s) h.0 k.0 h.2 k.2) ∙ sym k.1
  value_unique (call.Smallest s) a b h k =
      h.1 ∙ ap (λ v. Ok (answer.Smallest v)) (fewest_unique (Lists M F e s) h.0 k.0 h.2 k.2) ∙ sym k.1
  value_unique (call.Least s p) a b h k =
      h.1 ∙ ap (λ v. Ok (answer.Least v)) (first_unique (Alone F.actions F.variables (Lists M F e s)) p h.0 k.0 h.2 k.2) ∙ sym k.1

  pub says_unique : (x : Call) (a b : Result Answer Fault) → Says M F e x a → Says M F e x b → a ≡ b
  says_unique x a b (inl h) (inl k) = h.2 ∙ ap Err (refuses_unique M F e x h.0 k.0 h.1 k.1) ∙ sym k.2
  says_unique x a b (inl h) (inr k) = absurd (k.0 h.0 h.1.applies)
  says_unique x a b (inr h) (inl k) = absurd (h.0 k.0 k.1.applies)
  says_unique x a b (inr h) (inr k) = value_unique x a b h.1 k.1

either_both : {A B : Type 0} → A ⊎ (A → ⊥) → B ⊎ (B → ⊥) → (A × B) ⊎ ((A × B) → ⊥)
either_both (inl a) (inl b) = inl (a, b)
either_both (inl a) (inr k) = inr (λ p. k p.1)
either_both (inr h) q = inr (λ p. h p.0)

agrees_or_not : (F : Frame) (M : Table) (a : Meaning) → Agrees F M a ⊎ (Agrees F M a → ⊥)
agrees_or_not F M a =
    ⊎_elim
    (λ h. inl (record { table_actions = h.0.0; store_actions = h.0.1; store_variables = h.1.0; table_properties = h.1.1 }))
    (λ h. inr (λ n. h ((n.table_actions, n.store_actions), (n.store_variables, n.table_properties))))
    (either_both
    (either_both (cases_eq a.actions M.actions) (cases_eq a.actions F.actions))
    (either_both (cases_eq a.variables F.variables) (cases_eq a.properties M.properties)))

enough_or_not : (F : Frame) (M : Table) (a : Meaning) → Enough F M a ⊎ (Enough F M a → ⊥)
enough_or_not F M a = ⊎_elim (λ few. inr (λ h. omega arith)) inl (cases_lt F.count (sets_needed (nodes a.formula) M.states))

module _ (M : Table) (F : Frame) (x : Call) where
  pub accepted_unique : (a b : Meaning) → Accepted M F x a → Accepted M F x b → a ≡ b
  accepted_unique a b h k = let p = h.judges in let q = k.judges in cc

  by_formula : (o : Option Meaning) → formula_of x ≡ o → ((a : Meaning) × Accepted M F x a) ⊎ ((a : Meaning) → Accepted M F x a → ⊥)
  by_formula None is = inr (λ a h. let j = h.judges in let z : ◌≡◌ {A = ℕ} 0 1 = cc in omega arith)
  by_formula (Some a) is =
      ⊎_elim
      (λ h. inl (a, record { judges = is; agrees = h.0; enough = h.1 }))
      (λ h. inr (λ b k.
      let j = k.judges in
      let same : b ≡ a = cc in
      let P : Meaning → Type 0 = λ y. Agrees F M y × Enough F M y in
      h (subst P same (k.agrees, k.enough))))
      (either_both (agrees_or_not F M a) (enough_or_not F M a))

  pub accepted_or_not : ((a : Meaning) × Accepted M F x a) ⊎ ((a : Meaning) → Accepted M F x a → ⊥)
  accepted_or_not = by_formula (formula_of x) refl

  pub enters_some : (e : Entry) → (d : Entry) × Enters M F e x d
  enters_some e =
      ⊎_elim
      (λ h. (Some h.0, inl (h.0, h.1, refl)))
      (λ h. (e, inr (h, refl)))
      accepted_or_not

  pub enters_unique : (e d b : Entry) → Enters M F e x d → Enters M F e x b → d ≡ b
  enters_unique e d b (inl h) (inl k) = h.2 ∙ ap Some (accepted_unique h.0 k.0 h.1 k.1) ∙ sym k.2
  enters_unique e d b (inl h) (inr k) = absurd (k.0 h.0 h.1)
  enters_unique e d b (inr h) (inl k) = absurd (h.0 k.0 k.1)
  enters_unique e d b (inr h) (inr k) = h.1 ∙ sym k.1
