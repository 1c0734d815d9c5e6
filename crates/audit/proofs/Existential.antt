-- What a listing made with least says of the existential part. Assumes nothing.
use Rattle.std.proofs.Common.{◌≡◌, ℕ, ◌*◌, ◌^◌, ◌<◌, true, List, length, get_or, Some, None, Result, sym, ◌∙◌, subst, arith}
use Rattle.logic.specs.Codes.{Includes, Bounded}
use Rattle.logic.specs.Table.{Table, Sound}
use Rattle.logic.specs.Existential.{Existential, Uses}
use Rattle.logic.specs.Listing.{Listed, Minimal}
use Rattle.logic.proofs.Grows.{existential_grows}
use Rattle.logic.proofs.Minimal.{listed_minimal}
use Rattle.store.specs.Frames.{Frame, Lawful}
use Rattle.bench.specs.declared.fault.Fault.{Fault}
use Rattle.bench.specs.declared.call.Call.{Call}
use Rattle.bench.specs.declared.call.Call.TheVariants as call
use Rattle.bench.specs.declared.call.Answer.{Answer}
use Rattle.bench.specs.declared.call.Answer.TheVariants as answer
use Rattle.formula.specs.Wholes.{Meaning, meaning_of}
use Rattle.bench.specs.Questions.{Names, Alone}
use Rattle.bench.specs.Ledger.{Entry, formula_of}
use Rattle.bench.proofs.Meanings.{meaning_uses}
use Rattle.audit.specs.Runs.{Told}
use Rattle.audit.specs.Laws.{place, LeastLists}
use Rattle.audit.proofs.Listings.{firsts_name}
use Rattle.audit.proofs.Laws.{asked, least_first, least_state}

asked_uses : (x : Call) (a : Meaning) → formula_of x ≡ Some a → Uses a.variables a.formula
asked_uses (call.Judge f) a is =
    let P : Meaning → Type 0 = λ y. Uses y.variables y.formula in
    let same : meaning_of f.now ≡ a = cc in
    subst P same (meaning_uses f.now)
asked_uses (call.Holds s c) a is = let z : ◌≡◌ {A = ℕ} 0 1 = cc in absurd (omega arith)
asked_uses (call.Next s p) a is = let z : ◌≡◌ {A = ℕ} 0 1 = cc in absurd (omega arith)
asked_uses (call.Count s) a is = let z : ◌≡◌ {A = ℕ} 0 1 = cc in absurd (omega arith)
asked_uses (call.Smallest s) a is = let z : ◌≡◌ {A = ℕ} 0 1 = cc in absurd (omega arith)
asked_uses (call.Least s p) a is = let z : ◌≡◌ {A = ℕ} 0 1 = cc in absurd (omega arith)

module _ (M : Table) (sound : Sound M) (F : Frame) (lawful : Lawful F) (same : F.actions ≡ M.actions) (s : ℕ) (state : s < M.states) (a : Meaning) where
  alone : (c : ℕ) → Minimal M F.variables F.universe a.formula s c → Alone F.actions F.variables (Listed M F.universe a.formula s) c
  alone c h = record {
    inside = h.listed;
    no_other = λ d listed includes. h.least d listed (subst (λ n. Includes n F.variables c d) same includes);
  }

  -- A listed code includes a minimal one, which the listing names; what includes a named code is listed, since more actions
  -- never cost a formula of the existential part.
  includes_named : (xs : List ℕ) → Names (Alone F.actions F.variables (Listed M F.universe a.formula s)) xs
      → (c : ℕ) → Listed M F.universe a.formula s c → (k : ℕ) × (k < length xs) × Includes F.actions F.variables c (get_or xs k 0)
  includes_named xs names c listed =
      let within : Bounded F.universe (2 ^ (M.actions * F.variables)) = λ d u. subst (λ n. d < 2 ^ (n * F.variables)) same (lawful.valuations d u).small in
      let m = listed_minimal M sound F.variables F.universe within a.formula s state c listed in
      let w = names.whole m.0 (alone m.0 m.1) in
      let inc = subst (λ n. Includes n F.variables c m.0) (sym same) m.2 in
      (w.0, w.1, subst (λ d. Includes F.actions F.variables c d) (sym w.2) inc)

  listed_above : (xs : List ℕ) → Names (Alone F.actions F.variables (Listed M F.universe a.formula s)) xs
      → Existential a.formula → Uses F.variables a.formula
      → (c : ℕ) → F.universe c ≡ true → (k : ℕ) → k < length xs → Includes F.actions F.variables c (get_or xs k 0)
      → Listed M F.universe a.formula s c
  listed_above xs names existential uses c u k l inc =
      let low = (names.sound k l).inside in
      let above = subst (λ n. Includes n F.variables c (get_or xs k 0)) same inc in
      record {
        inside = u;
        holds = existential_grows M sound F.variables (get_or xs k 0) c above a.formula existential uses s low.holds;
      }

module _ (M : Table) (sound : Sound M) (F : Frame) (lawful : Lawful F) (e : Entry) (cs : List Call) (got : List (Result Answer Fault)) (n : ℕ) (told : Told M F e cs got n) where
  pub least_lists : LeastLists M F cs got n
  least_lists s xs h a last existential c u =
      let agrees = last.accepted.agrees in
      let same : F.actions ≡ M.actions = sym agrees.store_actions ∙ agrees.table_actions in
      let ends = asked M sound F lawful e cs got n told (call.Least s) answer.Least xs h a last (length xs) None (omega arith) h.ends in
      let state = least_state M F (Some a) s (place xs (length xs)) None ends in
      let uses = subst (λ k. Uses k a.formula) agrees.store_variables (asked_uses _ a last.accepted.judges) in
      let names =
      firsts_name (Alone F.actions F.variables (Listed M F.universe a.formula s)) xs
      (λ k l. least_first M F (Some a) s (place xs k) (Some (get_or xs k 0)) (asked M sound F lawful e cs got n told (call.Least s) answer.Least xs h a last k (Some (get_or xs k 0)) (omega arith) (h.names k l)))
      (least_first M F (Some a) s (place xs (length xs)) None ends) in (
        (λ listed. includes_named M sound F lawful same s state a xs names c listed),
        (λ w. listed_above M sound F lawful same s state a xs names existential uses c u w.0 w.1 w.2),
      )
