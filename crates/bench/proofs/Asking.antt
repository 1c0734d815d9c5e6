-- From what the store answers to what the ledger says. Assumes nothing.
use Rattle.std.proofs.Common.{◌≡◌, ℕ, ◌+◌, ◌*◌, ◌<◌, ◌≤◌, Bool, true, cond, ltb, Some, None, Ok, Err, Decides, Option, Result, sym, refl, ap, ◌∙◌, subst, inl, inr, ⊎_elim, arith}
use Rattle.std.specs.Result.{result_map_both, MatchResult, IsErrAnd}
use Rattle.std.proofs.lemmas.Nat.{mul-le}
use Rattle.std.proofs.lemmas.Bool.{cases_lt, lt-ltb, le-ltb, lt-leb, cond-true, cond-false, both_ways}
use Rattle.logic.specs.Formulas as formulas
use Rattle.logic.specs.Table.{Table}
use Rattle.logic.specs.Listing.{Listed}
use Rattle.store.specs.declared.fault.Fault as stores
use Rattle.store.specs.declared.fault.Fault.TheVariants.{CodeTooHigh}
use Rattle.store.specs.Frames.{Frame, frame_codes}
use Rattle.store.specs.Calls.{Answers, one_set, set_and_code, set_and_start}
use Rattle.store.specs.Least.{Least}
use Rattle.store.proofs.Refusals.{ok_answers, one_set_none, set_and_code_none, set_and_start_none}
use Rattle.members.specs.Numbers.{number}
use Rattle.members.specs.Smallest.{Smallest}
use Rattle.members.specs.Minimal.{LeastMinimal}
use Rattle.evaluate.specs.Layout.{result_set}
use Rattle.formula.specs.Wholes.{Meaning}
use Rattle.evaluate.specs.Evaluation.{Enough}
use Rattle.bench.specs.declared.bench.Bench.{Bench}
use Rattle.bench.specs.declared.fault.Fault.{Fault}
use Rattle.bench.specs.declared.fault.Fault.TheVariants.{TooFewSets, NothingJudged, NoSuchState, NotInUniverse, PlaceTooHigh}
use Rattle.bench.specs.declared.call.Call.{Call}
use Rattle.bench.specs.declared.call.Call.TheVariants as call
use Rattle.bench.specs.declared.call.Answer.{Answer}
use Rattle.bench.specs.declared.call.Answer.TheVariants as answer
use Rattle.bench.specs.Ledger.{Entry, formula_of, state_of, Applies, Value, Says, answered, holds_as, next_as, count_as, smallest_as, least_as}
use Rattle.bench.specs.Matching.{bench_table, state_set, Backs, Matches}
use Rattle.bench.proofs.Members.{first_from, fewest_from, many_from, least_from}
use Rattle.bench.proofs.Refusing.{refuses_place, unrefused}

some_nodes : (f : formulas.Formula) → 1 ≤ formulas.nodes f
some_nodes formulas.truth = omega arith
some_nodes (formulas.property p) = omega arith
some_nodes (formulas.neg f) = omega arith
some_nodes (formulas.or f g) = omega arith
some_nodes (formulas.and f g) = omega arith
some_nodes (formulas.one w α f) = omega arith
some_nodes (formulas.two w α f g) = omega arith

pub result_room : (F : Frame) (M : Table) (a : Meaning) (s : ℕ) → s < M.states → Enough F M a → result_set M.states s < F.count
result_room F M a s l room =
    let some = some_nodes a.formula in
    let rows : (1 + 6) * M.states ≤ (formulas.nodes a.formula + 6) * M.states = mul-le (1 + 6) M.states (formulas.nodes a.formula + 6) M.states (omega arith) (omega arith) in
    omega arith

err_answers : {X : Type 0} (x : stores.Fault) (o : Option stores.Fault) (P : X → Type 0) → Answers (Err x) o P → o ≡ Some x
err_answers x None P h = absurd h
err_answers x (Some y) P h = ap Some (sym h)

start_low : (F : Frame) (i p : ℕ) → i < F.count → set_and_start F i p ≡ None → p ≤ frame_codes F
start_low F i p inside e =
    ⊎_elim
    (λ high.
    let out : set_and_start F i p ≡ Some CodeTooHigh =
    cond-true _ _ _ (lt-ltb i F.count inside) ∙ cond-false _ _ _ (lt-leb p (frame_codes F) high) in
    let z : ◌≡◌ {A = ℕ} 0 1 = cc in absurd (omega arith))
    (λ low. low)
    (cases_lt (frame_codes F) p)

start_high : (F : Frame) (i p : ℕ) (x : stores.Fault) → i < F.count → set_and_start F i p ≡ Some x → frame_codes F < p
start_high F i p x inside e =
    ⊎_elim
    (λ high. high)
    (λ low.
    let none = set_and_start_none F i p inside low in
    let z : ◌≡◌ {A = ℕ} 0 1 = cc in absurd (omega arith))
    (cases_lt (frame_codes F) p)

-- the store's answer, its refusal told as one of the bench's
abbrev pub told : {X : Type 0} → Fault → Result X stores.Fault → Result X Fault
told n r = result_map_both (λ x. x) (λ _. n) r

pub told_from : {X : Type 0} (n : Fault) (r : Result X stores.Fault) (y : Result X Fault)
    → MatchResult r (λ x. y ≡ Ok x) (λ _. IsErrAnd y (λ m. m ≡ n)) → y ≡ told n r
told_from n (Ok x) y h = h
told_from n (Err x) (Ok y) h = absurd h
told_from n (Err x) (Err m) h = ap Err h

module _ {S : Type 0} (frame : S → Frame) (sets : S → ℕ → ℕ → Bool) (b : Bench S) where
  abbrev found_set : ℕ → Result ℕ Fault
  found_set s = Ok (result_set (bench_table b).states s)

  -- a set is found for the state: a formula has been judged, and there is such a state
  pub found : (e : Entry) → Matches frame sets b e → (s i : ℕ) → Ok i ≡ state_set b s → (x : Call) (y : Result Answer Fault)
      → ((a : Meaning) → Backs frame sets b a → s < (bench_table b).states → result_set (bench_table b).states s ≡ i → Says (bench_table b) (frame b.store) (Some a) x y)
      → Says (bench_table b) (frame b.store) e x y
  found None h s i is x y then =
      let out : state_set b s ≡ Err NothingJudged = cond-false _ _ _ h in
      let z : ◌≡◌ {A = ℕ} 0 1 = cc in absurd (omega arith)
  found (Some a) h s i is x y then =
      let past = cond-true b.judged (cond (ltb s (bench_table b).states) (Ok (result_set (bench_table b).states s)) (Err NoSuchState)) (Err NothingJudged) h.was_judged in
      ⊎_elim
      (λ l.
      let here = cond-true (ltb s (bench_table b).states) (found_set s) (Err NoSuchState) (lt-ltb s (bench_table b).states l) in
      let same : result_set (bench_table b).states s ≡ i = cc in
      then a h l same)
      (λ l.
      let out = cond-false (ltb s (bench_table b).states) (found_set s) (Err NoSuchState) (le-ltb s (bench_table b).states l) in
      let z : ◌≡◌ {A = ℕ} 0 1 = cc in absurd (omega arith))
      (cases_lt s (bench_table b).states)

  module _ (a : Meaning) (h : Backs frame sets b a) (s i : ℕ) (state : s < (bench_table b).states) (is : result_set (bench_table b).states s ≡ i) where
    inside : i < (frame b.store).count
    inside = subst (λ j. j < (frame b.store).count) is (result_room (frame b.store) (bench_table b) a s state h.room)

    lists : (c : ℕ) → Decides (sets b.store i c) (Listed (bench_table b) (frame b.store).universe a.formula s c)
    lists c = subst (λ j. Decides (sets b.store j c) (Listed (bench_table b) (frame b.store).universe a.formula s c)) is (h.lists s c state)

    module _ (x : Call) (at : state_of x ≡ Some s) (no_formula : formula_of x ≡ None) (no_code : Applies (bench_table b) (frame b.store) (Some a) x NotInUniverse → ⊥) where
      -- the store refuses the call where the place is too high, as the ledger does
      start_passed : (p : ℕ) (A : Option ℕ → Answer) (P : Option ℕ → Type 0)
          → (frame_codes (frame b.store) < p → Applies (bench_table b) (frame b.store) (Some a) x PlaceTooHigh)
          → (Applies (bench_table b) (frame b.store) (Some a) x PlaceTooHigh → frame_codes (frame b.store) < p)
          → ((o : Option ℕ) → P o → Value (bench_table b) (frame b.store) (Some a) x (Ok (A o)))
          → (r : Result (Option ℕ) stores.Fault) → Answers r (set_and_start (frame b.store) i p) P
          → Says (bench_table b) (frame b.store) (Some a) x (answered A (told PlaceTooHigh r))
      start_passed p A P applies applied value (Ok o) h =
          let q = ok_answers o P (set_and_start (frame b.store) i p) h in
          let low = start_low (frame b.store) i p inside q.0 in
          inr (
            unrefused (bench_table b) (frame b.store) x s at no_formula a state no_code (λ k. let high = applied k in omega arith),
            value o q.1,
          )
      start_passed p A P applies applied value (Err y) h =
          let high = start_high (frame b.store) i p y inside (err_answers y (set_and_start (frame b.store) i p) P h) in
          inl (PlaceTooHigh, refuses_place (bench_table b) (frame b.store) x s at no_formula a state no_code (applies high), refl)

      -- neither the store nor the ledger refuses the call
      sure_passed : {X : Type 0} (A : X → Answer) (P : X → Type 0)
          → (Applies (bench_table b) (frame b.store) (Some a) x PlaceTooHigh → ⊥)
          → ((v : X) → P v → Value (bench_table b) (frame b.store) (Some a) x (Ok (A v)))
          → (o : Option stores.Fault) → o ≡ None → (r : Result X stores.Fault) → Answers r o P
          → Says (bench_table b) (frame b.store) (Some a) x (answered A (told TooFewSets r))
      sure_passed A P no_place value o none (Ok v) h =
          inr (
            unrefused (bench_table b) (frame b.store) x s at no_formula a state no_code no_place,
            value v (ok_answers v P o h).1,
          )
      sure_passed A P no_place value o none (Err y) h =
          let fault = err_answers y o P h in
          let z : ◌≡◌ {A = ℕ} 0 1 = cc in absurd (omega arith)

    abbrev listed : ℕ → Type 0
    listed = Listed (bench_table b) (frame b.store).universe a.formula s

    pub next_passed : (p : ℕ) (r : Result (Option ℕ) stores.Fault) → Answers r (set_and_start (frame b.store) i p) (Least (sets b.store i) p)
        → Says (bench_table b) (frame b.store) (Some a) (call.Next s p) (next_as (told PlaceTooHigh r))
    next_passed p r h =
        start_passed (call.Next s p) refl refl (λ k. k) p answer.Next (Least (sets b.store i) p) (λ k. k) (λ k. k)
        (λ o k. (o, refl, first_from (sets b.store i) listed lists p o k))
        r h

    pub least_passed : (p : ℕ) (r : Result (Option ℕ) stores.Fault) → Answers r (set_and_start (frame b.store) i p) (LeastMinimal (frame b.store).actions (frame b.store).variables (sets b.store i) p)
        → Says (bench_table b) (frame b.store) (Some a) (call.Least s p) (least_as (told PlaceTooHigh r))
    least_passed p r h =
        start_passed (call.Least s p) refl refl (λ k. k) p answer.Least (LeastMinimal (frame b.store).actions (frame b.store).variables (sets b.store i) p) (λ k. k) (λ k. k)
        (λ o k. (o, refl, least_from (sets b.store i) listed lists (frame b.store).actions (frame b.store).variables p o k))
        r h

    pub count_passed : ((c : ℕ) → sets b.store i c ≡ true → c < frame_codes (frame b.store)) → (r : Result ℕ stores.Fault) → Answers r (one_set (frame b.store) i) (λ m. m ≡ number (sets b.store i) (frame_codes (frame b.store)))
        → Says (bench_table b) (frame b.store) (Some a) (call.Count s) (count_as (told TooFewSets r))
    count_passed small r h =
        sure_passed (call.Count s) refl refl (λ k. k) answer.Count (λ m. m ≡ number (sets b.store i) (frame_codes (frame b.store))) (λ k. k)
        (λ n k. (n, refl, many_from (sets b.store i) listed lists n (frame_codes (frame b.store)) small k))
        (one_set (frame b.store) i) (one_set_none (frame b.store) i inside) r h

    pub smallest_passed : (r : Result (Option ℕ) stores.Fault) → Answers r (one_set (frame b.store) i) (Smallest (sets b.store i))
        → Says (bench_table b) (frame b.store) (Some a) (call.Smallest s) (smallest_as (told TooFewSets r))
    smallest_passed r h =
        sure_passed (call.Smallest s) refl refl (λ k. k) answer.Smallest (Smallest (sets b.store i)) (λ k. k)
        (λ o k. (o, refl, fewest_from (sets b.store i) listed lists o k))
        (one_set (frame b.store) i) (one_set_none (frame b.store) i inside) r h

    pub holds_passed : (c : ℕ) → (frame b.store).universe c ≡ true → c < frame_codes (frame b.store) → (r : Result Bool stores.Fault) → Answers r (set_and_code (frame b.store) i c) (λ w. w ≡ sets b.store i c)
        → Says (bench_table b) (frame b.store) (Some a) (call.Holds s c) (holds_as (told TooFewSets r))
    holds_passed c u low r h =
        let D : Bool → Type 0 = λ w. Decides w (listed c) in
        sure_passed (call.Holds s c) refl refl (λ k. both_ways ((frame b.store).universe c) k u) answer.Holds (λ w. w ≡ sets b.store i c) (λ k. k)
        (λ v k. (v, refl, subst D (sym k) (lists c)))
        (set_and_code (frame b.store) i c) (set_and_code_none (frame b.store) i c inside low) r h
