-- Which refusal a question meets first. Assumes nothing.
use Rattle.std.proofs.Common.{◌≡◌, ℕ, ◌<◌, ◌≤◌, Some, None, Option, sym, subst, arith}
use Rattle.logic.specs.Table.{Table}
use Rattle.store.specs.Frames.{Frame}
use Rattle.formula.specs.Wholes.{Meaning}
use Rattle.evaluate.specs.Evaluation.{Agrees, Enough}
use Rattle.bench.specs.declared.fault.Fault.{Fault}
use Rattle.bench.specs.declared.fault.Fault.TheVariants.{Differ, TooFewSets, NothingJudged, NoSuchState, NotInUniverse, PlaceTooHigh}
use Rattle.bench.specs.declared.call.Call.{Call}
use Rattle.bench.specs.Faults.{fault_number}
use Rattle.bench.specs.Ledger.{Entry, There, formula_of, state_of, Applies, Refuses, Unrefused}

module _ {X : Type 0} (P : X → Type 0) where
  there : (o : Option X) (x : X) → o ≡ Some x → P x → There o P
  there o x e h = let Q : Option X → Type 0 = λ y. There y P in subst Q (sym e) h

  there_is : (o : Option X) (x : X) → o ≡ Some x → There o P → P x
  there_is o x e h = let Q : Option X → Type 0 = λ y. There y P in subst Q e h

  not_there : (o : Option X) → o ≡ None → There o P → ⊥
  not_there o e h = let Q : Option X → Type 0 = λ y. There y P in subst Q e h

-- a question at the state s
module _ (M : Table) (F : Frame) (x : Call) (s : ℕ) (at : state_of x ≡ Some s) (no_formula : formula_of x ≡ None) where
  module _ (a : Meaning) where
    lower : (m : Fault) → fault_number m < 23 → Applies M F (Some a) x m → ⊥
    lower Differ l h = not_there (λ a. Agrees F M a → ⊥) (formula_of x) no_formula h
    lower TooFewSets l h = not_there (λ a. Enough F M a → ⊥) (formula_of x) no_formula h
    lower NothingJudged l h =
        let e : ◌≡◌ {A = Entry} (Some a) None = there_is (λ _. ◌≡◌ {A = Entry} (Some a) None) (state_of x) s at h in
        let z : ◌≡◌ {A = ℕ} 0 1 = cc in omega arith
    lower NoSuchState l h = omega arith
    lower NotInUniverse l h = omega arith
    lower PlaceTooHigh l h = omega arith

    module _ (state : s < M.states) where
      low : (m : Fault) → fault_number m < 24 → Applies M F (Some a) x m → ⊥
      low Differ l h = lower Differ (omega arith) h
      low TooFewSets l h = lower TooFewSets (omega arith) h
      low NothingJudged l h = lower NothingJudged (omega arith) h
      low NoSuchState l h = let out = there_is (λ t. M.states ≤ t) (state_of x) s at h in omega arith
      low NotInUniverse l h = omega arith
      low PlaceTooHigh l h = omega arith

      pub refuses_place : (Applies M F (Some a) x NotInUniverse → ⊥) → Applies M F (Some a) x PlaceTooHigh → Refuses M F (Some a) x PlaceTooHigh
      refuses_place no_code h = record { applies = h; first = firsts }
        where
          firsts : (m : Fault) → fault_number m < 25 → Applies M F (Some a) x m → ⊥
          firsts Differ l k = low Differ (omega arith) k
          firsts TooFewSets l k = low TooFewSets (omega arith) k
          firsts NothingJudged l k = low NothingJudged (omega arith) k
          firsts NoSuchState l k = low NoSuchState (omega arith) k
          firsts NotInUniverse l k = no_code k
          firsts PlaceTooHigh l k = omega arith

      pub unrefused : (Applies M F (Some a) x NotInUniverse → ⊥) → (Applies M F (Some a) x PlaceTooHigh → ⊥) → Unrefused M F (Some a) x
      unrefused no_code no_place Differ h = low Differ (omega arith) h
      unrefused no_code no_place TooFewSets h = low TooFewSets (omega arith) h
      unrefused no_code no_place NothingJudged h = low NothingJudged (omega arith) h
      unrefused no_code no_place NoSuchState h = low NoSuchState (omega arith) h
      unrefused no_code no_place NotInUniverse h = no_code h
      unrefused no_code no_place PlaceTooHigh h = no_place h
