-- How a bench backs the ledger's entry.
--
--   bench_table  the table of the bench's model
--   state_set    the set that has what is listed at a state, or why there is none
--   Backs        a formula has been judged, and the result set of each state has exactly the codes that are listed there
--   Matches      the bench backs the entry: for none, nothing has been judged
--   ByLedger     the answer of the bench to a call is what the ledger says to it, at whatever entry the bench matches
--   Stays        the model, and what never changes of the store, are as they were
--   Keeps        so are every set of the store and whether something has been judged
--
--   Left         a call leaves the bench d where b was: it matches the entry after the call, whatever entry it matched before,
--                model and frame stay, and unless the call is an accepted judge every set and the judgement are kept
--
-- frame and sets say of a store what it is over and which codes its sets have. Assumes nothing.
use Rattle.std.specs.Prelude.{◌≡◌, ℕ, ◌<◌, Bool, true, false, cond, Some, None, Ok, Err, Decides, Result, nat_lt}
use Rattle.logic.specs.Table.{Table}
use Rattle.logic.specs.Listing.{Listed}
use Rattle.model.specs.Values.{table_of}
use Rattle.store.specs.Frames.{Frame}
use Rattle.evaluate.specs.Layout.{universe_set, result_set}
use Rattle.formula.specs.Wholes.{Meaning}
use Rattle.evaluate.specs.Evaluation.{Enough}
use Rattle.bench.specs.declared.fault.Fault.{Fault}
use Rattle.bench.specs.declared.fault.Fault.TheVariants.{NothingJudged, NoSuchState}
use Rattle.bench.specs.declared.bench.Bench.{Bench}
use Rattle.bench.specs.declared.call.Call.{Call}
use Rattle.bench.specs.declared.call.Answer.{Answer}
use Rattle.bench.specs.Ledger.{Entry, Says, Accepted, Enters}

abbrev pub bench_table : {S : Type 0} → Bench S → Table
bench_table b = table_of b.model.now.table

abbrev pub state_set : {S : Type 0} → Bench S → ℕ → Result ℕ Fault
state_set b s =
    cond b.judged
    (cond (nat_lt s (bench_table b).states) (Ok (result_set (bench_table b).states s)) (Err NoSuchState))
    (Err NothingJudged)

pub record Backs {S : Type 0} (frame : S → Frame) (sets : S → ℕ → ℕ → Bool) (b : Bench S) (a : Meaning) : Type 0 where
  pub was_judged : b.judged ≡ true
  pub room : Enough (frame b.store) (bench_table b) a
  pub lists : (s c : ℕ) → s < (bench_table b).states
      → Decides (sets b.store (result_set (bench_table b).states s) c) (Listed (bench_table b) (frame b.store).universe a.formula s c)
  pub universe : (c : ℕ) → sets b.store universe_set c ≡ (frame b.store).universe c

abbrev pub Matches : {S : Type 0} → (S → Frame) → (S → ℕ → ℕ → Bool) → Bench S → Entry → Type 0
Matches frame sets b None = b.judged ≡ false
Matches frame sets b (Some a) = Backs frame sets b a

abbrev pub ByLedger : {S : Type 0} → (S → Frame) → (S → ℕ → ℕ → Bool) → Bench S → Call → Result Answer Fault → Type 0
ByLedger frame sets b x a = (e : Entry) → Matches frame sets b e → Says (bench_table b) (frame b.store) e x a

pub record Stays {S : Type 0} (frame : S → Frame) (b d : Bench S) : Type 0 where
  pub model : d.model.now ≡ b.model.now
  pub frames : frame d.store ≡ frame b.store

pub record Keeps {S : Type 0} (frame : S → Frame) (sets : S → ℕ → ℕ → Bool) (b d : Bench S) : Type 0 where
  pub stays : Stays frame b d
  pub members : (j c : ℕ) → sets d.store j c ≡ sets b.store j c
  pub judgement : d.judged ≡ b.judged

pub record Left {S : Type 0} (frame : S → Frame) (sets : S → ℕ → ℕ → Bool) (b d : Bench S) (x : Call) : Type 0 where
  pub enters : (e n : Entry) → Matches frame sets b e → Enters (bench_table b) (frame b.store) e x n → Matches frame sets d n
  pub stays : Stays frame b d
  pub keeps : ((a : Meaning) → Accepted (bench_table b) (frame b.store) x a → ⊥) → Keeps frame sets b d
