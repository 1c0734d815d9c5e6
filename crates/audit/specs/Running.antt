-- What running a list of calls comes to, on any bench.
--
--   Ran          b is the bench before the calls, d after n of them: whatever entry b matched, each answer is the ledger's, and
--                the bench before each call matches the entry there; model and frame stay, and a call that is no accepted
--                judge leaves every set of the store and the judgement as they were
--
-- frame and sets say of a store what it is over and which codes its sets have. Assumes nothing.
use Rattle.std.specs.Prelude.{◌≡◌, ℕ, suc, ◌<◌, ◌≤◌, Bool, List, Result, slice_index_or}
use Rattle.store.specs.Frames.{Frame}
use Rattle.formula.specs.Wholes.{Meaning}
use Rattle.bench.specs.declared.bench.Bench.{Bench}
use Rattle.bench.specs.declared.fault.Fault.{Fault}
use Rattle.bench.specs.declared.call.Call.{Call}
use Rattle.bench.specs.declared.call.Answer.{Answer}
use Rattle.bench.specs.Ledger.{Entry, Accepted}
use Rattle.bench.specs.Matching.{bench_table, Matches, Stays, Keeps}
use Rattle.audit.specs.Runs.{a_call, EntryAfter, Told}

pub record Ran {S : Type 0} (frame : S → Frame) (sets : S → ℕ → ℕ → Bool) (b d : Bench S) (cs : List Call) (got : List (Result Answer Fault)) (n : ℕ) : Type 0 where
  pub told : (e : Entry) → Matches frame sets b e → Told (bench_table b) (frame b.store) e cs got n
  -- the bench before each call, and after the last
  pub benches : ℕ → Bench S
  pub begins : benches 0 ≡ b
  pub ends : benches n ≡ d
  pub stays : (k : ℕ) → k ≤ n → Stays frame b (benches k)
  pub matches : (k : ℕ) → k ≤ n → (e m : Entry) → Matches frame sets b e → EntryAfter (bench_table b) (frame b.store) e cs k m
      → Matches frame sets (benches k) m
  pub keeps : (k : ℕ) → k < n → ((a : Meaning) → Accepted (bench_table b) (frame b.store) (slice_index_or cs k a_call) a → ⊥)
      → Keeps frame sets (benches k) (benches (suc k))
