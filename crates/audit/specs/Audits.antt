-- The law of a bench just opened, and of two of them.
--
--   Held         what the store's sets hold along a list of calls: at each state exactly the codes under which the formula last
--                accepted holds there, and no call alters any of them, except an accepted judge
--   Law          all that is promised of a list of n calls on a bench just opened over the store `given`
--   AskedHolds   the ledger's answer to holds after the calls
--   Audited      the law of two benches with one table, and that they agree
--
-- frame and sets say of a store what it is over and which codes its sets have. Assumes nothing.
use Rattle.std.specs.Prelude.{◌≡◌, ℕ, suc, ◌<◌, ◌≤◌, Bool, List, None, Decides, Result, slice_index_or}
use Rattle.logic.specs.Table.{Table}
use Rattle.logic.specs.Listing.{Listed}
use Rattle.store.specs.Frames.{Frame}
use Rattle.evaluate.specs.Layout.{result_set}
use Rattle.formula.specs.Wholes.{Meaning}
use Rattle.bench.specs.declared.fault.Fault.{Fault}
use Rattle.bench.specs.declared.call.Call.{Call}
use Rattle.bench.specs.declared.call.Call.TheVariants as call
use Rattle.bench.specs.declared.call.Answer.{Answer}
use Rattle.bench.specs.Ledger.{Entry, Says, Accepted, holds_as}
use Rattle.audit.specs.Runs.{a_call, LastAccepted, EntryAfter, Told}
use Rattle.audit.specs.Laws.{SameAnswers, ListingNames, LeastLists, Agree}

pub record Held {S : Type 0} (frame : S → Frame) (sets : S → ℕ → ℕ → Bool) (M : Table) (given : S) (cs : List Call) (n : ℕ) : Type 0 where
  -- the store before each call, and after the last
  pub stores : ℕ → S
  pub begins : stores 0 ≡ given
  pub frames : (k : ℕ) → k ≤ n → frame (stores k) ≡ frame given
  pub lists : (k : ℕ) → k ≤ n → (a : Meaning) → LastAccepted M (frame given) cs k a → (s c : ℕ) → s < M.states
      → Decides (sets (stores k) (result_set M.states s) c) (Listed M (frame given).universe a.formula s c)
  pub unaltered : (k : ℕ) → k < n → ((a : Meaning) → Accepted M (frame given) (slice_index_or cs k a_call) a → ⊥)
      → (j c : ℕ) → sets (stores (suc k)) j c ≡ sets (stores k) j c

pub record Law {S : Type 0} (frame : S → Frame) (sets : S → ℕ → ℕ → Bool) (M : Table) (given : S) (cs : List Call) (got : List (Result Answer Fault)) (n : ℕ) : Type 0 where
  pub answers : Told M (frame given) None cs got n
  pub held : Held frame sets M given cs n
  pub same_answers : SameAnswers M (frame given) cs got n
  pub listing : ListingNames M (frame given) cs got n
  pub existential : LeastLists M (frame given) cs got n

abbrev pub AskedHolds : Table → Frame → List Call → ℕ → ℕ → ℕ → Result Bool Fault → Type 0
AskedHolds M F cs n s c r = (d : Entry) → EntryAfter M F None cs n d → Says M F d (call.Holds s c) (holds_as r)

pub record Audited {S T : Type 0} (frame : S → Frame) (sets : S → ℕ → ℕ → Bool) (frame' : T → Frame) (sets' : T → ℕ → ℕ → Bool) (M : Table)
    (first : S) (cs : List Call) (got : List (Result Answer Fault)) (n : ℕ) (second : T) (ds : List Call) (got' : List (Result Answer Fault)) (m : ℕ)
    (s c : ℕ) (r q : Result Bool Fault) : Type 0 where
  pub first_law : Law frame sets M first cs got n
  pub second_law : Law frame' sets' M second ds got' m
  pub first_holds : AskedHolds M (frame first) cs n s c r
  pub second_holds : AskedHolds M (frame' second) ds m s c q
  pub agree : Agree M (frame first) cs n (frame' second) ds m c r q
