-- Lists of calls, one after another on one bench, and what the ledger says of them.
--
--   a_call, an_answer   what stands behind the end of a list
--   Quiet          none of the calls from position i up to before position j is an accepted judge
--   LastAccepted   of the first n calls, a is the formula of the last accepted judge
--   EntryAfter     the entry after the first n calls, from the entry e on: the formula last accepted, or e where no judge was
--   OneEntry       there is exactly one entry after the first n calls
--   Told           each of the first n answers is what the ledger says to its call
--
-- Assumes nothing.
use Rattle.std.specs.Prelude.{◌≡◌, ℕ, suc, ◌<◌, ◌≤◌, ◌⊎◌, List, Some, Ok, Result, slice_index_or}
use Rattle.logic.specs.Table.{Table}
use Rattle.store.specs.Frames.{Frame}
use Rattle.formula.specs.Wholes.{Meaning}
use Rattle.bench.specs.declared.fault.Fault.{Fault}
use Rattle.bench.specs.declared.call.Call.{Call}
use Rattle.bench.specs.declared.call.Call.TheVariants as call
use Rattle.bench.specs.declared.call.Answer.{Answer}
use Rattle.bench.specs.declared.call.Answer.TheVariants as answer
use Rattle.bench.specs.Ledger.{Entry, Says, Accepted}

abbrev pub a_call : Call
a_call = call.Holds 0 0

abbrev pub an_answer : Result Answer Fault
an_answer = Ok (answer.Rounds 0)

abbrev pub Quiet : Table → Frame → List Call → ℕ → ℕ → Type 0
Quiet M F cs i j = (k : ℕ) → i ≤ k → k < j → (a : Meaning) → Accepted M F (slice_index_or cs k a_call) a → ⊥

pub record LastAccepted (M : Table) (F : Frame) (cs : List Call) (n : ℕ) (a : Meaning) : Type 0 where
  pub at : ℕ
  pub before : at < n
  pub accepted : Accepted M F (slice_index_or cs at a_call) a
  pub since : Quiet M F cs (suc at) n

abbrev pub EntryAfter : Table → Frame → Entry → List Call → ℕ → Entry → Type 0
EntryAfter M F e cs n d = ((a : Meaning) × LastAccepted M F cs n a × (d ≡ Some a)) ⊎ (Quiet M F cs 0 n × (d ≡ e))

abbrev pub Told : Table → Frame → Entry → List Call → List (Result Answer Fault) → ℕ → Type 0
Told M F e cs got n =
    (k : ℕ) → k < n → (d : Entry) → EntryAfter M F e cs k d → Says M F d (slice_index_or cs k a_call) (slice_index_or got k an_answer)

abbrev pub OneEntry : Type 0
OneEntry =
    (M : Table) (F : Frame) (e : Entry) (cs : List Call) (n : ℕ)
    → (d : Entry) × EntryAfter M F e cs n d × ((b : Entry) → EntryAfter M F e cs n b → b ≡ d)
