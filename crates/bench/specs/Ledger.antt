-- The ledger: it knows a table, a store's frame and one entry, the formula last accepted, and says the answer of every call.
-- It is told the calls and never an answer.
--
--   Entry         nothing, or the formula last accepted with its numbers of actions, variables and properties
--   Lists         a code is listed at a state: it is in the universe, and the entry holds there under it
--   formula_of, state_of, code_of, place_of    what a call is about, where it is about such a thing
--   Applies       a refusal applies to a call
--   Refuses       it is the first that applies, by number
--   Unrefused     none applies
--   Value         what a call answers where it is not refused
--   Says          the answer of a call, refusals included
--   rounds_as, holds_as, next_as, count_as, smallest_as, least_as    the result of a call as an answer
--   Accepted      a call is a judge that is not refused, and a the formula that it judges
--   Enters        the entry after a call: the formula that it judges, where it is accepted, else the entry before
--
-- Assumes nothing.
use Rattle.std.specs.Prelude.{◌≡◌, ℕ, ◌<◌, ◌≤◌, Bool, false, ◌⊎◌, Some, None, Ok, Err, Decides, Option, Result}
use Rattle.logic.specs.Table.{Table}
use Rattle.logic.specs.Rounds.{Rounds}
use Rattle.logic.specs.Listing.{Listed}
use Rattle.store.specs.Frames.{Frame, frame_codes}
use Rattle.evaluate.specs.Evaluation.{Agrees, Enough}
use Rattle.bench.specs.declared.fault.Fault.{Fault}
use Rattle.bench.specs.declared.fault.Fault.TheVariants.{Differ, TooFewSets, NothingJudged, NoSuchState, NotInUniverse, PlaceTooHigh}
use Rattle.bench.specs.declared.call.Call.{Call}
use Rattle.bench.specs.declared.call.Call.TheVariants as call
use Rattle.bench.specs.declared.call.Answer.{Answer}
use Rattle.bench.specs.declared.call.Answer.TheVariants as answer
use Rattle.bench.specs.Faults.{fault_number}
use Rattle.formula.specs.Wholes.{Meaning, meaning_of}
use Rattle.bench.specs.Questions.{First, Many, Fewest, Alone}

abbrev pub Entry : Type 0
Entry = Option Meaning

abbrev pub Lists : Table → Frame → Entry → ℕ → ℕ → Type 0
Lists M F None s c = ⊥
Lists M F (Some a) s c = Listed M F.universe a.formula s c

abbrev pub formula_of : Call → Option Meaning
formula_of (call.Judge f) = Some (meaning_of f.now)
formula_of (call.Holds s c) = None
formula_of (call.Next s p) = None
formula_of (call.Count s) = None
formula_of (call.Smallest s) = None
formula_of (call.Least s p) = None

abbrev pub state_of : Call → Option ℕ
state_of (call.Judge f) = None
state_of (call.Holds s c) = Some s
state_of (call.Next s p) = Some s
state_of (call.Count s) = Some s
state_of (call.Smallest s) = Some s
state_of (call.Least s p) = Some s

abbrev pub code_of : Call → Option ℕ
code_of (call.Judge f) = None
code_of (call.Holds s c) = Some c
code_of (call.Next s p) = None
code_of (call.Count s) = None
code_of (call.Smallest s) = None
code_of (call.Least s p) = None

abbrev pub place_of : Call → Option ℕ
place_of (call.Judge f) = None
place_of (call.Holds s c) = None
place_of (call.Next s p) = Some p
place_of (call.Count s) = None
place_of (call.Smallest s) = None
place_of (call.Least s p) = Some p

-- there is such a thing, and P is true of it
abbrev pub There : {X : Type 0} → Option X → (X → Type 0) → Type 0
There None P = ⊥
There (Some x) P = P x

abbrev pub Applies : Table → Frame → Entry → Call → Fault → Type 0
Applies M F e x Differ = There (formula_of x) (λ a. Agrees F M a → ⊥)
Applies M F e x TooFewSets = There (formula_of x) (λ a. Enough F M a → ⊥)
Applies M F e x NothingJudged = There (state_of x) (λ s. e ≡ None)
Applies M F e x NoSuchState = There (state_of x) (λ s. M.states ≤ s)
Applies M F e x NotInUniverse = There (code_of x) (λ c. F.universe c ≡ false)
Applies M F e x PlaceTooHigh = There (place_of x) (λ p. frame_codes F < p)

pub record Refuses (M : Table) (F : Frame) (e : Entry) (x : Call) (n : Fault) : Type 0 where
  pub applies : Applies M F e x n
  pub first : (m : Fault) → fault_number m < fault_number n → Applies M F e x m → ⊥

abbrev pub Unrefused : Table → Frame → Entry → Call → Type 0
Unrefused M F e x = (n : Fault) → Applies M F e x n → ⊥

abbrev pub Value : Table → Frame → Entry → Call → Result Answer Fault → Type 0
Value M F e (call.Judge f) a = (r : ℕ) × (a ≡ Ok (answer.Rounds r)) × Rounds M F.universe (meaning_of f.now).formula r
Value M F e (call.Holds s c) a = (b : Bool) × (a ≡ Ok (answer.Holds b)) × Decides b (Lists M F e s c)
Value M F e (call.Next s p) a = (o : Option ℕ) × (a ≡ Ok (answer.Next o)) × First (Lists M F e s) p o
Value M F e (call.Count s) a = (n : ℕ) × (a ≡ Ok (answer.Count n)) × Many (Lists M F e s) n
Value M F e (call.Smallest s) a = (o : Option ℕ) × (a ≡ Ok (answer.Smallest o)) × Fewest (Lists M F e s) o
Value M F e (call.Least s p) a =
    (o : Option ℕ) × (a ≡ Ok (answer.Least o)) × First (Alone F.actions F.variables (Lists M F e s)) p o

abbrev pub Says : Table → Frame → Entry → Call → Result Answer Fault → Type 0
Says M F e x a =
    ((n : Fault) × Refuses M F e x n × (a ≡ Err n)) ⊎ (Unrefused M F e x × Value M F e x a)

abbrev pub answered : {X : Type 0} → (X → Answer) → Result X Fault → Result Answer Fault
answered A (Ok x) = Ok (A x)
answered A (Err n) = Err n

abbrev pub rounds_as : Result ℕ Fault → Result Answer Fault
rounds_as r = answered answer.Rounds r

abbrev pub holds_as : Result Bool Fault → Result Answer Fault
holds_as r = answered answer.Holds r

abbrev pub next_as : Result (Option ℕ) Fault → Result Answer Fault
next_as r = answered answer.Next r

abbrev pub count_as : Result ℕ Fault → Result Answer Fault
count_as r = answered answer.Count r

abbrev pub smallest_as : Result (Option ℕ) Fault → Result Answer Fault
smallest_as r = answered answer.Smallest r

abbrev pub least_as : Result (Option ℕ) Fault → Result Answer Fault
least_as r = answered answer.Least r

pub record Accepted (M : Table) (F : Frame) (x : Call) (a : Meaning) : Type 0 where
  pub judges : formula_of x ≡ Some a
  pub agrees : Agrees F M a
  pub enough : Enough F M a

abbrev pub Enters : Table → Frame → Entry → Call → Entry → Type 0
Enters M F e x d = ((a : Meaning) × Accepted M F x a × (d ≡ Some a)) ⊎ (((a : Meaning) → Accepted M F x a → ⊥) × (d ≡ e))
