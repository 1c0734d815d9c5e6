-- Laws over the answers to a list of calls on a bench just opened.
--
--   SameAnswers       the same call at two positions, with no accepted judge between, has the same answer
--   place             where a listing asks from: 0, then one past each answer
--   Carried           a listing carried to its end: at ascending positions, whatever calls stand between, none of them an
--                     accepted judge, the call asks from 0, then from one past each answer, until none; the answers are xs
--   ListingNames      a listing made with next names the codes of the universe under which the formula last accepted holds at
--                     the state, each once, ascending
--   LeastLists        where that formula is in the existential part, a code of the universe is listed at the state exactly if
--                     it includes one that a listing made with least names there
--   Agree             two benches with one table and the same formula last accepted answer holds alike, for each code of both
--                     universes
--
-- Assumes nothing.
use Rattle.std.specs.Prelude.{◌≡◌, ℕ, zero, suc, ◌+◌, ◌<◌, ◌≤◌, Bool, true, ◌↔◌, List, length, Some, None, Ok, Option, Result, slice_index, slice_index_or}
use Rattle.logic.specs.Codes.{Includes}
use Rattle.logic.specs.Table.{Table}
use Rattle.logic.specs.Existential.{Existential}
use Rattle.logic.specs.Listing.{Listed}
use Rattle.store.specs.Frames.{Frame}
use Rattle.formula.specs.Wholes.{Meaning}
use Rattle.bench.specs.declared.call.Call.{Call}
use Rattle.bench.specs.declared.call.Call.TheVariants as call
use Rattle.bench.specs.declared.call.Answer.{Answer}
use Rattle.bench.specs.declared.call.Answer.TheVariants as answer
use Rattle.bench.specs.declared.fault.Fault.{Fault}
use Rattle.bench.specs.Questions.{Names}
use Rattle.audit.specs.Runs.{a_call, an_answer, Quiet, LastAccepted}

abbrev pub SameAnswers : Table → Frame → List Call → List (Result Answer Fault) → ℕ → Type 0
SameAnswers M F cs got n =
    (i j : ℕ) → i < j → j < n → slice_index_or cs i a_call ≡ slice_index_or cs j a_call → Quiet M F cs (suc i) j
    → slice_index_or got i an_answer ≡ slice_index_or got j an_answer

abbrev pub place : List ℕ → ℕ → ℕ
place xs zero = 0
place xs (suc k) = slice_index xs k + 1

pub record Carried (M : Table) (F : Frame) (cs : List Call) (got : List (Result Answer Fault)) (n : ℕ) (ask : ℕ → Call) (said : Option ℕ → Answer) (xs : List ℕ) : Type 0 where
  pub at : ℕ → ℕ
  pub ascends : (k : ℕ) → k < length xs → at k < at (suc k)
  pub inside : at (length xs) < n
  pub asks : (k : ℕ) → k ≤ length xs → slice_index_or cs (at k) a_call ≡ ask (place xs k)
  pub names : (k : ℕ) → k < length xs → slice_index_or got (at k) an_answer ≡ Ok (said (Some (slice_index xs k)))
  pub ends : slice_index_or got (at (length xs)) an_answer ≡ Ok (said None)
  pub quiet : Quiet M F cs (at 0) (at (length xs))

abbrev pub ListingNames : Table → Frame → List Call → List (Result Answer Fault) → ℕ → Type 0
ListingNames M F cs got n =
    (s : ℕ) (xs : List ℕ) (h : Carried M F cs got n (call.Next s) answer.Next xs)
    → (a : Meaning) → LastAccepted M F cs (h.at 0) a
    → Names (Listed M F.universe a.formula s) xs

abbrev pub LeastLists : Table → Frame → List Call → List (Result Answer Fault) → ℕ → Type 0
LeastLists M F cs got n =
    (s : ℕ) (xs : List ℕ) (h : Carried M F cs got n (call.Least s) answer.Least xs)
    → (a : Meaning) → LastAccepted M F cs (h.at 0) a → Existential a.formula
    → (c : ℕ) → F.universe c ≡ true
    → Listed M F.universe a.formula s c ↔ ((k : ℕ) × (k < length xs) × Includes F.actions F.variables c (slice_index xs k))

abbrev pub Agree : Table → Frame → List Call → ℕ → Frame → List Call → ℕ → ℕ → Result Bool Fault → Result Bool Fault → Type 0
Agree M F cs n G ds m c r q =
    (a : Meaning) → LastAccepted M F cs n a → LastAccepted M G ds m a → F.universe c ≡ true → G.universe c ≡ true → r ≡ q
