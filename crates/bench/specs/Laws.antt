-- What is proved of the ledger. Each statement is the contract of a function of this crate.
--
--   AnswersOne     the ledger says at most one answer to a call
--   EntriesOne     after a call there is exactly one entry
--
-- Assumes nothing.
use Rattle.std.specs.Prelude.{◌≡◌, Result}
use Rattle.logic.specs.Table.{Table, Sound}
use Rattle.store.specs.Frames.{Frame, Lawful}
use Rattle.bench.specs.declared.fault.Fault.{Fault}
use Rattle.bench.specs.declared.call.Call.{Call}
use Rattle.bench.specs.declared.call.Answer.{Answer}
use Rattle.bench.specs.Ledger.{Entry, Says, Enters}

abbrev pub AnswersOne : Type 0
AnswersOne =
    (M : Table) → Sound M → (F : Frame) → Lawful F → (e : Entry) (x : Call) (a b : Result Answer Fault)
    → Says M F e x a → Says M F e x b → a ≡ b

abbrev pub EntriesOne : Type 0
EntriesOne =
    (M : Table) (F : Frame) (e : Entry) (x : Call)
    → (d : Entry) × Enters M F e x d × ((b : Entry) → Enters M F e x b → b ≡ d)
