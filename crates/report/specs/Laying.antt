-- What the parts of the report call answer.
--
--   whole_frame   the frame of a full store in so many bytes: every valuation is in its universe
--   Starts        where the next word begins, or none where nothing but blanks is left
--   KeptModel     the value that an admissible content is kept as
--   ReadTo        the sheet from a position on is read up to another, and its formula kept
--   ReadAt        it is, or its reader refuses it, by the answer
--   Refused       the sheet is refused: by its reader, the position moved by where it begins; or at its first word
--   SheetLaid     a sheet was told, and its report laid out; or it is refused, and nothing was
--
-- Assumes nothing.
use Rattle.std.specs.Prelude.{◌≡◌, ℕ, ◌+◌, ◌*◌, ◌/◌, ◌<◌, ◌≤◌, List, [], length, drop, Some, None, Ok, Err, Option, Result}
use Rattle.logic.specs.Codes.{valuation}
use Rattle.words.specs.declared.Fault.{Fault}
use Rattle.words.specs.Faults.{number, position}
use Rattle.words.specs.Words.{WordAt, Ends}
use Rattle.model.specs.Content.{Content}
use Rattle.model.specs.Grammar.{Admissible}
use Rattle.model.specs.Values.{model_of}
use Rattle.model.specs.declared.Model.{Model}
use Rattle.formula.specs.declared.Formula.{Formula}
use Rattle.formula.specs.Sheets as formula
use Rattle.store.specs.Frames.{Frame}
use Rattle.full.specs.Bytes.{width}
use Rattle.evaluate.specs.Faults.{evaluation_number}
use Rattle.report.specs.declared.faults.SheetFault.{SheetFault}
use Rattle.report.specs.declared.faults.SheetFault.TheVariants.{Reading, Evaluation}
use Rattle.report.specs.declared.printer.Printer.{Printer}
use Rattle.report.specs.Printers.{Lays, LaysSome}
use Rattle.report.specs.Reports.{Told, Misread, TooLarge}

abbrev pub whole_frame : ℕ → ℕ → ℕ → Frame
whole_frame size actions variables = record {
  actions = actions;
  variables = variables;
  count = size / width (actions * variables);
  universe = valuation actions variables;
}

abbrev pub Starts : List ℕ → ℕ → Option ℕ → Type 0
Starts text from None = Ends text from
Starts text from (Some start) = (end : ℕ) × WordAt text from start end

pub record KeptModel (m : Model) : Type 0 where
  pub content : Content
  pub admissible : Admissible content
  pub keeps : m ≡ model_of content

pub record ReadTo (text : List ℕ) (from : ℕ) (actions properties : List (List ℕ)) (next : ℕ) (place : Formula) : Type 0 where
  pub content : formula.Content
  pub end : ℕ
  pub sheet : formula.FormulaSheet (drop from text) actions properties content end
  pub kept : place ≡ formula.formula_of (length actions) (length properties) content
  pub behind : next ≡ from + end
  pub further : from < next
  pub inside : next ≤ length text

abbrev pub ReadAt : List ℕ → ℕ → List (List ℕ) → List (List ℕ) → Result ℕ Fault → Formula → Type 0
ReadAt text from actions properties (Ok next) place = ReadTo text from actions properties next place
ReadAt text from actions properties (Err e) place = formula.Refusal (drop from text) actions properties (number e) (position e)

abbrev pub Refused : List ℕ → ℕ → Content → ℕ → SheetFault → Type 0
Refused text size c from (Reading e) = Misread text size c from (number e) (from + position e)
Refused text size c from (Evaluation e) = (first end : ℕ) → WordAt text from first end → TooLarge text size c from (evaluation_number e) first

abbrev pub SheetLaid : List ℕ → ℕ → Content → ℕ → Printer → Result ℕ SheetFault → Printer → Type 0
SheetLaid text size c from p (Ok next) q = LaysSome (λ bytes. Told text size c from bytes next) p q
SheetLaid text size c from p (Err e) q = Refused text size c from e × Lays p [] q
