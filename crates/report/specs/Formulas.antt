-- The report of a formula.
--
--   FormulaReport   over a table and a universe: a heading with how many codes are listed at the first state, how many the universe
--                   has and how many rounds the formula takes, then a line for each code that is listed there, ascending
--   Evaluates       what the evaluation of a formula and its report answer: the report was laid out, or the evaluation was refused,
--                   and nothing was
--   Small           the numbers of a model and a formula are within the limits of their sheets
--
-- Names are given as their bytes. Assumes nothing.
use Rattle.std.specs.Prelude.{◌≡◌, ℕ, ◌*◌, ◌≤◌, Bool, true, List, [], length, Some, None, Ok, Err, Result}
use Rattle.logic.specs.Formulas as logic
use Rattle.logic.specs.Table as table
use Rattle.logic.specs.Listing.{Listed}
use Rattle.logic.specs.Rounds.{Rounds}
use Rattle.model.specs.declared.Model.{Model}
use Rattle.formula.specs.declared.Formula.{Formula}
use Rattle.formula.specs.Wholes.{Meaning}
use Rattle.store.specs.Frames.{Frame}
use Rattle.evaluate.specs.declared.fault.EvaluateFault.{EvaluateFault}
use Rattle.evaluate.specs.Evaluation.{Refusal}
use Rattle.report.specs.declared.printer.Printer.{Printer}
use Rattle.report.specs.Listings.{Names}
use Rattle.report.specs.Printers.{Lays, LaysSome}
use Rattle.report.specs.Texts.{report_text}

pub record FormulaReport (M : table.Table) (U : ℕ → Bool) (actions variables : List (List ℕ)) (φ : logic.Formula) (bytes : List ℕ) : Type 0 where
  pub listed : List ℕ
  pub lists : Names (Listed M U φ 0) listed
  pub codes : List ℕ
  pub all : Names (λ c. U c ≡ true) codes
  pub rounds : ℕ
  pub takes : Rounds M U φ rounds
  pub says : bytes ≡ report_text actions variables listed (length codes) rounds

abbrev pub Evaluates : Frame → table.Table → Meaning → List (List ℕ) → List (List ℕ) → Printer → Result (Unit {0}) EvaluateFault → Printer → Type 0
Evaluates f M a actions variables p (Ok _) q = Refusal f M a None × LaysSome (FormulaReport M f.universe actions variables a.formula) p q
Evaluates f M a actions variables p (Err e) q = Refusal f M a (Some e) × Lays p [] q

pub record Small (m : Model) (v : Formula) : Type 0 where
  pub some_state : 1 ≤ m.table.states
  pub states : m.table.states ≤ 64
  pub actions : m.vocabulary.actions.count ≤ 12
  pub bits : m.vocabulary.actions.count * v.variables.count ≤ 12
