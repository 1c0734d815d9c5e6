-- What holds of every report.
--
--   OneReport     a text has one report, for each size of the store
--   LinesName     behind their heading the bytes are the lines of codes: each once, ascending, and exactly those that are listed at
--                 the first state; no other list of codes is so
--   LinesNameTheListed  the report of a formula is so
--   LinesApart    over the actions of a model sheet, two codes with one line are one code: a line says which code it names
--
-- Assumes nothing.
use Rattle.std.specs.Prelude.{◌≡◌, ℕ, ◌*◌, ◌^◌, ◌<◌, Bool, List, ◌++◌, length}
use Rattle.std.specs.List.{flat_map}
use Rattle.logic.specs.Formulas as logic
use Rattle.logic.specs.Table as table
use Rattle.logic.specs.Listing.{Listed}
use Rattle.model.specs.Content as model
use Rattle.model.specs.Grammar.{Admissible}
use Rattle.report.specs.Formulas.{FormulaReport}
use Rattle.report.specs.Lines.{line}
use Rattle.report.specs.Listings.{Names}
use Rattle.report.specs.Reports.{ReportOf}
use Rattle.report.specs.Texts.{heading, code_line}

abbrev pub OneReport : Type 0
OneReport = (text : List ℕ) (size : ℕ) (a b : List ℕ) → ReportOf text size a → ReportOf text size b → a ≡ b

pub record LinesName (M : table.Table) (U : ℕ → Bool) (actions variables : List (List ℕ)) (φ : logic.Formula) (bytes : List ℕ) : Type 0 where
  pub codes : List ℕ
  pub named : Names (Listed M U φ 0) codes
  pub only : (others : List ℕ) → Names (Listed M U φ 0) others → others ≡ codes
  pub all : ℕ
  pub rounds : ℕ
  pub lines : bytes ≡ heading (length codes) all rounds ++ flat_map (code_line actions variables) codes

abbrev pub LinesNameTheListed : Type 0
LinesNameTheListed =
    (M : table.Table) (U : ℕ → Bool) (actions variables : List (List ℕ)) (φ : logic.Formula) (bytes : List ℕ)
    → FormulaReport M U actions variables φ bytes → LinesName M U actions variables φ bytes

abbrev pub LinesApart : Type 0
LinesApart =
    (m : model.Content) → Admissible m → (variables : List (List ℕ)) (c d : ℕ)
    → c < 2 ^ (length m.actions * length variables) → d < 2 ^ (length m.actions * length variables)
    → line m.actions variables c ≡ line m.actions variables d → c ≡ d
