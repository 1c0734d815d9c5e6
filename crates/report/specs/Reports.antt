-- The report of a text, with so many bytes of memory for the store. The text is a model sheet, and formula sheets behind it.
--
--   universe     with so many actions and variables, every valuation
--   Sheet        the formula sheet from a position on: what it says, and the position behind it
--   Enough       the store has as many sets as the evaluation of the formula asks for
--   Told         the sheet is read and the store is enough: the report of its formula, and the position behind the sheet
--   Misread      the sheet is refused by its reader; the position is moved by where the sheet begins
--   TooLarge     the sheet is read and the store is not enough: 21, at the first word of the sheet
--   SheetStops   one or the other
--   Stops        the sheet is refused, and its line is the last one
--   Goes         the sheet is told, and what stands behind it is as Rest says
--   Sheets       what is reported from a position on: so many sheets that are told, and then either nothing but blanks, or a
--                sheet that is refused
--   SheetsFrom   the same, for some number of sheets
--   Unread       the model sheet is refused: the line of its refusal
--   Sheeted      the model sheet is read: what is reported behind it
--   ReportOf     the bytes are the report of the text
--
-- Assumes nothing.
use Rattle.std.specs.Prelude.{◌≡◌, ℕ, zero, suc, ◌+◌, ◌*◌, ◌/◌, ◌≤◌, Bool, ◌⊎◌, List, [], ◌++◌, length, drop}
use Rattle.logic.specs.Codes.{valuation}
use Rattle.logic.specs.Formulas.{nodes}
use Rattle.words.specs.Words.{WordAt, Ends}
use Rattle.words.specs.Walks.{SheetRefused}
use Rattle.model.specs.Content as model
use Rattle.model.specs.Rules.{model_rules, model_start}
use Rattle.model.specs.Grammar.{ModelSheet}
use Rattle.model.specs.Laws.{Meant}
use Rattle.formula.specs.Sheets as formula
use Rattle.full.specs.Bytes.{width}
use Rattle.evaluate.specs.Layout.{sets_needed}
use Rattle.report.specs.Formulas.{FormulaReport}
use Rattle.report.specs.Texts.{refusal}

abbrev pub universe : List (List ℕ) → List (List ℕ) → ℕ → Bool
universe actions variables = valuation (length actions) (length variables)

module _ (text : List ℕ) (size : ℕ) (c : model.Content) where
  pub record Sheet (p : ℕ) (d : formula.Content) (q : ℕ) : Type 0 where
    pub end : ℕ
    pub stands : formula.FormulaSheet (drop p text) c.actions c.properties d end
    pub behind : q ≡ p + end

  abbrev pub Enough : formula.Content → Type 0
  Enough d = sets_needed (nodes d.formula) (length c.states) ≤ size / width (length c.actions * length d.names)

  pub record Told (p : ℕ) (bytes : List ℕ) (q : ℕ) : Type 0 where
    pub content : formula.Content
    pub sheet : Sheet p content q
    pub enough : Enough content
    pub report : FormulaReport (Meant c) (universe c.actions content.names) c.actions content.names content.formula bytes

  pub record Misread (p n at : ℕ) : Type 0 where
    pub offset : ℕ
    pub refused : formula.Refusal (drop p text) c.actions c.properties n offset
    pub moved : at ≡ p + offset

  pub record TooLarge (p n at : ℕ) : Type 0 where
    pub content : formula.Content
    pub behind : ℕ
    pub sheet : Sheet p content behind
    pub lacks : Enough content → ⊥
    pub number : n ≡ 21
    pub end : ℕ
    pub first : WordAt text p at end

  abbrev pub SheetStops : ℕ → ℕ → ℕ → Type 0
  SheetStops p n at = Misread p n at ⊎ TooLarge p n at

  pub record Stops (p : ℕ) (bytes : List ℕ) : Type 0 where
    pub more : Ends text p → ⊥
    pub number : ℕ
    pub at : ℕ
    pub stops : SheetStops p number at
    pub says : bytes ≡ refusal number at

  pub record Goes (Rest : ℕ → List ℕ → Type 0) (p : ℕ) (bytes : List ℕ) : Type 0 where
    pub more : Ends text p → ⊥
    pub front : List ℕ
    pub next : ℕ
    pub rest : List ℕ
    pub told : Told p front next
    pub others : Rest next rest
    pub says : bytes ≡ front ++ rest

  abbrev pub Sheets : ℕ → ℕ → List ℕ → Type 0
  Sheets zero p bytes = (Ends text p × (bytes ≡ [])) ⊎ Stops p bytes
  Sheets (suc n) p bytes = Goes (Sheets n) p bytes

pub record SheetsFrom (text : List ℕ) (size : ℕ) (c : model.Content) (p : ℕ) (bytes : List ℕ) : Type 0 where
  pub many : ℕ
  pub sheets : Sheets text size c many p bytes

pub record Unread (text bytes : List ℕ) : Type 0 where
  pub number : ℕ
  pub at : ℕ
  pub refused : SheetRefused model_rules text model_start number at
  pub says : bytes ≡ refusal number at

pub record Sheeted (text : List ℕ) (size : ℕ) (bytes : List ℕ) : Type 0 where
  pub content : model.Content
  pub end : ℕ
  pub sheet : ModelSheet text content end
  pub behind : SheetsFrom text size content end bytes

abbrev pub ReportOf : List ℕ → ℕ → List ℕ → Type 0
ReportOf text size bytes = Unread text bytes ⊎ Sheeted text size bytes
