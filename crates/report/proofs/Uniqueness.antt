-- A text has one report, for each size of the store. Assumes nothing.
use Rattle.std.proofs.Common.{◌≡◌, ℕ, zero, suc, ◌+◌, Bool, true, List, ◌++◌, length, drop, sym, ap, ◌∙◌, subst, inl, inr}
use Rattle.logic.specs.Formulas as logic
use Rattle.logic.specs.Table as table
use Rattle.logic.specs.Listing.{Listed}
use Rattle.logic.proofs.Totals.{rounds_unique}
use Rattle.words.proofs.Words.{word_unique}
use Rattle.model.specs.Content as model
use Rattle.model.proofs.Sheets as model-laws
use Rattle.formula.specs.Sheets as formula
use Rattle.formula.proofs.SheetLaws.{one_reading, never_both_ways, one_refusal}
use Rattle.report.specs.Formulas.{FormulaReport}
use Rattle.report.specs.Laws.{OneReport}
use Rattle.report.specs.Reports.{universe, Sheet, Enough, Told, SheetStops, Stops, Sheets, SheetsFrom}
use Rattle.report.specs.Texts.{report_text, refusal}
use Rattle.report.proofs.Listing.{names_unique}

formula_report_unique : (M : table.Table) (U : ℕ → Bool) (actions variables : List (List ℕ)) (φ : logic.Formula) (a b : List ℕ) → FormulaReport M U actions variables φ a → FormulaReport M U actions variables φ b → a ≡ b
formula_report_unique M U actions variables φ a b x y =
    let listed = names_unique (Listed M U φ 0) x.listed y.listed x.lists y.lists in
    let codes = names_unique (λ c. U c ≡ true) x.codes y.codes x.all y.all in
    let rounds = rounds_unique M U φ x.rounds y.rounds x.takes y.takes in
    x.says ∙ (λ i. report_text actions variables (listed i) (length (codes i)) (rounds i)) ∙ sym y.says

module _ (text : List ℕ) (size : ℕ) (c : model.Content) where
  sheet_unique : (p : ℕ) (d e : formula.Content) (q r : ℕ) → Sheet text size c p d q → Sheet text size c p e r → (d ≡ e) × (q ≡ r)
  sheet_unique p d e q r a b =
      let same = one_reading (drop p text) c.actions c.properties d e a.end b.end a.stands b.stands in
      (same.0, a.behind ∙ ap (λ n. p + n) same.1 ∙ sym b.behind)

  told_unique : (p : ℕ) (a b : List ℕ) (q r : ℕ) → Told text size c p a q → Told text size c p b r → (a ≡ b) × (q ≡ r)
  told_unique p a b q r x y =
      let same = sheet_unique p x.content y.content q r x.sheet y.sheet in
      let P : formula.Content → Type 0 = λ d. FormulaReport _ (universe c.actions d.names) c.actions d.names d.formula a in
      (formula_report_unique _ _ c.actions y.content.names y.content.formula a b (subst P same.0 x.report) y.report, same.1)

  told_not_stops : (p : ℕ) (a : List ℕ) (q n at : ℕ) → Told text size c p a q → SheetStops text size c p n at → ⊥
  told_not_stops p a q n at x (inl y) = never_both_ways (drop p text) c.actions c.properties x.content x.sheet.end n y.offset x.sheet.stands y.refused
  told_not_stops p a q n at x (inr y) =
      let same = sheet_unique p x.content y.content q y.behind x.sheet y.sheet in
      let P : formula.Content → Type 0 = Enough text size c in
      y.lacks (subst P same.0 x.enough)

  stops_unique : (p n at m place : ℕ) → SheetStops text size c p n at → SheetStops text size c p m place → (n ≡ m) × (at ≡ place)
  stops_unique p n at m place (inl x) (inl y) =
      let same = one_refusal (drop p text) c.actions c.properties n x.offset m y.offset x.refused y.refused in
      (same.0, x.moved ∙ ap (λ k. p + k) same.1 ∙ sym y.moved)
  stops_unique p n at m place (inl x) (inr y) = absurd (never_both_ways (drop p text) c.actions c.properties y.content y.sheet.end n x.offset y.sheet.stands x.refused)
  stops_unique p n at m place (inr x) (inl y) = absurd (never_both_ways (drop p text) c.actions c.properties x.content x.sheet.end m y.offset x.sheet.stands y.refused)
  stops_unique p n at m place (inr x) (inr y) = (x.number ∙ sym y.number, (word_unique text p at x.end place y.end x.first y.first).0)

  stops_same : (p : ℕ) (a b : List ℕ) → Stops text size c p a → Stops text size c p b → a ≡ b
  stops_same p a b x y =
      let same = stops_unique p x.number x.at y.number y.at x.stops y.stops in
      x.says ∙ (λ i. refusal (same.0 i) (same.1 i)) ∙ sym y.says

  sheets_unique : (n k p : ℕ) (a b : List ℕ) → Sheets text size c n p a → Sheets text size c k p b → a ≡ b
  sheets_unique zero zero p a b (inl x) (inl y) = x.1 ∙ sym y.1
  sheets_unique zero zero p a b (inl x) (inr y) = absurd (y.more x.0)
  sheets_unique zero zero p a b (inr x) (inl y) = absurd (x.more y.0)
  sheets_unique zero zero p a b (inr x) (inr y) = stops_same p a b x y
  sheets_unique zero (suc k) p a b (inl x) y = absurd (y.more x.0)
  sheets_unique zero (suc k) p a b (inr x) y = absurd (told_not_stops p y.front y.next x.number x.at y.told x.stops)
  sheets_unique (suc n) zero p a b x (inl y) = absurd (x.more y.0)
  sheets_unique (suc n) zero p a b x (inr y) = absurd (told_not_stops p x.front x.next y.number y.at x.told y.stops)
  sheets_unique (suc n) (suc k) p a b x y =
      let same = told_unique p x.front y.front x.next y.next x.told y.told in
      let P : ℕ → Type 0 = λ q. Sheets text size c n q x.rest in
      let rest = sheets_unique n k y.next x.rest y.rest (subst P same.1 x.others) y.others in
      x.says ∙ (λ i. same.0 i ++ rest i) ∙ sym y.says

pub one_report : OneReport
one_report text size a b (inl x) (inl y) =
    let same = model-laws.one_refusal text x.number x.at y.number y.at x.refused y.refused in
    x.says ∙ (λ i. refusal (same.0 i) (same.1 i)) ∙ sym y.says
one_report text size a b (inl x) (inr y) = absurd (model-laws.never_both text y.content y.end x.number x.at y.sheet x.refused)
one_report text size a b (inr x) (inl y) = absurd (model-laws.never_both text x.content x.end y.number y.at x.sheet y.refused)
one_report text size a b (inr x) (inr y) =
    let same = model-laws.one_reading text x.content y.content x.end y.end x.sheet y.sheet in
    let P : model.Content → Type 0 = λ c. SheetsFrom text size c x.end a in
    let Q : ℕ → Type 0 = λ p. SheetsFrom text size y.content p a in
    let front = subst Q same.1 (subst P same.0 x.behind) in
    sheets_unique text size y.content front.many y.behind.many y.end a b front.sheets y.behind.sheets
