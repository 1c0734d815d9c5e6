-- Sheets told one behind the other. Assumes nothing.
use Rattle.std.proofs.Common.{◌≡◌, ℕ, suc, ◌-◌, List, [], ◌++◌, length, drop, sym, refl, ap, ◌∙◌, subst, inl, inr, arith}
use Rattle.std.proofs.lemmas.List.{append_assoc, append-nil, length-drop}
use Rattle.words.specs.Words.{Ends}
use Rattle.model.specs.Content as model
use Rattle.model.specs.Grammar.{ModelSheet}
use Rattle.report.specs.declared.printer.Printer.{Printer}
use Rattle.report.specs.Printers.{Lays, LaysSome}
use Rattle.report.specs.Reports.{Told, SheetStops, Sheets, SheetsFrom, ReportOf}
use Rattle.report.specs.Texts.{refusal}
use Rattle.report.proofs.Moving.{model_reaches}
use Rattle.report.proofs.Laying.{lays_then, lays_same}

-- What is laid out so far is the front of every report that goes on from here.
pub record SoFar (text : List ℕ) (size : ℕ) (c : model.Content) (from at : ℕ) (p q : Printer) : Type 0 where
  pub front : List ℕ
  pub lays : Lays p front q
  pub goes : (k : ℕ) (rest : List ℕ) → Sheets text size c k at rest → SheetsFrom text size c from (front ++ rest)

module _ (text : List ℕ) (size : ℕ) (c : model.Content) (from : ℕ) (p : Printer) where
  pub so_far_more : (at next : ℕ) (q r : Printer) → (Ends text at → ⊥) → SoFar text size c from at p q
      → LaysSome (λ bytes. Told text size c at bytes next) q r → SoFar text size c from next p r
  so_far_more at next q r more h told =
      let P : List ℕ → Type 0 = SheetsFrom text size c from in
      record {
        front = h.front ++ told.bytes;
        lays = lays_then h.lays told.lays;
        goes = λ j rest s.
            subst P (sym (append_assoc h.front told.bytes rest))
            (h.goes (suc j) (told.bytes ++ rest) (record { more = more; front = told.bytes; next = next; rest = rest; told = told.holds; others = s; says = refl }));
      }

  pub so_far_ends : (at : ℕ) (q : Printer) → Ends text at → SoFar text size c from at p q → LaysSome (SheetsFrom text size c from) p q
  so_far_ends at q ends h = record {
    bytes = h.front ++ [];
    holds = h.goes 0 [] (inl (ends, refl));
    lays = lays_same (sym (append-nil h.front)) h.lays;
  }

  pub so_far_stops : (at : ℕ) (q r t : Printer) (number place : ℕ) → (Ends text at → ⊥) → SoFar text size c from at p q
      → SheetStops text size c at number place → Lays q [] r → Lays r (refusal number place) t → LaysSome (SheetsFrom text size c from) p t
  so_far_stops at q r t number place more h stops none lays = record {
    bytes = h.front ++ refusal number place;
    holds = h.goes 0 (refusal number place) (inr (record { more = more; number = number; at = place; stops = stops; says = refl }));
    lays = lays_then h.lays (lays_then none lays);
  }

-- the model sheet was read, and the sheets behind it reported
pub read_report : (text rest : List ℕ) (size : ℕ) (c : model.Content) (end : ℕ) (p q : Printer) → ModelSheet text c end → rest ≡ drop end text
    → LaysSome (SheetsFrom text size c (length text - length rest)) p q → LaysSome (ReportOf text size) p q
read_report text rest size c end p q sheet is h =
    let long : length rest ≡ length text - end = ap length is ∙ length-drop end text in
    let far = model_reaches text c end sheet in
    let from : length text - length rest ≡ end = omega (arith, far.1) in
    let P : ℕ → Type 0 = λ k. SheetsFrom text size c k h.bytes in
    record { bytes = h.bytes; holds = inr (record { content = c; end = end; sheet = sheet; behind = subst P from h.holds }); lays = h.lays }
