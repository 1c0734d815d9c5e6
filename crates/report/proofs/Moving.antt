-- How far a sheet reaches in its text. Assumes nothing.
use Rattle.std.proofs.Common.{◌≡◌, ℕ, zero, suc, ◌+◌, ◌-◌, ◌<◌, ◌≤◌, true, false, List, length, drop, sym, refl, ap, ◌∙◌, inl, inr, arith}
use Rattle.std.proofs.lemmas.List.{length-drop}
use Rattle.std.proofs.lemmas.Bool.{both_ways}
use Rattle.words.specs.Faults.{text_limit}
use Rattle.words.specs.Walks.{Rules, Walk, Walks, SheetRefused}
use Rattle.model.specs.Content as model
use Rattle.model.specs.Grammar.{ModelSheet}
use Rattle.model.proofs.Sheets.{sheets_are_walks}
use Rattle.formula.specs.Sheets as formula
use Rattle.formula.proofs.SheetWalks.{sheet_walks}

module _ {S : Type 0} (R : Rules S) (text : List ℕ) where
  walk_end : (n : ℕ) (s : S) (p : ℕ) (t : S) (q : ℕ) → p ≤ length text → Walk R text n s p t q → (p ≤ q) × (q ≤ length text)
  walk_end zero s p t q low w = let e = w.1 in (omega arith, omega arith)
  walk_end (suc n) s p t q low w =
      let word = w.2.word in
      let rest = walk_end n w.0 w.1 t q word.inside w.3 in
      (omega (arith, word.behind, word.some, rest.0), rest.1)

  -- from a point where a word is due to one where none is, at least one word is read
  walk_moves : (n : ℕ) (s : S) (p : ℕ) (t : S) (q : ℕ) → R.over s ≡ false → R.over t ≡ true → Walk R text n s p t q → (p < q) × (q ≤ length text)
  walk_moves zero s p t q due over w = absurd (both_ways (R.over t) (ap (λ z. R.over z) (sym w.0) ∙ due) over)
  walk_moves (suc n) s p t q due over w =
      let word = w.2.word in
      let rest = walk_end n w.0 w.1 t q word.inside w.3 in
      (omega (arith, word.behind, word.some, rest.0), rest.1)

  pub walks_move : (s : S) (p : ℕ) (t : S) (q : ℕ) → R.over s ≡ false → R.over t ≡ true → Walks R text s p t q → (p < q) × (q ≤ length text)
  walks_move s p t q due over w = walk_moves w.words s p t q due over w.walk

  pub refused_inside : (s : S) (n at : ℕ) → length text ≤ text_limit → SheetRefused R text s n at → at ≤ text_limit
  refused_inside s n at short (inl h) = absurd (omega (arith, h.0))
  refused_inside s n at short (inr h) =
      elim h.1.stops.fault [ inl e ↦ omega (arith, e.1) | inr w ↦ omega (arith, w.1.some, w.1.inside) ]

pub model_reaches : (text : List ℕ) (c : model.Content) (end : ℕ) → ModelSheet text c end → (0 < end) × (end ≤ length text)
model_reaches text c end s = walks_move _ text _ 0 _ end refl refl ((sheets_are_walks text c end).0 s).1

pub sheet_reaches : (text : List ℕ) (actions properties : List (List ℕ)) (c : formula.Content) (end : ℕ) → formula.FormulaSheet text actions properties c end → (0 < end) × (end ≤ length text)
sheet_reaches text actions properties c end s = walks_move _ text _ 0 _ end refl refl (sheet_walks text actions properties c end s)

-- the position behind a sheet, from what is left of the text
pub next_is : (text rest : List ℕ) (from end : ℕ) → from ≤ length text → end ≤ length (drop from text) → rest ≡ drop end (drop from text) → (length rest ≤ length text) × (length text - length rest ≡ from + end)
next_is text rest from end low far is =
    let long : length rest ≡ length text - from - end = ap length is ∙ length-drop end (drop from text) ∙ ap (λ n. n - end) (length-drop from text) in
    let room : length (drop from text) ≡ length text - from = length-drop from text in
    (omega arith, omega arith)
