-- What the reader has built is the value of what it has read.
use Rattle.std.proofs.Common.{◌≡◌, ℕ, ◌≤◌, List, [], ◌∷◌, length, drop, refl, ap, ◌∙◌, subst, inr}
use Rattle.words.specs.declared.NameList.{NameList}
use Rattle.words.specs.declared.Reader.{Reader}
use Rattle.words.specs.Faults.{text_limit}
use Rattle.words.specs.Words.{listed}
use Rattle.words.specs.Walks.{Walks, Leaves}
use Rattle.words.proofs.Walks.{leaves_refused}
use Rattle.words.proofs.Readers.{walks_on, leaves_on}
use Rattle.model.specs.Values.{padded, names_kept}
use Rattle.model.specs.declared.vocabulary.Vocabulary.{Vocabulary}
use Rattle.formula.specs.declared.Node.{Node}
use Rattle.formula.specs.declared.Node.TheVariants.{True}
use Rattle.formula.specs.declared.Formula.{Formula}
use Rattle.formula.specs.Nodes.{flat}
use Rattle.formula.specs.Rules.{formula_start}
use Rattle.formula.specs.Reading.{rules_of, due_parts}
use Rattle.formula.specs.Sheets.{ReadInto, Untouched}
use Rattle.formula.proofs.GrammarWalks.{length_flat}
use Rattle.formula.proofs.SheetWalks.{sheet_splits}

module _ (v : Vocabulary) (r : Reader) (start : r.at ≡ 0) (short : length r.text.now ≤ text_limit) where
  -- nothing is stored where a word is refused
  pub sheet_fails : (before : Formula) (n at end : ℕ) → Leaves (rules_of v) r.text.now formula_start r.at n at end → Untouched r.text.now v before before n at
  sheet_fails before n at end h = record {
    refusal = inr (short, leaves_refused (rules_of v) r.text.now formula_start 0 n at end (subst (λ p. Leaves (rules_of v) r.text.now formula_start p n at end) start h));
    place = refl;
  }

  module _ (x : NameList 4) (kept : x ≡ names_kept 4 (listed x)) (m : Reader) (same : m.text ≡ r.text) (walked : Walks (rules_of v) r.text.now formula_start r.at (due_parts (1 ∷ []) (listed x) []) m.at) where
    pub part_fails : (before : Formula) (none : List Node) (n at : ℕ) (after : Reader) → none ≡ [] → Leaves (rules_of v) m.text.now (due_parts (1 ∷ []) (listed x) none) m.at n at after.at → Untouched r.text.now v before before n at
    part_fails before none n at after empty h =
        sheet_fails before n at after.at (leaves_on (rules_of v) formula_start r (due_parts (1 ∷ []) (listed x) []) m same walked n at after (subst (λ ns. Leaves (rules_of v) m.text.now (due_parts (1 ∷ []) (listed x) ns) m.at n at after.at) empty h))

    pub sheet_made : (before : Formula) (none nodes cells : List Node) (used a k : ℕ) (after : Reader) (rest : List ℕ) → none ≡ []
        → Walks (rules_of v) m.text.now (due_parts (1 ∷ []) (listed x) none) m.at (due_parts [] (listed x) nodes) after.at
        → cells ≡ padded 64 True nodes → used ≡ length nodes → a ≡ length (listed v.actions) → k ≡ length (listed v.properties) → after.text ≡ m.text → rest ≡ drop after.at after.text.now
        → ReadInto r.text.now v before (record { nodes = cells; node_count = used; actions = a; properties = k; variables = x }) rest
    sheet_made before none nodes cells used a k after rest empty part laid many as_many ps_many here remains =
        let whole_walk = walks_on (rules_of v) formula_start r (due_parts (1 ∷ []) (listed x) []) m same walked (due_parts [] (listed x) nodes) after (subst (λ ns. Walks (rules_of v) m.text.now (due_parts (1 ∷ []) (listed x) ns) m.at (due_parts [] (listed x) nodes) after.at) empty part) in
        let found = sheet_splits r.text.now (listed v.actions) (listed v.properties) (due_parts [] (listed x) nodes) after.at refl short (subst (λ p. Walks (rules_of v) r.text.now formula_start p (due_parts [] (listed x) nodes) after.at) start whole_walk) in
        let c = found.content in
        let names : listed x ≡ c.names = ap (λ s. s.names) found.point in
        let formula : nodes ≡ flat c.formula = ap (λ s. s.nodes) found.point in
        let laid_out = laid ∙ ap (padded 64 True) formula in
        let all = many ∙ ap length formula ∙ length_flat c.formula in
        let variables = kept ∙ ap (names_kept 4) names in
        record {
          content = c;
          end = after.at;
          sheet = found.sheet;
          place = λ i. record { nodes = laid_out i; node_count = all i; actions = as_many i; properties = ps_many i; variables = variables i };
          remains = remains ∙ ap (λ t. drop after.at t.now) (here ∙ same);
        }
