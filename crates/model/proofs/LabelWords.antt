-- The words of one label.
use Rattle.std.proofs.Common.{◌≡◌, ℕ, ◌<◌, true, false, List, [], ◌∷◌, ◌++◌, get_or, Some, Ok, Err, sym, refl, ap, ◌∙◌, subst}
use Rattle.std.specs.Option.{ok_or}
use Rattle.std.proofs.lemmas.Bool.Decides.{not_from_Decides}
use Rattle.words.specs.declared.Fault.{Fault}
use Rattle.words.specs.declared.Fault.TheVariants.{NotNamed}
use Rattle.words.specs.declared.Reader.{Reader}
use Rattle.words.specs.declared.Word.{Word}
use Rattle.words.specs.Faults.{number, position}
use Rattle.words.specs.Words.{lookup}
use Rattle.words.specs.Walks.{Walks, Leaves, Found}
use Rattle.words.specs.Readers.{LooksUp}
use Rattle.words.proofs.Readers.{no_word, word_goes, word_stops, walks_on, leaves_on, ok_or_some, ok_or_none}
use Rattle.model.specs.Content.{Content}
use Rattle.model.specs.Rules.{label_state, label_property, due_labels, at, with_labels, model_rules}
use Rattle.model.specs.Values.{labelled, label_rows}
use Rattle.model.proofs.Looks.{label_state_reads}
use Rattle.model.proofs.Rows.{rows_cell, labelled_decides}
use Rattle.model.proofs.Steps.{label_property_fits, label_property_met, label_again}

module _ (c : Content) (m : ℕ) (states properties : List (List ℕ)) (ss : c.states ≡ states) (ps : c.properties ≡ properties) (r one : Reader) (s : ℕ) (same : one.text ≡ r.text) (first : LooksUp r states (Ok s) one) (after : Reader) where
  half : Walks model_rules r.text.now (at (label_state m) c) r.at (at (label_property m s) c) one.at
  half = label_state_reads c r one states (Ok s) first m ss

  on : (n place : ℕ) → Leaves model_rules one.text.now (at (label_property m s) c) one.at n place after.at → Leaves model_rules r.text.now (at (label_state m) c) r.at n place after.at
  on n place h = leaves_on model_rules (at (label_state m) c) r (at (label_property m s) c) one same half n place after h

  pub no_property : (f : Fault) → Found one (Err f) after → Leaves model_rules r.text.now (at (label_state m) c) r.at (number f) (position f) after.at
  no_property f h = on (number f) (position f) (no_word model_rules (at (label_property m s) c) one after refl f h)

  module _ (w : Word) (found : Found one (Ok w) after) where
    pub property_unnamed : (f : Fault) → Err f ≡ ok_or (lookup w.bytes.now properties) (NotNamed w.start) → Leaves model_rules r.text.now (at (label_state m) c) r.at (number f) (position f) after.at
    property_unnamed f h =
        let none = ok_or_none (lookup w.bytes.now properties) (NotNamed w.start) f h in
        subst (λ g. Leaves model_rules r.text.now (at (label_state m) c) r.at (number g) (position g) after.at) (sym none.1)
        (on 7 w.start (word_stops model_rules (at (label_property m s) c) one after refl w 7 found (label_property_met c w.bytes.now m s (ap (lookup w.bytes.now) ps ∙ none.0))))

    module _ (p : ℕ) (h : Ok p ≡ ok_or (lookup w.bytes.now properties) (NotNamed w.start)) (inside : s < 64) (inside' : p < 16) where
      named : lookup w.bytes.now c.properties ≡ Some p
      named = ap (lookup w.bytes.now) ps ∙ ok_or_some (lookup w.bytes.now properties) (NotNamed w.start) p h

      pub label_taken : get_or (get_or (label_rows c.labels) s []) p false ≡ true → Leaves model_rules r.text.now (at (label_state m) c) r.at 8 w.start after.at
      label_taken cell =
          on 8 w.start
          (word_stops model_rules (at (label_property m s) c) one after refl w 8 found
          (label_again c w.bytes.now m s p named ((labelled_decides c.labels s p).0 (sym (rows_cell c.labels s p inside inside') ∙ cell))))

      pub label_read : get_or (get_or (label_rows c.labels) s []) p false ≡ false → Walks model_rules r.text.now (at (label_state m) c) r.at (at (due_labels m) (with_labels c (c.labels ++ record { state = s; property = p } ∷ []))) after.at
      label_read cell =
          let fit = label_property_fits c w.bytes.now m s p named (not_from_Decides (labelled c.labels s p) (labelled_decides c.labels s p) (sym (rows_cell c.labels s p inside inside') ∙ cell)) in
          walks_on model_rules (at (label_state m) c) r (at (label_property m s) c) one same half _ after (word_goes model_rules (at (label_property m s) c) one after refl w _ found fit.0 fit.1)
