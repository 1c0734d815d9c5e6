-- What the loop over labels keeps: the walk from the section's count to the word that is due, and the labels that are marked.
use Rattle.std.proofs.Common.{◌≡◌, ℕ, suc, ◌+◌, ◌-◌, ◌<◌, Bool, true, List, [], ◌∷◌, ◌++◌, length, get_or, set, sym, ap, ◌∙◌, subst, arith}
use native.Mathlib.Nat.{sub-zero}
use Rattle.std.proofs.lemmas.List.{length_push}
use Rattle.words.specs.declared.Reader.{Reader}
use Rattle.words.specs.Walks.{Walks, Leaves}
use Rattle.words.proofs.Readers.{walks_on, leaves_on}
use Rattle.model.specs.Content.{Content, Label, labels, arcs}
use Rattle.model.specs.Rules.{count, label_state, at, due_labels, with_labels, model_rules}
use Rattle.model.specs.Values.{label_rows}
use Rattle.model.proofs.Rows.{rows_mark}

-- i of n labels are read: these
pub record LabelsRead (c : Content) (n i : ℕ) (rows : List (List Bool)) (before now : Reader) : Type 0 where
  pub list : List Label
  pub marked : rows ≡ label_rows list
  pub many : length list ≡ i
  pub walks : Walks model_rules before.text.now (at (count labels) (with_labels c [])) before.at (at (due_labels (n - i)) (with_labels c list)) now.at

pub record LabelsSoFar (states properties : List (List ℕ)) (n i : ℕ) (rows : List (List Bool)) (before now : Reader) : Type 0 where
  pub same : now.text ≡ before.text
  pub read : (c : Content) → c.states ≡ states → c.properties ≡ properties → LabelsRead c n i rows before now

module _ (states properties : List (List ℕ)) (n : ℕ) (before : Reader) where
  pub labels_none : (now : Reader) (rows : List (List Bool)) → rows ≡ label_rows [] → now.text ≡ before.text → ((c : Content) → Walks model_rules before.text.now (at (count labels) c) before.at (at (due_labels n) c) now.at) → LabelsSoFar states properties n 0 rows before now
  labels_none now rows none same h = record {
    same = same;
    read = λ c ss ps. record {
      list = [];
      marked = none;
      many = omega arith;
      walks = subst (λ k. Walks model_rules before.text.now (at (count labels) (with_labels c [])) before.at (at (due_labels k) (with_labels c [])) now.at) (sym (sub-zero n)) (h (with_labels c []));
    };
  }

  module _ (i : ℕ) (rows : List (List Bool)) (now : Reader) (so_far : LabelsSoFar states properties n i rows before now) where
    pub labels_all : i ≡ n → (c : Content) → c.states ≡ states → c.properties ≡ properties
        → (ls : List Label) × (rows ≡ label_rows ls) × (n ≡ length ls) × Walks model_rules before.text.now (at (count labels) (with_labels c [])) before.at (at (count arcs) (with_labels c ls)) now.at
    labels_all all c ss ps =
        let r = so_far.read c ss ps in
        let over : n - i ≡ 0 = omega arith in (
          r.list,
          r.marked,
          omega (arith, r.many, all),
          subst (λ k. Walks model_rules before.text.now (at (count labels) (with_labels c [])) before.at (at (due_labels k) (with_labels c r.list)) now.at) over r.walks,
        )

    module _ (lt : i < n) where
      -- the walk, with the label that is due named
      due : (c : Content) (r : LabelsRead c n i rows before now) → Walks model_rules before.text.now (at (count labels) (with_labels c [])) before.at (at (label_state (n - (i + 1))) (with_labels c r.list)) now.at
      due c r =
          let step : n - i ≡ suc (n - (i + 1)) = omega arith in
          subst (λ k. Walks model_rules before.text.now (at (count labels) (with_labels c [])) before.at (at (due_labels k) (with_labels c r.list)) now.at) step r.walks

      pub labels_fail : (f place : ℕ) (after : Reader) → ((c : Content) (m : ℕ) → c.states ≡ states → c.properties ≡ properties → rows ≡ label_rows c.labels → Leaves model_rules now.text.now (at (label_state m) c) now.at f place after.at) → (c : Content) → c.states ≡ states → c.properties ≡ properties → Leaves model_rules before.text.now (at (count labels) (with_labels c [])) before.at f place after.at
      labels_fail f place after h c ss ps =
          let r = so_far.read c ss ps in
          leaves_on model_rules (at (count labels) (with_labels c [])) before (at (label_state (n - (i + 1))) (with_labels c r.list)) now so_far.same (due c r) f place after (h (with_labels c r.list) (n - (i + 1)) ss ps r.marked)

      pub labels_more : (s p : ℕ) (rows' : List (List Bool)) → s < 64 → p < 16 → rows' ≡ set rows s (set (get_or rows s []) p true) → (after : Reader) → after.text ≡ now.text
          → ((c : Content) (m : ℕ) → c.states ≡ states → c.properties ≡ properties → rows ≡ label_rows c.labels → Walks model_rules now.text.now (at (label_state m) c) now.at (at (due_labels m) (with_labels c (c.labels ++ record { state = s; property = p } ∷ []))) after.at)
          → LabelsSoFar states properties n (i + 1) rows' before after
      labels_more s p rows' hs hp is after same h = record {
        same = same ∙ so_far.same;
        read = λ c ss ps.
            let r = so_far.read c ss ps in
            let l : Label = record { state = s; property = p } in
            record {
              list = r.list ++ l ∷ [];
              marked = is ∙ ap (λ xs. set xs s (set (get_or xs s []) p true)) r.marked ∙ rows_mark r.list l hs hp;
              many = omega (arith, length_push r.list l, r.many);
              walks = walks_on model_rules (at (count labels) (with_labels c [])) before (at (label_state (n - (i + 1))) (with_labels c r.list)) now so_far.same (due c r) _ after (h (with_labels c r.list) (n - (i + 1)) ss ps r.marked);
            };
      }
