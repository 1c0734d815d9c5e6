-- The five sections one behind the other, and the model that they keep.
use Rattle.std.proofs.Common.{◌≡◌, ℕ, ◌≤◌, List, [], map, length, take, ◌∙◌}
use Rattle.logic.specs.Table as logic
use Rattle.words.specs.declared.Fault.{Fault}
use Rattle.words.specs.declared.NameList.{NameList}
use Rattle.words.specs.declared.Reader.{Reader}
use Rattle.words.specs.Faults.{number, position}
use Rattle.words.specs.Words.{listed}
use Rattle.words.specs.Walks.{Walks, Leaves}
use Rattle.words.proofs.Readers.{walks_on, leaves_on}
use Rattle.model.specs.declared.names.Names.{Names}
use Rattle.model.specs.declared.names.Names.TheVariants.{States, Actions, Properties}
use Rattle.model.specs.declared.labels.Labels.{Labels}
use Rattle.model.specs.declared.arcs.ArcList.{ArcList}
use Rattle.model.specs.declared.sections.Sections.{Sections}
use Rattle.model.specs.Content.{Content, Label, names, labels, arcs}
use Rattle.model.specs.Rules.{Point, at, count, behind, nothing, with_names, with_labels, with_arcs, no_content, model_rules, model_start}
use Rattle.model.specs.Values.{padded, blank_arc, arc_of, single, label_rows, names_kept, model_of}
use Rattle.model.specs.Models.{Keeps, gathered, counts_of, SectionsRead}
use Rattle.model.proofs.Cells.{kept_count}

abbrev led : ArcList → List logic.Arc
led x = map single (take x.count x.arcs)

abbrev Named : {cells : ℕ} → Names → Reader → NameList cells → Reader → Type 0
Named k r x after =
    (c : Content) → Walks model_rules r.text.now (at (count (names k)) (with_names k c [])) r.at (at (count (behind k)) (with_names k c (listed x))) after.at

-- the reader leaves off, where a section is due
abbrev Off : Reader → Point → Fault → Reader → Type 0
Off r s f after = Leaves model_rules r.text.now s r.at (number f) (position f) after.at

module _ (start r1 : Reader) (x : NameList 64) (hx : Named States start x r1) (t1 : r1.text ≡ start.text) where
  abbrev c1 : Content
  c1 = with_names States no_content (listed x)

  pub refused_actions : (f : Fault) (after : Reader) → ((c : Content) → Off r1 (at (count (names Actions)) (with_names Actions c [])) f after) → Off start model_start f after
  refused_actions f after h =
      leaves_on model_rules model_start start (at (count (names Actions)) c1) r1 t1 (hx no_content) (number f) (position f) after (h c1)

  module _ (r2 : Reader) (y : NameList 12) (hy : Named Actions r1 y r2) (t2 : r2.text ≡ r1.text) where
    abbrev c2 : Content
    c2 = with_names Actions c1 (listed y)

    walk2 : Walks model_rules start.text.now model_start start.at (at (count (names Properties)) c2) r2.at
    walk2 = walks_on model_rules model_start start (at (count (names Actions)) c1) r1 t1 (hx no_content) (at (count (names Properties)) c2) r2 (hy c1)

    pub refused_properties : (f : Fault) (after : Reader) → ((c : Content) → Off r2 (at (count (names Properties)) (with_names Properties c [])) f after) → Off start model_start f after
    refused_properties f after h =
        leaves_on model_rules model_start start (at (count (names Properties)) c2) r2 (t2 ∙ t1) walk2 (number f) (position f) after (h c2)

    module _ (r3 : Reader) (z : NameList 16) (hz : Named Properties r2 z r3) (t3 : r3.text ≡ r2.text) (ss ps : List (List ℕ)) (is_ss : listed x ≡ ss) (is_ps : listed z ≡ ps) where
      abbrev c3 : Content
      c3 = with_names Properties c2 (listed z)

      walk3 : Walks model_rules start.text.now model_start start.at (at (count labels) c3) r3.at
      walk3 = walks_on model_rules model_start start (at (count (names Properties)) c2) r2 (t2 ∙ t1) walk2 (at (count labels) c3) r3 (hz c2)

      pub refused_labels : (f : Fault) (after : Reader) → ((c : Content) → c.states ≡ ss → c.properties ≡ ps → Off r3 (at (count labels) (with_labels c [])) f after) → Off start model_start f after
      refused_labels f after h =
          leaves_on model_rules model_start start (at (count labels) c3) r3 (t3 ∙ (t2 ∙ t1)) walk3 (number f) (position f) after (h c3 is_ss is_ps)

      module _ (r4 : Reader) (l : Labels) (hl : (c : Content) → c.states ≡ ss → c.properties ≡ ps → (ls : List Label) × (l.rows ≡ label_rows ls) × (l.count ≡ length ls) × Walks model_rules r3.text.now (at (count labels) (with_labels c [])) r3.at (at (count arcs) (with_labels c ls)) r4.at) (t4 : r4.text ≡ r3.text) (ss' acts : List (List ℕ)) (is_ss' : listed x ≡ ss') (is_acts : listed y ≡ acts) where
        abbrev the_labels : List Label
        the_labels = (hl c3 is_ss is_ps).0

        abbrev c4 : Content
        c4 = with_labels c3 the_labels

        walk4 : Walks model_rules start.text.now model_start start.at (at (count arcs) c4) r4.at
        walk4 = walks_on model_rules model_start start (at (count labels) c3) r3 (t3 ∙ (t2 ∙ t1)) walk3 (at (count arcs) c4) r4 (hl c3 is_ss is_ps).3

        pub refused_arcs : (f : Fault) (after : Reader) → ((c : Content) → c.states ≡ ss' → c.actions ≡ acts → Off r4 (at (count arcs) (with_arcs c [])) f after) → Off start model_start f after
        refused_arcs f after h =
            leaves_on model_rules model_start start (at (count arcs) c4) r4 (t4 ∙ (t3 ∙ (t2 ∙ t1))) walk4 (number f) (position f) after (h c4 is_ss' is_acts)

        pub all_read : (r5 : Reader) (e : ArcList) → ((c : Content) → c.states ≡ ss' → c.actions ≡ acts → Walks model_rules r4.text.now (at (count arcs) (with_arcs c [])) r4.at (at nothing (with_arcs c (led e))) r5.at)
            → x ≡ names_kept 64 (listed x) → y ≡ names_kept 12 (listed y) → z ≡ names_kept 16 (listed z) → e.arcs ≡ padded 512 blank_arc (map arc_of (led e)) → e.count ≤ 512
            → SectionsRead start (record { states = x; actions = y; properties = z; labels = l; arcs = e }) r5
        all_read r5 e he kx ky kz ke ne = record {
          content = with_arcs c4 (led e);
          keeps = record {
            states = kx;
            actions = ky;
            properties = kz;
            labels = (hl c3 is_ss is_ps).1;
            label_count = (hl c3 is_ss is_ps).2;
            arcs = ke;
            arc_count = kept_count 512 e.count blank_arc arc_of single e.arcs ke ne;
          };
          walks = walks_on model_rules model_start start (at (count arcs) c4) r4 (t4 ∙ (t3 ∙ (t2 ∙ t1))) walk4 (at nothing (with_arcs c4 (led e))) r5 (he c4 is_ss' is_acts);
        }

module _ (x : Sections) (c : Content) (k : Keeps x c) where
  pub gathered_is : gathered x ≡ model_of c
  gathered_is = λ i. record {
    vocabulary = record { actions = k.actions i; properties = k.properties i };
    states = k.states i;
    table = record { states = (k.states i).count; actions = (k.actions i).count; properties = (k.properties i).count; labels = k.labels i; arcs = k.arcs i; arc_count = k.arc_count i };
  }

  pub counted_is : record { states = x.states.count; actions = x.actions.count; properties = x.properties.count; labels = x.labels.count; arcs = x.arcs.count } ≡ counts_of c
  counted_is = λ i. record { states = (k.states i).count; actions = (k.actions i).count; properties = (k.properties i).count; labels = k.label_count i; arcs = k.arc_count i }
