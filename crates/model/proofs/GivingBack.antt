-- What a value of a content gives back: its names and its table; and in every table the arcs stay inside.
use Rattle.std.proofs.Common.{◌≡◌, ℕ, ◌<◌, ◌≤◌, min, true, false, ltb, List, [], ◌∷◌, map, length, get_or, take, filter, sym, refl, ap, ◌∙◌, ⊎_elim, arith}
use Rattle.std.specs.List.{ContainsAt as Has, AllByRecursion}
use Rattle.std.proofs.ByRecursion.{all-has, All-weaker, kept_by_passes}
use Rattle.std.proofs.lemmas.List.{length-map, get_or_past}
use Rattle.std.proofs.lemmas.Bool.{cases_lt, cases_Bool, and_parts, and_from, lt-ltb, ltb-true, cond-true}
use Rattle.logic.specs.Table as logic
use Rattle.logic.specs.Table.{Fits}
use Rattle.words.specs.declared.Letters.TheVariants.{Lower}
use Rattle.words.specs.Words.{name_bytes, name_from, named}
use Rattle.words.proofs.Words.{kept_whole}
use Rattle.model.specs.declared.names.Names.TheVariants.{States, Actions, Properties}
use Rattle.model.specs.Content.{Content, Label}
use Rattle.model.specs.Grammar.{Admissible}
use Rattle.model.specs.Values.{padded, blank_name, blank_arc, arc_of, single, labelled, label_rows, model_of, inside, table_of}
use Rattle.model.specs.Laws.{Meant, GivesBack, TablesAreSound}
use Rattle.model.proofs.Cells.{take_padded}
use Rattle.model.proofs.Members.{name_short}
use Rattle.model.proofs.Rows.{rows_cell, rows_long, rows_width, labelled_decides}

names_back : (n : ℕ) (ws : List (List ℕ)) → AllByRecursion (λ w. named Lower w ≡ true) ws → map name_bytes (take (length ws) (padded n blank_name (map name_from ws))) ≡ ws
names_back n ws plain = ap (map name_bytes) (take_padded n blank_name (map name_from ws) (length ws) (length-map ws name_from)) ∙ each ws plain
  where
    each : (vs : List (List ℕ)) → AllByRecursion (λ w. named Lower w ≡ true) vs → map name_bytes (map name_from vs) ≡ vs
    each [] h = refl
    each (v ∷ vs) h = λ i. kept_whole v (name_short v h.0) i ∷ each vs h.1 i

arcs_same : (es : List logic.Arc) → map single (map arc_of es) ≡ es
arcs_same [] = refl
arcs_same (e ∷ es) = ap (λ ds. e ∷ ds) (arcs_same es)

kept_all : (states actions : ℕ) (es : List logic.Arc) → AllByRecursion (Fits states actions) es → filter (inside states actions) es ≡ es
kept_all states actions [] h = refl
kept_all states actions (e ∷ es) h =
    let f = h.0 in
    let pass : inside states actions e ≡ true =
    and_from _ _ (lt-ltb e.from states f.from_inside) (and_from _ _ (lt-ltb e.action actions f.action_inside) (lt-ltb e.to states f.to_inside)) in
    cond-true _ _ _ pass ∙ ap (λ ds. e ∷ ds) (kept_all states actions es h.1)

-- a cell outside the rows is blank, and no label stands there
outside : (ls : List Label) (s p : ℕ) → (Has ls (record { state = s; property = p }) → ⊥) → get_or (get_or (label_rows ls) s []) p false ≡ false → get_or (get_or (label_rows ls) s []) p false ≡ labelled ls s p
outside ls s p none blank =
    blank ∙ ⊎_elim (λ (e : labelled ls s p ≡ true). absurd (none ((labelled_decides ls s p).0 e))) (λ (e : labelled ls s p ≡ false). sym e) (cases_Bool (labelled ls s p))

module _ (c : Content) (a : Admissible c) where
  within_label : (s p : ℕ) → Has c.labels (record { state = s; property = p }) → (s < 64) × (p < 16)
  within_label s p h =
      let inside = all-has _ c.labels (record { state = s; property = p }) a.labels_inside h in
      (omega (arith, inside.0, (a.few_names States).1), omega (arith, inside.1, (a.few_names Properties).1))

  label_back : (s p : ℕ) → get_or (get_or (label_rows c.labels) s []) p false ≡ labelled c.labels s p
  label_back s p =
      ⊎_elim
      (λ (hs : s < 64).
      ⊎_elim
      (λ (hp : p < 16). rows_cell c.labels s p hs hp)
      (λ (hp : 16 ≤ p). outside c.labels s p (λ h. omega (arith, (within_label s p h).1)) (get_or_past (get_or (label_rows c.labels) s []) p false (omega (arith, rows_width c.labels s hs))))
      (cases_lt p 16))
      (λ (hs : 64 ≤ s). outside c.labels s p (λ h. omega (arith, (within_label s p h).0)) (ap (λ row. get_or row p false) (get_or_past (label_rows c.labels) s [] (omega (arith, rows_long c.labels)))))
      (cases_lt s 64)

  arcs_back : filter (inside (min (length c.states) 64) (min (length c.actions) 12)) (map single (take (length c.arcs) (padded 512 blank_arc (map arc_of c.arcs)))) ≡ c.arcs
  arcs_back =
      let s : min (length c.states) 64 ≡ length c.states = omega (arith, (a.few_names States).1) in
      let k : min (length c.actions) 12 ≡ length c.actions = omega (arith, (a.few_names Actions).1) in
      (λ i. filter (inside (s i) (k i)) (map single (take_padded 512 blank_arc (map arc_of c.arcs) (length c.arcs) (length-map c.arcs arc_of) i)))
      ∙ ap (filter (inside (length c.states) (length c.actions))) (arcs_same c.arcs)
      ∙ kept_all (length c.states) (length c.actions) c.arcs a.arcs_inside

  table_back : table_of (model_of c).table ≡ Meant c
  table_back =
      let s : min (length c.states) 64 ≡ length c.states = omega (arith, (a.few_names States).1) in
      let k : min (length c.actions) 12 ≡ length c.actions = omega (arith, (a.few_names Actions).1) in
      let p : min (length c.properties) 16 ≡ length c.properties = omega (arith, (a.few_names Properties).1) in
      λ i. record { states = s i; actions = k i; properties = p i; label = λ x y. label_back x y i; arcs = arcs_back i }

pub gives_back : GivesBack
gives_back c a = record {
  states = names_back 64 c.states (a.given States).plain;
  actions = names_back 12 c.actions (a.given Actions).plain;
  properties = names_back 16 c.properties (a.given Properties).plain;
  table = table_back c a;
}

pub tables_are_sound : TablesAreSound
tables_are_sound t =
    All-weaker (λ e. inside (table_of t).states (table_of t).actions e ≡ true) (Fits (table_of t).states (table_of t).actions)
    (λ e h.
    let x = and_parts (ltb e.from (table_of t).states) _ h in
    let y = and_parts (ltb e.action (table_of t).actions) _ x.1 in
    record { from_inside = ltb-true _ _ x.0; action_inside = ltb-true _ _ y.0; to_inside = ltb-true _ _ y.1 })
    (table_of t).arcs
    (kept_by_passes (inside (table_of t).states (table_of t).actions) (map single (take t.arc_count t.arcs)))
