-- One word of a model sheet: what is due behind it if it fits, and the number that it meets if it does not.
use Rattle.std.proofs.Common.{◌≡◌, ℕ, ◌<◌, true, false, List, [], ◌∷◌, ◌++◌, Some, None, Option, unwrap_or, sym, refl, ap, ◌∙◌, subst, inl, inr, arith}
use Rattle.std.specs.List.{ContainsAt as Has}
use Rattle.words.specs.declared.Letters.TheVariants.{Lower}
use Rattle.words.specs.Words.{WordAt, Clean, bytes_of, counted, named, lookup}
use Rattle.words.specs.Walks.{First, Fits, Walks}
use Rattle.words.proofs.Readers as readers
use Rattle.words.proofs.Walks.{walks_one}
use Rattle.model.specs.declared.names.Names.{Names}
use Rattle.model.specs.declared.names.Names.TheVariants.{States, Actions, Properties}
use Rattle.model.specs.Content.{Content, Label, Section, fewest, most, names_of, Taken}
use Rattle.logic.specs.Table.{Arc}
use Rattle.model.specs.Rules.{Due, Point, count, name, label_state, label_property, arc_from, arc_action, arc_to, due_names, due_labels, due_arcs, due_items, with_names, with_labels, with_arcs, over, Unnamed, meets, after, model_rules, at}

pub names_given : (k : Names) (c : Content) (ws : List (List ℕ)) → names_of (with_names k c ws) k ≡ ws
names_given States c ws = refl
names_given Actions c ws = refl
names_given Properties c ws = refl

pub names_again : (k : Names) (c : Content) (vs ws : List (List ℕ)) → with_names k (with_names k c vs) ws ≡ with_names k c ws
names_again States c vs ws = refl
names_again Actions c vs ws = refl
names_again Properties c vs ws = refl

some_none : {X : Type 0} {o : Option X} {x : X} → o ≡ Some x → o ≡ None → ⊥
some_none p q = let z : ◌≡◌ {A = ℕ} 0 1 = cc in omega arith

pub same_some : {X : Type 0} {x y : X} → ◌≡◌ {A = Option X} (Some x) (Some y) → x ≡ y
same_some p = cc

module _ (c : Content) (w : List ℕ) where
  abbrev pub Fit : Due → Point → Type 0
  Fit d t = Fits model_rules (at d c) w × (after c d w ≡ t)

  abbrev pub Met : Due → ℕ → Type 0
  Met d n = First (meets c d w) n

  -- the one number that a word can meet at some dues
  only : (d : Due) (k : ℕ) (P : Type 0) → ((n : ℕ) → meets c d w n → (n ≡ k) × P) → meets c d w k → Met d k
  only d k P one met = record { met = met; least = λ m lt h. omega (arith, lt, (one m h).0) }

  pub count_fits : (k : Section) (n : ℕ) → counted w (fewest k) (most k) ≡ Some n → Fit (count k) (at (due_items k n) c)
  count_fits k n is = (λ m h. some_none is h.1, ap (λ o. at (due_items k (unwrap_or o 0)) c) is)

  pub count_met : (k : Section) → counted w (fewest k) (most k) ≡ None → Met (count k) 4
  count_met k is = only (count k) 4 _ (λ n h. h) (refl, is)

  module _ (k : Names) (m : ℕ) where
    pub name_fits : named Lower w ≡ true → (Taken c k w → ⊥) → Fit (name k m) (at (due_names k m) (with_names k c (names_of c k ++ w ∷ [])))
    name_fits plain free = (readers.name_fits Lower w (Taken c k w) plain free, refl)

    pub name_bad : named Lower w ≡ false → Met (name k m) 5
    name_bad bad = readers.name_bad Lower w (Taken c k w) bad

    pub name_taken : named Lower w ≡ true → Taken c k w → Met (name k m) 6
    name_taken plain taken = readers.name_taken Lower w (Taken c k w) plain taken

  pub label_state_fits : (m s : ℕ) → lookup w c.states ≡ Some s → Fit (label_state m) (at (label_property m s) c)
  label_state_fits m s is = (λ n h. some_none is h.1, ap (λ o. at (label_property m (unwrap_or o 0)) c) is)

  pub label_state_met : (m : ℕ) → Unnamed c.states w → Met (label_state m) 7
  label_state_met m is = only (label_state m) 7 _ (λ n h. h) (refl, is)

  module _ (m s : ℕ) where
    abbrev the_label : ℕ → Label
    the_label p = record { state = s; property = p }

    pub label_property_fits : (p : ℕ) → lookup w c.properties ≡ Some p → (Has c.labels (the_label p) → ⊥) → Fit (label_property m s) (at (due_labels m) (with_labels c (c.labels ++ the_label p ∷ [])))
    label_property_fits p is free =
        (fits, ap (λ o. at (due_labels m) (with_labels c (c.labels ++ the_label (unwrap_or o 0) ∷ []))) is)
      where
        fits : (n : ℕ) → meets c (label_property m s) w n → ⊥
        fits n (inl h) = some_none is h.1
        fits n (inr h) = free (subst (λ q. Has c.labels (the_label q)) (same_some (sym h.1.1 ∙ is)) h.1.2)

    pub label_property_met : Unnamed c.properties w → Met (label_property m s) 7
    label_property_met is = record { met = inl (refl, is); least = least }
      where
        least : (n : ℕ) → n < 7 → meets c (label_property m s) w n → ⊥
        least n lt (inl h) = omega (arith, lt, h.0)
        least n lt (inr h) = omega (arith, lt, h.0)

    pub label_again : (p : ℕ) → lookup w c.properties ≡ Some p → Has c.labels (the_label p) → Met (label_property m s) 8
    label_again p is has = record { met = inr (refl, (p, is, has)); least = least }
      where
        least : (n : ℕ) → n < 8 → meets c (label_property m s) w n → ⊥
        least n lt (inl h) = some_none is h.1
        least n lt (inr h) = omega (arith, lt, h.0)

  pub arc_from_fits : (m s : ℕ) → lookup w c.states ≡ Some s → Fit (arc_from m) (at (arc_action m s) c)
  arc_from_fits m s is = (λ n h. some_none is h.1, ap (λ o. at (arc_action m (unwrap_or o 0)) c) is)

  pub arc_from_met : (m : ℕ) → Unnamed c.states w → Met (arc_from m) 7
  arc_from_met m is = only (arc_from m) 7 _ (λ n h. h) (refl, is)

  pub arc_action_fits : (m s a : ℕ) → lookup w c.actions ≡ Some a → Fit (arc_action m s) (at (arc_to m s a) c)
  arc_action_fits m s a is = (λ n h. some_none is h.1, ap (λ o. at (arc_to m s (unwrap_or o 0)) c) is)

  pub arc_action_met : (m s : ℕ) → Unnamed c.actions w → Met (arc_action m s) 7
  arc_action_met m s is = only (arc_action m s) 7 _ (λ n h. h) (refl, is)

  module _ (m s a : ℕ) where
    abbrev the_arc : ℕ → Arc
    the_arc t = record { from = s; action = a; to = t }

    pub arc_to_fits : (t : ℕ) → lookup w c.states ≡ Some t → (Has c.arcs (the_arc t) → ⊥) → Fit (arc_to m s a) (at (due_arcs m) (with_arcs c (c.arcs ++ the_arc t ∷ [])))
    arc_to_fits t is free = (fits, ap (λ o. at (due_arcs m) (with_arcs c (c.arcs ++ the_arc (unwrap_or o 0) ∷ []))) is)
      where
        fits : (n : ℕ) → meets c (arc_to m s a) w n → ⊥
        fits n (inl h) = some_none is h.1
        fits n (inr h) = free (subst (λ q. Has c.arcs (the_arc q)) (same_some (sym h.1.1 ∙ is)) h.1.2)

    pub arc_to_met : Unnamed c.states w → Met (arc_to m s a) 7
    arc_to_met is = record { met = inl (refl, is); least = least }
      where
        least : (n : ℕ) → n < 7 → meets c (arc_to m s a) w n → ⊥
        least n lt (inl h) = omega (arith, lt, h.0)
        least n lt (inr h) = omega (arith, lt, h.0)

    pub arc_again : (t : ℕ) → lookup w c.states ≡ Some t → Has c.arcs (the_arc t) → Met (arc_to m s a) 8
    arc_again t is has = record { met = inr (refl, (t, is, has)); least = least }
      where
        least : (n : ℕ) → n < 8 → meets c (arc_to m s a) w n → ⊥
        least n lt (inl h) = some_none is h.1
        least n lt (inr h) = omega (arith, lt, h.0)

-- the word that stands next leads on if it fits
pub goes : (text : List ℕ) (from : ℕ) (c : Content) (start end : ℕ) → WordAt text from start end → Clean text start end → (d : Due) (t : Point) → over d ≡ false → Fit c (bytes_of text start end) d t → Walks model_rules text (at d c) from t end
goes text from c start end word clean d t due fit =
    walks_one model_rules text (at d c) from t end (record { due = due; start = start; word = word; clean = clean; fits = fit.0; goes = fit.1 })
