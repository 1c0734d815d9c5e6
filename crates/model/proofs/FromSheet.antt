-- The words of an admissible content are walked along: each is due where it stands, and fits.
use Rattle.std.proofs.Common.{◌≡◌, ℕ, ◌<◌, true, List, [], ◌∷◌, ◌++◌, map, length, get_or, Some, sym, ap, ◌∙◌, subst, ⊎_elim, append_assoc, refl}
use Rattle.std.specs.List.{ContainsAt as Has, flat_map, AllByRecursion}
use Rattle.std.proofs.lemmas.List.{append-nil}
use Rattle.logic.specs.Table.{Arc, Fits}
use Rattle.words.specs.declared.Letters.TheVariants.{Lower}
use Rattle.words.specs.Words.{bytes_of, named, lookup}
use Rattle.words.specs.Walks.{Walks}
use Rattle.words.proofs.Walks.{walks_none, walks_then}
use Rattle.model.specs.declared.names.Names.{Names}
use Rattle.model.specs.declared.names.Names.TheVariants.{States, Actions, Properties}
use Rattle.model.specs.Content.{Content, Label, Section, names, labels, arcs, names_of, Kept, Taken}
use Rattle.model.specs.Rules.{at, count, name, label_state, label_property, arc_from, arc_action, arc_to, nothing, behind, due_items, due_names, due_labels, due_arcs, with_names, with_labels, with_arcs, no_content, model_rules, model_start}
use Rattle.model.specs.Grammar.{number, word, Next, Spells, names_section, label_items, arc_items, Once, Given, ModelSheet}
use Rattle.model.proofs.Numbers.{lookup_given}
use Rattle.model.proofs.Onces.{once_new}
use Rattle.model.proofs.Spelling.{spells_split}
use Rattle.model.proofs.Steps.{names_given, names_again, goes, count_fits, name_fits, label_state_fits, label_property_fits, arc_from_fits, arc_action_fits, arc_to_fits}

module _ (text : List ℕ) where
  count_next : (c : Content) (p : ℕ) (k : Section) (n q : ℕ) → Next text p (number k n) q → Walks model_rules text (at (count k) c) p (at (due_items k n) c) q
  count_next c p k n q x = goes text p c x.start q x.stands x.clean (count k) _ refl (count_fits c (bytes_of text x.start q) k n x.says)

  -- a word that says a name names its number
  looked : (p : ℕ) (given : List (List ℕ)) (i q : ℕ) → Once given → i < length given → (x : Next text p (word (get_or given i [])) q) → lookup (bytes_of text x.start q) given ≡ Some i
  looked p given i q once lt x = ap (λ w. lookup w given) x.says ∙ lookup_given given i once lt

  name_next : (c : Content) (k : Names) (m p : ℕ) (w : List ℕ) (q : ℕ) → Next text p (word w) q → named Lower w ≡ true → (Taken c k w → ⊥) → Walks model_rules text (at (name k m) c) p (at (due_names k m) (with_names k c (names_of c k ++ w ∷ []))) q
  name_next c k m p w q x =
      subst (λ v. named Lower v ≡ true → (Taken c k v → ⊥) → Walks model_rules text (at (name k m) c) p (at (due_names k m) (with_names k c (names_of c k ++ v ∷ []))) q) x.says
      (λ plain free. goes text p c x.start q x.stands x.clean (name k m) _ refl (name_fits c (bytes_of text x.start q) k m plain free))

  names_walk : (k : Names) (c : Content) (us ws : List (List ℕ)) (p q : ℕ) → Spells text p (map word ws) q → AllByRecursion (λ w. named Lower w ≡ true) ws → AllByRecursion (λ w. Kept k w → ⊥) ws → Once (us ++ ws) → Walks model_rules text (at (due_names k (length ws)) (with_names k c us)) p (at (count (behind k)) (with_names k c (us ++ ws))) q
  names_walk k c us [] p q h _ _ _ =
      subst (λ v. Walks model_rules text (at (count (behind k)) (with_names k c us)) p (at (count (behind k)) (with_names k c v)) q) (sym (append-nil us))
      (subst (λ m. Walks model_rules text (at (count (behind k)) (with_names k c us)) p (at (count (behind k)) (with_names k c us)) m) h (walks_none model_rules text (at (count (behind k)) (with_names k c us)) p))
  names_walk k c us (w ∷ ws) p q h plain free once =
      let d = with_names k c us in
      let new : Taken d k w → ⊥ = ⊎_elim (λ a. once_new us w ws once (subst (λ xs. Has xs w) (names_given k c us) a)) free.0 in
      let same : with_names k d (names_of d k ++ w ∷ []) ≡ with_names k c (us ++ w ∷ []) = names_again k c us _ ∙ ap (λ xs. with_names k c (xs ++ w ∷ [])) (names_given k c us) in
      let step = subst (λ e. Walks model_rules text (at (name k (length ws)) d) p (at (due_names k (length ws)) e) h.0) same (name_next d k (length ws) p w h.0 h.1 plain.0 new) in
      let rest = names_walk k c (us ++ w ∷ []) ws h.0 q h.2 plain.1 free.1 (subst Once (sym (append_assoc us (w ∷ []) ws)) once) in
      walks_then model_rules text (at (name k (length ws)) d) p (at (due_names k (length ws)) (with_names k c (us ++ w ∷ []))) h.0 (at (count (behind k)) (with_names k c (us ++ w ∷ ws))) q step
      (subst (λ xs. Walks model_rules text (at (due_names k (length ws)) (with_names k c (us ++ w ∷ []))) h.0 (at (count (behind k)) (with_names k c xs)) q) (append_assoc us (w ∷ []) ws) rest)

  pub names_section_walk : (k : Names) (c : Content) (ws : List (List ℕ)) (p q : ℕ) → Spells text p (names_section k ws) q → Given k ws → Walks model_rules text (at (count (names k)) (with_names k c [])) p (at (count (behind k)) (with_names k c ws)) q
  names_section_walk k c ws p q h given =
      walks_then model_rules text _ p _ h.0 _ q (count_next (with_names k c []) p (names k) (length ws) h.0 h.1)
      (names_walk k c [] ws h.0 q h.2 given.plain given.free given.once)

  module _ (c : Content) (once_states : Once c.states) where
    labels_walk : Once c.properties → (ms ls : List Label) (p q : ℕ) → Spells text p (flat_map (label_items c) ls) q → AllByRecursion (λ l. (l.state < length c.states) × (l.property < length c.properties)) ls → Once (ms ++ ls) → Walks model_rules text (at (due_labels (length ls)) (with_labels c ms)) p (at (count arcs) (with_labels c (ms ++ ls))) q
    labels_walk once_properties ms [] p q h _ _ =
        subst (λ v. Walks model_rules text (at (count arcs) (with_labels c ms)) p (at (count arcs) (with_labels c v)) q) (sym (append-nil ms))
        (subst (λ m. Walks model_rules text (at (count arcs) (with_labels c ms)) p (at (count arcs) (with_labels c ms)) m) h (walks_none model_rules text (at (count arcs) (with_labels c ms)) p))
    labels_walk once_properties ms (l ∷ ls) p q h inside once =
        let d = with_labels c ms in
        let n = length ls in
        let x = h.1 in
        let y = h.2.1 in
        let one = goes text p d x.start h.0 x.stands x.clean (label_state n) (at (label_property n l.state) d) refl (label_state_fits d (bytes_of text x.start h.0) n l.state (looked p c.states l.state h.0 once_states inside.0.0 x)) in
        let two = goes text h.0 d y.start h.2.0 y.stands y.clean (label_property n l.state) (at (due_labels n) (with_labels c (ms ++ l ∷ []))) refl (label_property_fits d (bytes_of text y.start h.2.0) n l.state l.property (looked h.0 c.properties l.property h.2.0 once_properties inside.0.1 y) (once_new ms l ls once)) in
        let rest = labels_walk once_properties (ms ++ l ∷ []) ls h.2.0 q h.2.2 inside.1 (subst Once (sym (append_assoc ms (l ∷ []) ls)) once) in
        walks_then model_rules text (at (label_state n) d) p (at (label_property n l.state) d) h.0 (at (count arcs) (with_labels c (ms ++ l ∷ ls))) q one
        (walks_then model_rules text (at (label_property n l.state) d) h.0 (at (due_labels n) (with_labels c (ms ++ l ∷ []))) h.2.0 (at (count arcs) (with_labels c (ms ++ l ∷ ls))) q two
        (subst (λ xs. Walks model_rules text (at (due_labels n) (with_labels c (ms ++ l ∷ []))) h.2.0 (at (count arcs) (with_labels c xs)) q) (append_assoc ms (l ∷ []) ls) rest))

    arcs_walk : Once c.actions → (ds es : List Arc) (p q : ℕ) → Spells text p (flat_map (arc_items c) es) q → AllByRecursion (Fits (length c.states) (length c.actions)) es → Once (ds ++ es) → Walks model_rules text (at (due_arcs (length es)) (with_arcs c ds)) p (at nothing (with_arcs c (ds ++ es))) q
    arcs_walk once_actions ds [] p q h _ _ =
        subst (λ v. Walks model_rules text (at nothing (with_arcs c ds)) p (at nothing (with_arcs c v)) q) (sym (append-nil ds))
        (subst (λ m. Walks model_rules text (at nothing (with_arcs c ds)) p (at nothing (with_arcs c ds)) m) h (walks_none model_rules text (at nothing (with_arcs c ds)) p))
    arcs_walk once_actions ds (e ∷ es) p q h inside once =
        let d = with_arcs c ds in
        let n = length es in
        let x = h.1 in
        let y = h.2.1 in
        let z = h.2.2.1 in
        let fits = inside.0 in
        let one = goes text p d x.start h.0 x.stands x.clean (arc_from n) (at (arc_action n e.from) d) refl (arc_from_fits d (bytes_of text x.start h.0) n e.from (looked p c.states e.from h.0 once_states fits.from_inside x)) in
        let two = goes text h.0 d y.start h.2.0 y.stands y.clean (arc_action n e.from) (at (arc_to n e.from e.action) d) refl (arc_action_fits d (bytes_of text y.start h.2.0) n e.from e.action (looked h.0 c.actions e.action h.2.0 once_actions fits.action_inside y)) in
        let three = goes text h.2.0 d z.start h.2.2.0 z.stands z.clean (arc_to n e.from e.action) (at (due_arcs n) (with_arcs c (ds ++ e ∷ []))) refl (arc_to_fits d (bytes_of text z.start h.2.2.0) n e.from e.action e.to (looked h.2.0 c.states e.to h.2.2.0 once_states fits.to_inside z) (once_new ds e es once)) in
        let rest = arcs_walk once_actions (ds ++ e ∷ []) es h.2.2.0 q h.2.2.2 inside.1 (subst Once (sym (append_assoc ds (e ∷ []) es)) once) in
        walks_then model_rules text (at (arc_from n) d) p (at (arc_action n e.from) d) h.0 (at nothing (with_arcs c (ds ++ e ∷ es))) q one
        (walks_then model_rules text (at (arc_action n e.from) d) h.0 (at (arc_to n e.from e.action) d) h.2.0 (at nothing (with_arcs c (ds ++ e ∷ es))) q two
        (walks_then model_rules text (at (arc_to n e.from e.action) d) h.2.0 (at (due_arcs n) (with_arcs c (ds ++ e ∷ []))) h.2.2.0 (at nothing (with_arcs c (ds ++ e ∷ es))) q three
        (subst (λ xs. Walks model_rules text (at (due_arcs n) (with_arcs c (ds ++ e ∷ []))) h.2.2.0 (at nothing (with_arcs c xs)) q) (append_assoc ds (e ∷ []) es) rest)))

  pub sheet_walks : (c : Content) (end : ℕ) → ModelSheet text c end → Walks model_rules text model_start 0 (at nothing c) end
  sheet_walks c end sheet =
      let a = sheet.admissible in
      let c1 = with_names States no_content c.states in
      let c2 = with_names Actions c1 c.actions in
      let c3 = with_names Properties c2 c.properties in
      let c4 = with_labels c3 c.labels in
      let s1 = spells_split text (names_section States c.states) _ 0 end sheet.spells in
      let s2 = spells_split text (names_section Actions c.actions) _ s1.0 end s1.2 in
      let s3 = spells_split text (names_section Properties c.properties) _ s2.0 end s2.2 in
      let s4 = spells_split text (number labels (length c.labels) ∷ flat_map (label_items c) c.labels) _ s3.0 end s3.2 in
      let w1 = names_section_walk States no_content c.states 0 s1.0 s1.1 (a.given States) in
      let w2 = names_section_walk Actions c1 c.actions s1.0 s2.0 s2.1 (a.given Actions) in
      let w3 = names_section_walk Properties c2 c.properties s2.0 s3.0 s3.1 (a.given Properties) in
      let w4 = count_next c3 s3.0 labels (length c.labels) s4.1.0 s4.1.1 in
      let w5 = labels_walk c3 (a.given States).once (a.given Properties).once [] c.labels s4.1.0 s4.0 s4.1.2 a.labels_inside a.labels_once in
      let w6 = count_next c4 s4.0 arcs (length c.arcs) s4.2.0 s4.2.1 in
      let w7 = arcs_walk c4 (a.given States).once (a.given Actions).once [] c.arcs s4.2.0 end s4.2.2 a.arcs_inside a.arcs_once in
      walks_then model_rules text _ 0 _ s1.0 _ end w1
      (walks_then model_rules text _ s1.0 _ s2.0 _ end w2
      (walks_then model_rules text _ s2.0 _ s3.0 _ end w3
      (walks_then model_rules text _ s3.0 _ s4.1.0 _ end w4
      (walks_then model_rules text _ s4.1.0 _ s4.0 _ end w5
      (walks_then model_rules text _ s4.0 _ s4.2.0 _ end w6 w7)))))
