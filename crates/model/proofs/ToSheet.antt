-- A walk to the end of a sheet has read the words of an admissible content. At each point the words so far are those of what
-- has been read, which keeps to the rules so far, and nothing has been read of the sections behind; each step adds its word.
use Rattle.std.proofs.Common.{◌≡◌, ℕ, zero, suc, ◌+◌, ◌≤◌, true, false, List, [], ◌∷◌, ◌++◌, map, length, get_or, Some, unwrap_or, sym, refl, ap, ◌∙◌, subst, inl, inr, ⊎_elim, append_assoc, add-zero, arith}
use Rattle.std.specs.List.{ContainsAt as Has, flat_map}
use Rattle.std.proofs.ByRecursion.{All-push}
use Rattle.std.proofs.lemmas.Bool.{cases_Bool}
use Rattle.logic.specs.Table.{Arc}
use Rattle.words.specs.declared.Letters.TheVariants.{Lower}
use Rattle.words.specs.Faults.{text_limit}
use Rattle.words.specs.Words.{WordAt, Clean, bytes_of, counted, named, lookup}
use Rattle.words.specs.Walks.{Walk, Walks}
use Rattle.words.proofs.Words.{never_both}
use Rattle.model.specs.declared.names.Names.{Names}
use Rattle.model.specs.declared.names.Names.TheVariants.{States, Actions, Properties}
use Rattle.model.specs.Content.{Content, Label, Section, names, labels, arcs, fewest, most, names_of, Taken}
use Rattle.model.specs.Rules.{Due, Point, at, count, name, label_state, label_property, arc_from, arc_action, arc_to, nothing, due_items, due_names, due_labels, due_arcs, with_names, with_labels, with_arcs, over, meets, after, no_content, model_rules, model_start}
use Rattle.model.specs.Grammar.{Item, number, word, Says, Next, Spells, names_section, label_items, arc_items, sheet_items, Given, Within, ModelSheet}
use Rattle.words.proofs.Lookups.{lookup_is}
use Rattle.model.proofs.Onces.{once_push, all_right}
use Rattle.model.proofs.Spelling.{spells_push, spells_says, counted_within}
use Rattle.model.proofs.SoFar.{part, label_part, arc_part, before, names_part, labels_part, state_word, action_word, so_far, Told, on_option, names_so_far, labels_so_far, arcs_so_far, names_wait, labels_wait, arcs_wait, fresh_names, fresh_tail, before_with, fresh_with, same_given, sound_with, part_more, label_part_more, arc_part_more}

module _ (text : List ℕ) (p start q : ℕ) (stands : WordAt text p start q) (clean : Clean text start q) where
  abbrev w : List ℕ
  w = bytes_of text start q

  next : (i : Item) → Says i w → Next text p i q
  next i says = record { start = start; stands = stands; clean = clean; says = says }

  -- the word of a number
  numbered : (given : List (List ℕ)) (i : ℕ) → lookup w given ≡ Some i → w ≡ get_or given i []
  numbered given i h = sym (lookup_is w given i h).1

  module _ (c : Content) where
    told_count : (k : Section) (n : ℕ) → Told text (at (count k) c) p → counted w (fewest k) (most k) ≡ Some n → Told text (at (due_items k n) c) q
    told_count (names k) n t is =
        let f = fresh_names k c t.waiting in
        let none : part k c n ≡ number (names k) n ∷ [] = ap (λ ws. number (names k) (length ws + n) ∷ map word ws) f.0 ∙ ap (λ m. number (names k) m ∷ []) (omega arith) in
        record {
          spells = subst (λ is. Spells text 0 is q) (sym (names_so_far k n c ∙ ap (λ is. before k c ++ is) none)) (spells_push text (before k c) (number (names k) n) 0 p q t.spells (next (number (names k) n) is));
          waiting = names_wait k n c f.1;
          sound = t.sound;
        }
    told_count labels n t is =
        let none : label_part c n ≡ number labels n ∷ [] = ap (λ ls. number labels (length ls + n) ∷ flat_map (label_items c) ls) t.waiting.0 ∙ ap (λ m. number labels m ∷ []) (omega arith) in
        record {
          spells = subst (λ is. Spells text 0 is q) (sym (labels_so_far n c ∙ ap (λ is. names_part c ++ is) none)) (spells_push text (names_part c) (number labels n) 0 p q t.spells (next (number labels n) is));
          waiting = labels_wait n c t.waiting.1;
          sound = t.sound;
        }
    told_count arcs n t is =
        let none : arc_part c n ≡ number arcs n ∷ [] = ap (λ es. number arcs (length es + n) ∷ flat_map (arc_items c) es) t.waiting ∙ ap (λ m. number arcs m ∷ []) (omega arith) in
        record {
          spells = subst (λ is. Spells text 0 is q) (sym (arcs_so_far n c ∙ ap (λ is. labels_part c ++ is) none)) (spells_push text (labels_part c) (number arcs n) 0 p q t.spells (next (number arcs n) is));
          waiting = arcs_wait n c;
          sound = t.sound;
        }

    told_name : (k : Names) (m : ℕ) → Told text (at (name k m) c) p → named Lower w ≡ true → (Taken c k w → ⊥) → Told text (at (due_names k m) (with_names k c (names_of c k ++ w ∷ []))) q
    told_name k m t plain free =
        let ws = names_of c k in
        let c' = with_names k c (ws ++ w ∷ []) in
        let g = t.sound.given k in
        let tail = fresh_tail k c t.waiting in
        let same : so_far (due_names k m) c' ≡ (before k c ++ part k c (suc m)) ++ word w ∷ [] =
        names_so_far k m c' ∙ ap (λ is. is ++ part k c' m) (before_with k c (ws ++ w ∷ [])) ∙ ap (λ is. before k c ++ is) (part_more k c w m) ∙ sym (append_assoc (before k c) (part k c (suc m)) (word w ∷ [])) in
        record {
          spells = subst (λ is. Spells text 0 is q) (sym same) (spells_push text (before k c ++ part k c (suc m)) (word w) 0 p q t.spells (next (word w) refl));
          waiting = names_wait k m c' (fresh_with k c (ws ++ w ∷ []) t.waiting);
          sound = sound_with k c (ws ++ w ∷ []) t.sound tail.0 tail.1 (record {
            plain = All-push _ ws w g.plain plain;
            once = once_push ws w g.once (λ h. free (inl h));
            free = All-push _ ws w g.free (λ h. free (inr h));
          });
        }

    told_label_state : (m s : ℕ) → Told text (at (label_state m) c) p → lookup w c.states ≡ Some s → Told text (at (label_property m s) c) q
    told_label_state m s t is = record {
      spells = spells_push text (so_far (label_state m) c) (word (get_or c.states s [])) 0 p q t.spells (next (word (get_or c.states s [])) (numbered c.states s is));
      waiting = (t.waiting, (lookup_is w c.states s is).0);
      sound = t.sound;
    }

    told_label_property : (m s r : ℕ) → Told text (at (label_property m s) c) p → lookup w c.properties ≡ Some r → (Has c.labels (record { state = s; property = r }) → ⊥) → Told text (at (due_labels m) (with_labels c (c.labels ++ record { state = s; property = r } ∷ []))) q
    told_label_property m s r t is new =
        let l : Label = record { state = s; property = r } in
        let c' = with_labels c (c.labels ++ l ∷ []) in
        let item = word (get_or c.properties r []) in
        let a = names_part c in
        let b = label_part c (suc m) in
        let same : so_far (due_labels m) c' ≡ ((a ++ b) ++ state_word c s) ++ item ∷ [] =
        labels_so_far m c' ∙ ap (λ is. a ++ is) (label_part_more c l m) ∙ sym (append_assoc a b (label_items c l)) ∙ sym (append_assoc (a ++ b) (state_word c s) (item ∷ [])) in
        record {
          spells = subst (λ is. Spells text 0 is q) (sym same) (spells_push text ((a ++ b) ++ state_word c s) item 0 p q t.spells (next item (numbered c.properties r is)));
          waiting = labels_wait m c' t.waiting.0;
          sound = record {
            given = same_given c c' refl refl refl t.sound.given;
            labels_inside = All-push _ c.labels l t.sound.labels_inside (t.waiting.1, (lookup_is w c.properties r is).0);
            labels_once = once_push c.labels l t.sound.labels_once new;
            arcs_inside = t.sound.arcs_inside;
            arcs_once = t.sound.arcs_once;
          };
        }

    told_arc_from : (m s : ℕ) → Told text (at (arc_from m) c) p → lookup w c.states ≡ Some s → Told text (at (arc_action m s) c) q
    told_arc_from m s t is = record {
      spells = spells_push text (so_far (arc_from m) c) (word (get_or c.states s [])) 0 p q t.spells (next (word (get_or c.states s [])) (numbered c.states s is));
      waiting = (lookup_is w c.states s is).0;
      sound = t.sound;
    }

    told_arc_action : (m s a : ℕ) → Told text (at (arc_action m s) c) p → lookup w c.actions ≡ Some a → Told text (at (arc_to m s a) c) q
    told_arc_action m s a t is = record {
      spells = spells_push text (so_far (arc_action m s) c) (word (get_or c.actions a [])) 0 p q t.spells (next (word (get_or c.actions a [])) (numbered c.actions a is));
      waiting = (t.waiting, (lookup_is w c.actions a is).0);
      sound = t.sound;
    }

    told_arc_to : (m s a r : ℕ) → Told text (at (arc_to m s a) c) p → lookup w c.states ≡ Some r → (Has c.arcs (record { from = s; action = a; to = r }) → ⊥) → Told text (at (due_arcs m) (with_arcs c (c.arcs ++ record { from = s; action = a; to = r } ∷ []))) q
    told_arc_to m s a r t is new =
        let e : Arc = record { from = s; action = a; to = r } in
        let c' = with_arcs c (c.arcs ++ e ∷ []) in
        let item = word (get_or c.states r []) in
        let x = labels_part c in
        let y = arc_part c (suc m) in
        let same : so_far (due_arcs m) c' ≡ (((x ++ y) ++ state_word c s) ++ action_word c a) ++ item ∷ [] =
        arcs_so_far m c' ∙ ap (λ is. x ++ is) (arc_part_more c e m) ∙ sym (append_assoc x y (arc_items c e)) ∙ sym (append_assoc (x ++ y) (state_word c s) (word (get_or c.actions a []) ∷ item ∷ [])) ∙ sym (append_assoc ((x ++ y) ++ state_word c s) (action_word c a) (item ∷ [])) in
        record {
          spells = subst (λ is. Spells text 0 is q) (sym same) (spells_push text (((x ++ y) ++ state_word c s) ++ action_word c a) item 0 p q t.spells (next item (numbered c.states r is)));
          waiting = arcs_wait m c';
          sound = record {
            given = same_given c c' refl refl refl t.sound.given;
            labels_inside = t.sound.labels_inside;
            labels_once = t.sound.labels_once;
            arcs_inside = All-push _ c.arcs e t.sound.arcs_inside (record { from_inside = t.waiting.0; action_inside = t.waiting.1; to_inside = (lookup_is w c.states r is).0 });
            arcs_once = once_push c.arcs e t.sound.arcs_once new;
          };
        }

    told_after : (d : Due) → Told text (at d c) p → over d ≡ false → ((n : ℕ) → meets c d w n → ⊥) → Told text (after c d w) q
    told_after (count k) t _ fits =
        on_option (counted w (fewest k) (most k))
        (λ n e. subst (λ o. Told text (at (due_items k (unwrap_or o 0)) c) q) (sym e) (told_count k n t e))
        (λ e. absurd (fits 4 (refl, e)))
    told_after (name k m) t _ fits =
        ⊎_elim
        (λ (e : named Lower w ≡ true). told_name k m t e (λ h. fits 6 (inr (refl, h))))
        (λ (e : named Lower w ≡ false). absurd (fits 5 (inl (refl, e))))
        (cases_Bool (named Lower w))
    told_after (label_state m) t _ fits =
        on_option (lookup w c.states)
        (λ s e. subst (λ o. Told text (at (label_property m (unwrap_or o 0)) c) q) (sym e) (told_label_state m s t e))
        (λ e. absurd (fits 7 (refl, e)))
    told_after (label_property m s) t _ fits =
        on_option (lookup w c.properties)
        (λ r e. subst (λ o. Told text (at (due_labels m) (with_labels c (c.labels ++ record { state = s; property = unwrap_or o 0 } ∷ []))) q) (sym e) (told_label_property m s r t e (λ h. fits 8 (inr (refl, (r, e, h))))))
        (λ e. absurd (fits 7 (inl (refl, e))))
    told_after (arc_from m) t _ fits =
        on_option (lookup w c.states)
        (λ s e. subst (λ o. Told text (at (arc_action m (unwrap_or o 0)) c) q) (sym e) (told_arc_from m s t e))
        (λ e. absurd (fits 7 (refl, e)))
    told_after (arc_action m s) t _ fits =
        on_option (lookup w c.actions)
        (λ a e. subst (λ o. Told text (at (arc_to m s (unwrap_or o 0)) c) q) (sym e) (told_arc_action m s a t e))
        (λ e. absurd (fits 7 (refl, e)))
    told_after (arc_to m s a) t _ fits =
        on_option (lookup w c.states)
        (λ r e. subst (λ o. Told text (at (due_arcs m) (with_arcs c (c.arcs ++ record { from = s; action = a; to = unwrap_or o 0 } ∷ []))) q) (sym e) (told_arc_to m s a r t e (λ h. fits 8 (inr (refl, (r, e, h))))))
        (λ e. absurd (fits 7 (inl (refl, e))))
    told_after nothing t due fits = absurd (never_both true refl due)

told_walk : (text : List ℕ) (n : ℕ) (s : Point) (p : ℕ) (t : Point) (q : ℕ) → Walk model_rules text n s p t q → Told text s p → Told text t q
told_walk text zero s p t q h told = subst (λ u. Told text u q) h.0 (subst (λ k. Told text s k) h.1 told)
told_walk text (suc n) s p t q h told =
    let step = h.2 in
    told_walk text n h.0 h.1 t q h.3
    (subst (λ u. Told text u h.1) step.goes (told_after text p step.start h.1 step.word step.clean s.content s.due told step.due step.fits))

told_start : (text : List ℕ) → Told text model_start 0
told_start text = record {
  spells = refl;
  waiting = (refl, (refl, (refl, (refl, refl))));
  sound = record { given = none_given; labels_inside = tt; labels_once = tt; arcs_inside = tt; arcs_once = tt };
}
  where
    none_given : (k : Names) → Given k (names_of no_content k)
    none_given States = record { plain = tt; once = tt; free = tt }
    none_given Actions = record { plain = tt; once = tt; free = tt }
    none_given Properties = record { plain = tt; once = tt; free = tt }

-- the words of the whole sheet, section by section
whole_part : (k : Names) (c : Content) → part k c 0 ≡ names_section k (names_of c k)
whole_part k c = ap (λ n. number (names k) n ∷ map word (names_of c k)) (add-zero (length (names_of c k)))

whole_items : (c : Content) → so_far nothing c ≡ sheet_items c
whole_items c =
    let l = ap (λ n. number labels n ∷ flat_map (label_items c) c.labels) (add-zero (length c.labels)) in
    let e = ap (λ n. number arcs n ∷ flat_map (arc_items c) c.arcs) (add-zero (length c.arcs)) in
    append_assoc (names_part c) (label_part c 0) (arc_part c 0)
    ∙ append_assoc (before Properties c) (part Properties c 0) (label_part c 0 ++ arc_part c 0)
    ∙ append_assoc (part States c 0) (part Actions c 0) (part Properties c 0 ++ (label_part c 0 ++ arc_part c 0))
    ∙ (λ i. whole_part States c i ++ (whole_part Actions c i ++ (whole_part Properties c i ++ (l i ++ e i))))

pub walks_sheet : (text : List ℕ) (c : Content) (end : ℕ) → length text ≤ text_limit → Walks model_rules text model_start 0 (at nothing c) end → ModelSheet text c end
walks_sheet text c end short w =
    let t = told_walk text w.words model_start 0 (at nothing c) end w.walk (told_start text) in
    let spells : Spells text 0 (sheet_items c) end = subst (λ is. Spells text 0 is end) (whole_items c) t.spells in
    let all = spells_says text (sheet_items c) 0 end spells in
    let P : Item → Type 0 = λ i. (v : List ℕ) × Says i v in
    let a1 = all_right P (names_section States c.states) _ all in
    let a2 = all_right P (names_section Actions c.actions) _ a1 in
    let a3 = all_right P (names_section Properties c.properties) _ a2 in
    let a4 = all_right P (number labels (length c.labels) ∷ flat_map (label_items c) c.labels) _ a3 in
    record {
      short = short;
      admissible = record {
        few_names = few_names (counted_within (names States) _ all.0) (counted_within (names Actions) _ a1.0) (counted_within (names Properties) _ a2.0);
        few_labels = counted_within labels _ a3.0;
        few_arcs = counted_within arcs _ a4.0;
        given = t.sound.given;
        labels_inside = t.sound.labels_inside;
        labels_once = t.sound.labels_once;
        arcs_inside = t.sound.arcs_inside;
        arcs_once = t.sound.arcs_once;
      };
      spells = spells;
    }
  where
    few_names : Within (names States) (length c.states) → Within (names Actions) (length c.actions) → Within (names Properties) (length c.properties) → (k : Names) → Within (names k) (length (names_of c k))
    few_names s a p States = s
    few_names s a p Actions = a
    few_names s a p Properties = p
