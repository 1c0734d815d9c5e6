-- An answer that rests on one word, by the rules of the sheet: a count leads to the items of its section, a name to its number.
use Rattle.std.proofs.Common.{◌≡◌, ℕ, false, List, Some, None, Result, sym, refl, ap, ◌∙◌, subst}
use Rattle.words.specs.declared.Fault.{Fault}
use Rattle.words.specs.declared.Reader.{Reader}
use Rattle.words.specs.Words.{counted, lookup}
use Rattle.words.specs.Walks.{Reads}
use Rattle.words.specs.Readers.{Counts, LooksUp}
use Rattle.words.proofs.Readers.{takes_reads}
use Rattle.model.specs.Content.{Content, Section, fewest, most}
use Rattle.model.specs.Rules.{Due, Point, at, count, label_state, label_property, arc_from, arc_action, arc_to, due_items, over, model_rules}
use Rattle.model.proofs.Steps.{Fit, Met, count_fits, count_met, label_state_fits, label_state_met, arc_from_fits, arc_from_met, arc_action_fits, arc_action_met}

module _ (c : Content) (r after : Reader) where
  pub count_reads : (k : Section) (low high : ℕ) → low ≡ fewest k → high ≡ most k → (result : Result ℕ Fault) → Counts r low high result after → Reads model_rules (at (count k) c) r result (λ n. at (due_items k n) c) after
  count_reads k low high is_low is_high result h =
      takes_reads model_rules (at (count k) c) r after refl (λ w n. counted w low high ≡ Some n) (λ w n. (n ≡ 4) × (counted w low high ≡ None)) (λ n. at (due_items k n) c)
      (λ w n is. count_fits c w k n (limits w ∙ is))
      (λ w n is. subst (Met c w (count k)) (sym is.0) (count_met c w k (limits w ∙ is.1))) result h
    where
      limits : (w : List ℕ) → counted w (fewest k) (most k) ≡ counted w low high
      limits w = ap (λ n. counted w n (most k)) (sym is_low) ∙ ap (λ n. counted w low n) (sym is_high)

  looks : (d : Due) (to : ℕ → Point) (names given : List (List ℕ)) → names ≡ given → over d ≡ false → ((w : List ℕ) (i : ℕ) → lookup w names ≡ Some i → Fit c w d (to i)) → ((w : List ℕ) → lookup w names ≡ None → Met c w d 7) → (result : Result ℕ Fault) → LooksUp r given result after → Reads model_rules (at d c) r result to after
  looks d to names given same due fits met result h =
      takes_reads model_rules (at d c) r after due (λ w i. lookup w given ≡ Some i) (λ w n. (n ≡ 7) × (lookup w given ≡ None)) to
      (λ w i is. fits w i (ap (lookup w) same ∙ is))
      (λ w n is. subst (Met c w d) (sym is.0) (met w (ap (lookup w) same ∙ is.1))) result h

  module _ (given : List (List ℕ)) (result : Result ℕ Fault) (h : LooksUp r given result after) where
    pub label_state_reads : (m : ℕ) → c.states ≡ given → Reads model_rules (at (label_state m) c) r result (λ s. at (label_property m s) c) after
    label_state_reads m same =
        looks (label_state m) (λ s. at (label_property m s) c) c.states given same refl (λ w s is. label_state_fits c w m s is) (λ w is. label_state_met c w m is) result h

    pub arc_from_reads : (m : ℕ) → c.states ≡ given → Reads model_rules (at (arc_from m) c) r result (λ s. at (arc_action m s) c) after
    arc_from_reads m same =
        looks (arc_from m) (λ s. at (arc_action m s) c) c.states given same refl (λ w s is. arc_from_fits c w m s is) (λ w is. arc_from_met c w m is) result h

    pub arc_action_reads : (m s : ℕ) → c.actions ≡ given → Reads model_rules (at (arc_action m s) c) r result (λ a. at (arc_to m s a) c) after
    arc_action_reads m s same =
        looks (arc_action m s) (λ a. at (arc_to m s a) c) c.actions given same refl (λ w a is. arc_action_fits c w m s a is) (λ w is. arc_action_met c w m s is) result h
