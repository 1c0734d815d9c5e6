-- The words of one arc, and whether an arc stands in a list.
use Rattle.std.proofs.Common.{◌≡◌, ℕ, ◌<◌, Bool, ◌&&◌, eqb, List, [], ◌∷◌, ◌++◌, map, length, Some, Ok, Err, Decides, sym, refl, ap, ◌∙◌, subst, arith}
use Rattle.std.specs.Option.{ok_or}
use Rattle.std.specs.List.{ContainsAt as Has, IsAnyAnswer}
use Rattle.std.proofs.lemmas.List.{get_or-map, length-map}
use Rattle.std.proofs.lemmas.Bool.Decides.{Decides-and, Decides-eqb, Decides-like}
use Rattle.std.proofs.lemmas.List.Elements.{contains_decides}
use Rattle.logic.specs.Table as logic
use Rattle.words.specs.declared.Fault.{Fault}
use Rattle.words.specs.declared.Fault.TheVariants.{NotNamed}
use Rattle.words.specs.declared.Reader.{Reader}
use Rattle.words.specs.declared.Word.{Word}
use Rattle.words.specs.Faults.{number, position}
use Rattle.words.specs.Words.{lookup}
use Rattle.words.specs.Walks.{Walks, Leaves, Found}
use Rattle.words.specs.Readers.{LooksUp}
use Rattle.words.proofs.Readers.{no_word, word_goes, word_stops, walks_on, leaves_on, ok_or_some, ok_or_none}
use Rattle.model.specs.declared.table.Arc.{Arc}
use Rattle.model.specs.Content.{Content}
use Rattle.model.specs.Rules.{arc_from, arc_action, arc_to, due_arcs, at, with_arcs, model_rules}
use Rattle.model.specs.Values.{arc_of, single}
use Rattle.model.proofs.Looks.{arc_from_reads, arc_action_reads}
use Rattle.model.proofs.Steps.{arc_to_fits, arc_to_met, arc_again}

-- arcs are the same if their parts are
abbrev same_arc : Arc → Arc → Bool
same_arc x y = eqb x.from y.from && (eqb x.action y.action && eqb x.to y.to)

same_arc_decides : (x y : Arc) → Decides (same_arc x y) (x ≡ y)
same_arc_decides x y =
    Decides-like (same_arc x y) (λ h. λ i. record { from = h.0 i; action = h.1.0 i; to = h.1.1 i }) (λ h. (ap (λ z. z.from) h, (ap (λ z. z.action) h, ap (λ z. z.to) h)))
    (Decides-and (eqb x.from y.from) (eqb x.action y.action && eqb x.to y.to) (Decides-eqb x.from y.from) (Decides-and (eqb x.action y.action) (eqb x.to y.to) (Decides-eqb x.action y.action) (Decides-eqb x.to y.to)))

-- an arc that is kept stands in its list just where the arc that is meant does
has_single : (xs : List Arc) (x : Arc) → Has xs x → Has (map single xs) (single x)
has_single xs x h = (
  h.0,
  omega (arith, h.1, length-map xs single),
  λ d. get_or-map single xs h.0 (arc_of d) d h.1 ∙ ap single (h.2 (arc_of d)),
)

has_kept : (xs : List Arc) (x : Arc) → Has (map single xs) (single x) → Has xs x
has_kept xs x h =
    let lt : h.0 < length xs = omega (arith, h.1, length-map xs single) in
    (h.0, lt, λ d. ap arc_of (sym (get_or-map single xs h.0 d (single d) lt) ∙ h.2 (single d)))

pub arc_decides : (r : Bool) (xs : List Arc) (x : Arc) (es : List logic.Arc) → es ≡ map single xs → IsAnyAnswer (λ y b. same_arc y x ≡ b) xs r → Decides r (Has es (single x))
arc_decides r xs x es same h =
    subst (λ ys. Decides r (Has ys (single x))) (sym same) (Decides-like r (has_single xs x) (has_kept xs x) (contains_decides same_arc same_arc_decides xs x r h))

module _ (c : Content) (m : ℕ) (states actions : List (List ℕ)) (ss : c.states ≡ states) (acts : c.actions ≡ actions) (r one : Reader) (s : ℕ) (same : one.text ≡ r.text) (first : LooksUp r states (Ok s) one) where
  one_walk : Walks model_rules r.text.now (at (arc_from m) c) r.at (at (arc_action m s) c) one.at
  one_walk = arc_from_reads c r one states (Ok s) first m ss

  pub action_unnamed : (f : Fault) (after : Reader) → LooksUp one actions (Err f) after → Leaves model_rules r.text.now (at (arc_from m) c) r.at (number f) (position f) after.at
  action_unnamed f after h =
      leaves_on model_rules (at (arc_from m) c) r (at (arc_action m s) c) one same one_walk (number f) (position f) after (arc_action_reads c one after actions (Err f) h m s acts)

  module _ (two : Reader) (a : ℕ) (same' : two.text ≡ one.text) (second : LooksUp one actions (Ok a) two) (after : Reader) where
    two_walk : Walks model_rules r.text.now (at (arc_from m) c) r.at (at (arc_to m s a) c) two.at
    two_walk =
        walks_on model_rules (at (arc_from m) c) r (at (arc_action m s) c) one same one_walk (at (arc_to m s a) c) two (arc_action_reads c one two actions (Ok a) second m s acts)

    on : (n place : ℕ) → Leaves model_rules two.text.now (at (arc_to m s a) c) two.at n place after.at → Leaves model_rules r.text.now (at (arc_from m) c) r.at n place after.at
    on n place h = leaves_on model_rules (at (arc_from m) c) r (at (arc_to m s a) c) two (same' ∙ same) two_walk n place after h

    pub no_target : (f : Fault) → Found two (Err f) after → Leaves model_rules r.text.now (at (arc_from m) c) r.at (number f) (position f) after.at
    no_target f h = on (number f) (position f) (no_word model_rules (at (arc_to m s a) c) two after refl f h)

    module _ (w : Word) (found : Found two (Ok w) after) where
      pub target_unnamed : (f : Fault) → Err f ≡ ok_or (lookup w.bytes.now states) (NotNamed w.start) → Leaves model_rules r.text.now (at (arc_from m) c) r.at (number f) (position f) after.at
      target_unnamed f h =
          let none = ok_or_none (lookup w.bytes.now states) (NotNamed w.start) f h in
          subst (λ g. Leaves model_rules r.text.now (at (arc_from m) c) r.at (number g) (position g) after.at) (sym none.1)
          (on 7 w.start (word_stops model_rules (at (arc_to m s a) c) two after refl w 7 found (arc_to_met c w.bytes.now m s a (ap (lookup w.bytes.now) ss ∙ none.0))))

      module _ (t : ℕ) (h : Ok t ≡ ok_or (lookup w.bytes.now states) (NotNamed w.start)) where
        abbrev the_arc : Arc
        the_arc = record { from = s; action = a; to = t }

        named : lookup w.bytes.now c.states ≡ Some t
        named = ap (lookup w.bytes.now) ss ∙ ok_or_some (lookup w.bytes.now states) (NotNamed w.start) t h

        pub arc_taken : Has c.arcs (single the_arc) → Leaves model_rules r.text.now (at (arc_from m) c) r.at 8 w.start after.at
        arc_taken has = on 8 w.start (word_stops model_rules (at (arc_to m s a) c) two after refl w 8 found (arc_again c w.bytes.now m s a t named has))

        pub arc_read : (Has c.arcs (single the_arc) → ⊥) → Walks model_rules r.text.now (at (arc_from m) c) r.at (at (due_arcs m) (with_arcs c (c.arcs ++ single the_arc ∷ []))) after.at
        arc_read free =
            let fit = arc_to_fits c w.bytes.now m s a t named free in
            walks_on model_rules (at (arc_from m) c) r (at (arc_to m s a) c) two (same' ∙ same) two_walk _ after (word_goes model_rules (at (arc_to m s a) c) two after refl w _ found fit.0 fit.1)
