-- What the loop over arcs keeps: the walk from the section's count to the word that is due, and what is written.
use Rattle.std.proofs.Common.{◌≡◌, ℕ, suc, ◌+◌, ◌-◌, ◌<◌, ◌≤◌, List, [], ◌∷◌, ◌++◌, map, length, take, set, replicate, sym, refl, ap, ◌∙◌, subst, arith}
use native.Mathlib.Nat.{sub-zero}
use Rattle.std.proofs.lemmas.List.{length-set, length-map, length-take, take_more_set, map_push}
use Rattle.words.specs.declared.Reader.{Reader}
use Rattle.words.specs.Walks.{Walks, Leaves}
use Rattle.words.proofs.Readers.{walks_on, leaves_on}
use Rattle.model.specs.declared.table.Arc.{Arc}
use Rattle.model.specs.Content.{Content, arcs}
use Rattle.model.specs.Rules.{count, nothing, arc_from, at, due_arcs, with_arcs, model_rules}
use Rattle.model.specs.Values.{padded, blank_arc, arc_of, single}
use Rattle.model.proofs.Cells.{padded_more}

-- i of n arcs are read
pub record ArcsSoFar (states actions : List (List ℕ)) (n i : ℕ) (held : List Arc) (before now : Reader) : Type 0 where
  pub long : length held ≡ 512
  pub few : n ≤ 512
  pub same : now.text ≡ before.text
  pub kept : held ≡ padded 512 blank_arc (map arc_of (map single (take i held)))
  pub walks : (c : Content) → c.states ≡ states → c.actions ≡ actions → Walks model_rules before.text.now (at (count arcs) (with_arcs c [])) before.at (at (due_arcs (n - i)) (with_arcs c (map single (take i held)))) now.at

module _ (states actions : List (List ℕ)) (n : ℕ) (before : Reader) where
  pub arcs_none : (now : Reader) → n ≤ 512 → now.text ≡ before.text → ((c : Content) → Walks model_rules before.text.now (at (count arcs) c) before.at (at (due_arcs n) c) now.at) → ArcsSoFar states actions n 0 (replicate 512 blank_arc) before now
  arcs_none now few same h = record {
    long = refl;
    few = few;
    same = same;
    kept = refl;
    walks = λ c ss acts. subst (λ k. Walks model_rules before.text.now (at (count arcs) (with_arcs c [])) before.at (at (due_arcs k) (with_arcs c [])) now.at) (sym (sub-zero n)) (h (with_arcs c []));
  }

  module _ (i : ℕ) (held : List Arc) (now : Reader) (so_far : ArcsSoFar states actions n i held before now) where
    pub arcs_all : i ≡ n → (c : Content) → c.states ≡ states → c.actions ≡ actions → Walks model_rules before.text.now (at (count arcs) (with_arcs c [])) before.at (at nothing (with_arcs c (map single (take n held)))) now.at
    arcs_all all c ss acts =
        let over : n - i ≡ 0 = omega arith in
        subst (λ k. Walks model_rules before.text.now (at (count arcs) (with_arcs c [])) before.at (at nothing (with_arcs c (map single (take k held)))) now.at) all
        (subst (λ k. Walks model_rules before.text.now (at (count arcs) (with_arcs c [])) before.at (at (due_arcs k) (with_arcs c (map single (take i held)))) now.at) over (so_far.walks c ss acts))

    module _ (lt : i < n) where
      abbrev seen : List Arc
      seen = take i held

      -- the walk, with the arc that is due named
      due : (c : Content) → c.states ≡ states → c.actions ≡ actions → Walks model_rules before.text.now (at (count arcs) (with_arcs c [])) before.at (at (arc_from (n - (i + 1))) (with_arcs c (map single seen))) now.at
      due c ss acts =
          let step : n - i ≡ suc (n - (i + 1)) = omega arith in
          subst (λ k. Walks model_rules before.text.now (at (count arcs) (with_arcs c [])) before.at (at (due_arcs k) (with_arcs c (map single seen))) now.at) step (so_far.walks c ss acts)

      room : i < length held
      room = omega (arith, so_far.long, so_far.few)

      many : length (map arc_of (map single seen)) ≡ i
      many = length-map (map single seen) arc_of ∙ length-map seen single ∙ omega (arith, length-take i held, room)

      pub arcs_fail : (f place : ℕ) (after : Reader) → ((c : Content) (m : ℕ) → c.states ≡ states → c.actions ≡ actions → c.arcs ≡ map single seen → Leaves model_rules now.text.now (at (arc_from m) c) now.at f place after.at) → (c : Content) → c.states ≡ states → c.actions ≡ actions → Leaves model_rules before.text.now (at (count arcs) (with_arcs c [])) before.at f place after.at
      arcs_fail f place after h c ss acts =
          leaves_on model_rules (at (count arcs) (with_arcs c [])) before (at (arc_from (n - (i + 1))) (with_arcs c (map single seen))) now so_far.same (due c ss acts) f place after (h (with_arcs c (map single seen)) (n - (i + 1)) ss acts refl)

      module _ (x : Arc) where
        more : map single (take (i + 1) (set held i x)) ≡ map single seen ++ single x ∷ []
        more = ap (map single) (take_more_set held i x room) ∙ map_push single seen x

        kept_more : set held i x ≡ padded 512 blank_arc (map arc_of (map single (take (i + 1) (set held i x))))
        kept_more =
            ap (λ k. set held k x) (sym many)
            ∙ ap (λ xs. set xs (length (map arc_of (map single seen))) x) so_far.kept
            ∙ padded_more 512 blank_arc (map arc_of (map single seen)) x (omega (arith, many, room, so_far.long))
            ∙ ap (padded 512 blank_arc) (sym (map_push arc_of (map single seen) (single x)))
            ∙ ap (λ es. padded 512 blank_arc (map arc_of es)) (sym more)

        pub arcs_more : (after : Reader) → after.text ≡ now.text → ((c : Content) (m : ℕ) → c.states ≡ states → c.actions ≡ actions → c.arcs ≡ map single seen → Walks model_rules now.text.now (at (arc_from m) c) now.at (at (due_arcs m) (with_arcs c (c.arcs ++ single x ∷ []))) after.at) → ArcsSoFar states actions n (i + 1) (set held i x) before after
        arcs_more after same h = record {
          long = length-set held i x ∙ so_far.long;
          few = so_far.few;
          same = same ∙ so_far.same;
          kept = kept_more;
          walks = λ c ss acts.
              subst (λ es. Walks model_rules before.text.now (at (count arcs) (with_arcs c [])) before.at (at (due_arcs (n - (i + 1))) (with_arcs c es)) after.at) (sym more)
              (walks_on model_rules (at (count arcs) (with_arcs c [])) before (at (arc_from (n - (i + 1))) (with_arcs c (map single seen))) now so_far.same (due c ss acts) _ after (h (with_arcs c (map single seen)) (n - (i + 1)) ss acts refl));
        }
