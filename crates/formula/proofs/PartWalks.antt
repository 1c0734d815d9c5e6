-- A formula whose parts are read one after the other.
use Rattle.std.proofs.Common.{◌≡◌, ℕ, suc, ◌+◌, ◌≤◌, List, [], ◌∷◌, ◌++◌, length, take, sym, refl, ap, ◌∙◌, arith}
use Rattle.std.proofs.lemmas.List.{take-take, take_at, length-take}
use Rattle.words.specs.declared.Reader.{Reader}
use Rattle.words.specs.Walks.{Walks, Leaves}
use Rattle.words.proofs.Readers.{walks_on, leaves_on}
use Rattle.model.specs.declared.vocabulary.Vocabulary.{Vocabulary}
use Rattle.formula.specs.declared.Node.{Node}
use Rattle.formula.specs.Nodes.{arity}
use Rattle.formula.specs.Rules.{below, put}
use Rattle.formula.specs.Reading.{rules_of, due_parts}

-- what stands in front stays in front
front_more : (before arena arena' : List Node) → take (length before) arena ≡ before → take (length arena) arena' ≡ arena → take (length before) arena' ≡ before
front_more before arena arena' front more =
    let long : length before ≤ length arena = omega (arith, ap length front, length-take (length before) arena) in
    sym (take-take (length before) (length arena) arena' long) ∙ ap (take (length before)) more ∙ front

module _ (v : Vocabulary) (names : List (List ℕ)) (r : Reader) (depth : ℕ) (before : List Node) where
  -- Where so many parts are still to come: the nodes behind those in front are those of the walk so far.
  pub record SoFar (left : ℕ) (arena : List Node) (m : Reader) : Type 0 where
    pub same : m.text ≡ r.text
    pub front : take (length before) arena ≡ before
    pub walked : (ds : List ℕ) → Walks (rules_of v) r.text.now (due_parts (depth ∷ ds) names before) r.at (due_parts (below left depth ds) names arena) m.at

  -- behind the node itself all its parts are to come
  pub so_far_none : (node : Node) (m : Reader) → m.text ≡ r.text
      → ((ds : List ℕ) (before' : List Node) → length before' ≡ length before → Walks (rules_of v) r.text.now (due_parts (depth ∷ ds) names before') r.at (put node (below (arity node) depth ds) names before') m.at)
      → SoFar (arity node) (before ++ node ∷ []) m
  so_far_none node m same node_walks = record {
    same = same;
    front = take_at before (node ∷ []) (length before) refl;
    walked = λ ds. node_walks ds before refl;
  }

  module _ (left : ℕ) (arena : List Node) (m : Reader) (far : SoFar (suc left) arena m) where
    pub so_far_front : (arena' : List Node) → take (length arena) arena' ≡ arena → take (length before) arena' ≡ before
    so_far_front arena' more = front_more before arena arena' far.front more

    pub so_far_more : (arena' : List Node) (after : Reader) → after.text ≡ m.text → take (length arena) arena' ≡ arena
        → ((ds : List ℕ) → Walks (rules_of v) m.text.now (due_parts ((depth + 1) ∷ ds) names arena) m.at (due_parts ds names arena') after.at)
        → SoFar left arena' after
    so_far_more arena' after same more part_walks = record {
      same = same ∙ far.same;
      front = so_far_front arena' more;
      walked = λ ds. walks_on (rules_of v) (due_parts (depth ∷ ds) names before) r (due_parts (below (suc left) depth ds) names arena) m far.same (far.walked ds) (due_parts (below left depth ds) names arena') after (part_walks (below left depth ds));
    }

    pub so_far_fails : (n at : ℕ) (after : Reader) → ((ds : List ℕ) → Leaves (rules_of v) m.text.now (due_parts ((depth + 1) ∷ ds) names arena) m.at n at after.at) → (ds : List ℕ) → Leaves (rules_of v) r.text.now (due_parts (depth ∷ ds) names before) r.at n at after.at
    so_far_fails n at after part_fails ds =
        leaves_on (rules_of v) (due_parts (depth ∷ ds) names before) r (due_parts (below (suc left) depth ds) names arena) m far.same (far.walked ds) n at after (part_fails (below left depth ds))
