-- What each part of the reader of formula sheets answers: how far it walked by the rules, or how it was refused, and where the
-- reader stands then.
--
--   rules_of     the rules of a sheet against a vocabulary
--   HeadRead     the first word of a formula
--   AlphaRead    what a temporal word speaks over
--   NodeRead     a node, without its parts
--   PartRead     a formula with its parts, from the nodes before it to those that the arena holds
--
-- Assumes nothing.
use Rattle.std.specs.Prelude.{◌≡◌, ℕ, List, ◌∷◌, length, Result}
use Rattle.words.specs.declared.Fault.{Fault}
use Rattle.words.specs.declared.Reader.{Reader}
use Rattle.words.specs.Words.{listed}
use Rattle.words.specs.Walks.{Rules, Reads}
use Rattle.model.specs.declared.vocabulary.Vocabulary.{Vocabulary}
use Rattle.formula.specs.declared.Alpha.{Alpha}
use Rattle.formula.specs.declared.Node.{Node}
use Rattle.formula.specs.declared.heads.Head.{Head}
use Rattle.formula.specs.declared.heads.Temporal.{Temporal}
use Rattle.formula.specs.Nodes.{arity}
use Rattle.formula.specs.Rules.{Point, parts, alpha, node_of, below, put, begun, formula_rules}

abbrev pub rules_of : Vocabulary → Rules Point
rules_of v = formula_rules (listed v.actions) (listed v.properties)

-- formulas at these depths are due next
abbrev pub due_parts : List ℕ → List (List ℕ) → List Node → Point
due_parts ds names before = record { due = parts ds; names = names; nodes = before }

abbrev pub due_alpha : Temporal → List ℕ → List (List ℕ) → List Node → Point
due_alpha t ds names before = record { due = alpha t ds; names = names; nodes = before }

module _ (v : Vocabulary) (r : Reader) where
  abbrev pub HeadRead : ℕ → ℕ → Result Head Fault → Reader → Type 0
  HeadRead depth used result after =
      (ds : List ℕ) (names : List (List ℕ)) (before : List Node) → length before ≡ used
      → Reads (rules_of v) (due_parts (depth ∷ ds) names before) r result (λ h. begun h depth ds names before) after

  module _ (names : List (List ℕ)) where
    abbrev pub AlphaRead : Result Alpha Fault → Reader → Type 0
    AlphaRead result after =
        (t : Temporal) (ds : List ℕ) (before : List Node)
        → Reads (rules_of v) (due_alpha t ds names before) r result (λ α. put (node_of t α) ds names before) after

    abbrev pub NodeRead : ℕ → ℕ → Result Node Fault → Reader → Type 0
    NodeRead depth used result after =
        (ds : List ℕ) (before : List Node) → length before ≡ used
        → Reads (rules_of v) (due_parts (depth ∷ ds) names before) r result (λ n. put n (below (arity n) depth ds) names before) after

    abbrev pub PartRead : ℕ → List Node → List Node → Result (Unit {0}) Fault → Reader → Type 0
    PartRead depth before arena result after =
        (ds : List ℕ)
        → Reads (rules_of v) (due_parts (depth ∷ ds) names before) r result (λ _. due_parts ds names arena) after
