-- How a formula sheet is read: which word is due where, what each refuses, and what each adds to what has been read. The names
-- of the actions and of the properties are given.
--
--   alpha_word_of  what a word says where a temporal word wants to know what it speaks over: `{`, or a variable by its number; if
--                anything
--   Due          the word that is due: the count of variables; a variable's name, and how many more behind it; a formula, by the
--                depths at which this one and those behind it stand; what a temporal word speaks over, and the depths of the
--                formulas behind that; a word between its braces, the set so far. None where no formula is due any more.
--   Point        what is due, the variables that were named, and the nodes that were read
--   below        the depths of the parts of a formula at a depth, in front of those of the formulas behind it
--   begun        the point behind the first word of a formula at a depth
--   in_braces    the point by what was read between the braces of a temporal word
--   meets        4 the count is none, or outside 0 to 4; 9 actions times variables are more than 12; 5 the name is not plain;
--                6 it is taken; 7 the word names nothing there; 11 the formula stands deeper than 12; 12 it has a 65th node; 10
--                an action that is named already, or a `}` behind no action
--   formula_rules  the rules of the sheet;  formula_start  its first point
--
-- Assumes nothing.
use Rattle.std.specs.Prelude.{◌≡◌, ℕ, zero, suc, ◌+◌, ◌*◌, ◌<◌, ◌≤◌, Bool, true, false, ◌⊎◌, List, [], ◌∷◌, ◌++◌, length, Some, None, codes, Option}
use Rattle.std.specs.List.{ContainsAt as Has}
use Rattle.words.specs.declared.Letters.TheVariants.{Upper}
use Rattle.words.specs.Words.{counted, named}
use Rattle.words.specs.Walks.{Rules}
use Rattle.formula.specs.declared.Alpha.{Alpha}
use Rattle.formula.specs.declared.Alpha.TheVariants as alphas
use Rattle.formula.specs.declared.Node.{Node}
use Rattle.formula.specs.declared.Node.TheVariants as nodes
use Rattle.formula.specs.declared.heads.Temporal.{Temporal}
use Rattle.formula.specs.declared.heads.Temporal.TheVariants as temporal
use Rattle.formula.specs.declared.heads.Head.{Head}
use Rattle.formula.specs.declared.heads.Head.TheVariants as head
use Rattle.formula.specs.declared.braces.BraceOrName.{BraceOrName}
use Rattle.formula.specs.declared.braces.BraceOrName.TheVariants.{Brace, Name}
use Rattle.formula.specs.Nodes.{arity}
use Rattle.formula.specs.Heads.{head_of}
use Rattle.formula.specs.Braces.{Braces, inside, closed, brace_or_name_of, brace_word_of, brace_meets, brace_after}

abbrev pub alpha_word_of : List ℕ → List (List ℕ) → Option BraceOrName
alpha_word_of = brace_or_name_of (codes "{")

pub data Due : Type 0 where
  count : Due
  name : ℕ → Due
  parts : List ℕ → Due
  alpha : Temporal → List ℕ → Due
  braces : Temporal → List ℕ → ℕ → Due

pub record Point : Type 0 where
  pub due : Due
  pub names : List (List ℕ)
  pub nodes : List Node

abbrev pub temporal_parts : Temporal → ℕ
temporal_parts (temporal.One w) = 1
temporal_parts (temporal.Two w) = 2

abbrev pub node_of : Temporal → Alpha → Node
node_of (temporal.One w) α = nodes.One w α
node_of (temporal.Two w) α = nodes.Two w α

abbrev pub below : ℕ → ℕ → List ℕ → List ℕ
below zero d ds = ds
below (suc k) d ds = (d + 1) ∷ below k d ds

-- the point behind a node, where formulas at these depths are due next
abbrev pub put : Node → List ℕ → List (List ℕ) → List Node → Point
put n ds names before = record { due = parts ds; names = names; nodes = before ++ n ∷ [] }

abbrev pub begun : Head → ℕ → List ℕ → List (List ℕ) → List Node → Point
begun (head.Plain n) d ds names before = put n (below (arity n) d ds) names before
begun (head.Temporal t) d ds names before = record { due = alpha t (below (temporal_parts t) d ds); names = names; nodes = before }

abbrev pub in_braces : Temporal → List ℕ → List (List ℕ) → List Node → Braces → Point
in_braces t ds names before (inside set) = record { due = braces t ds set; names = names; nodes = before }
in_braces t ds names before (closed set) = put (node_of t (alphas.Written set)) ds names before

-- what is due where so many names are to come
abbrev pub due_names : ℕ → Due
due_names zero = parts (1 ∷ [])
due_names (suc k) = name k

abbrev pub over : Due → Bool
over count = false
over (name k) = false
over (parts []) = true
over (parts (d ∷ ds)) = false
over (alpha t ds) = false
over (braces t ds set) = false

abbrev pub count_meets : ℕ → Option ℕ → ℕ → Type 0
count_meets actions None n = n ≡ 4
count_meets actions (Some k) n = (n ≡ 9) × (12 < actions * k)

abbrev pub head_meets : ℕ → ℕ → Option Head → ℕ → Type 0
head_meets d used None n = (n ≡ 7) ⊎ (((n ≡ 11) × (12 < d)) ⊎ ((n ≡ 12) × (64 ≤ used)))
head_meets d used (Some h) n = ((n ≡ 11) × (12 < d)) ⊎ ((n ≡ 12) × (64 ≤ used))

abbrev pub alpha_meets : Option BraceOrName → ℕ → Type 0
alpha_meets None n = n ≡ 7
alpha_meets (Some w) n = ⊥

abbrev pub count_after : Option ℕ → Point → Point
count_after None s = s
count_after (Some k) s = record { due = due_names k; names = s.names; nodes = s.nodes }

abbrev pub head_after : Option Head → ℕ → List ℕ → Point → Point
head_after None d ds s = s
head_after (Some h) d ds s = begun h d ds s.names s.nodes

abbrev pub alpha_after : Option BraceOrName → Temporal → List ℕ → Point → Point
alpha_after None t ds s = s
alpha_after (Some Brace) t ds s = in_braces t ds s.names s.nodes (inside 0)
alpha_after (Some (Name y)) t ds s = put (node_of t (alphas.Variable y)) ds s.names s.nodes

module _ (actions properties : List (List ℕ)) where
  abbrev pub meets : Point → Due → List ℕ → ℕ → Type 0
  meets s count w n = count_meets (length actions) (counted w 0 4) n
  meets s (name k) w n = ((n ≡ 5) × (named Upper w ≡ false)) ⊎ ((n ≡ 6) × Has s.names w)
  meets s (parts []) w n = ⊥
  meets s (parts (d ∷ ds)) w n = head_meets d (length s.nodes) (head_of w properties) n
  meets s (alpha t ds) w n = alpha_meets (alpha_word_of w s.names) n
  meets s (braces t ds set) w n = brace_meets set (brace_word_of w actions) n

  abbrev pub after : Point → Due → List ℕ → Point
  after s count w = count_after (counted w 0 4) s
  after s (name k) w = record { due = due_names k; names = s.names ++ w ∷ []; nodes = s.nodes }
  after s (parts []) w = s
  after s (parts (d ∷ ds)) w = head_after (head_of w properties) d ds s
  after s (alpha t ds) w = alpha_after (alpha_word_of w s.names) t ds s
  after s (braces t ds set) w = in_braces t ds s.names s.nodes (brace_after set (brace_word_of w actions))

  abbrev pub formula_rules : Rules Point
  formula_rules = record { over = λ s. over s.due; meets = λ s w n. meets s s.due w n; after = λ s w. after s s.due w }

abbrev pub formula_start : Point
formula_start = record { due = count; names = []; nodes = [] }
