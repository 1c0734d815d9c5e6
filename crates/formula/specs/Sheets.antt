-- The formula sheet, and what a place holds once one has been read into it.
--
--   Content      what a sheet says: the names of its variables, and a formula
--   NamesStand   the names stand one after the other, each a plain one in capitals
--   FormulaSheet the sheet stands at the front of the text and ends at a position: the count of its variables, their names, each
--                once, and its formula, within the limits
--   formula_of   the value that a content is kept as: blank behind its counts
--   Read         what the answer of the reader says, and what the place then holds
--   Agree        the grammar and the rules say the same: a sheet stands at the front of a text exactly if the walk by the rules
--                comes to its end with what it says
--   OneReading   a text has at most one reading;  NeverBoth  it has no reading and refusal at once;  OneRefusal  it has at
--                most one refusal
--
-- Assumes nothing.
use Rattle.std.specs.Prelude.{◌≡◌, ℕ, ◌*◌, ◌≤◌, true, List, [], ◌∷◌, length, drop, Some, Ok, Err, Result}
use Rattle.std.specs.Borrow.{Bor}
use Rattle.logic.specs.Formulas as logic
use Rattle.words.specs.declared.Fault.{Fault}
use Rattle.words.specs.declared.Letters.TheVariants.{Upper}
use Rattle.words.specs.Faults.{number, position, text_limit}
use Rattle.words.specs.Words.{counted, named, listed}
use Rattle.words.specs.Walks.{Walks, SheetRefused}
use Rattle.model.specs.declared.vocabulary.Vocabulary.{Vocabulary}
use Rattle.model.specs.Grammar.{Once}
use Rattle.model.specs.Values.{padded, names_kept}
use Rattle.formula.specs.declared.Node.TheVariants.{True}
use Rattle.formula.specs.declared.Formula.{Formula}
use Rattle.formula.specs.Nodes.{flat}
use Rattle.formula.specs.Rules.{Point, parts, over, formula_rules, formula_start}
use Rattle.formula.specs.Grammar.{Spells}
use Rattle.formula.specs.Braces.{Stands}

pub record Content : Type 0 where
  pub names : List (List ℕ)
  pub formula : logic.Formula

abbrev pub NamesStand : List ℕ → List (List ℕ) → ℕ → ℕ → Type 0
NamesStand text [] p q = p ≡ q
NamesStand text (w ∷ ws) p q = (m : ℕ) × Stands text p w m × (named Upper w ≡ true) × NamesStand text ws m q

module _ (text : List ℕ) (actions properties : List (List ℕ)) where
  pub record FormulaSheet (c : Content) (end : ℕ) : Type 0 where
    pub short : length text ≤ text_limit
    pub count : List ℕ
    pub counts : counted count 0 4 ≡ Some (length c.names)
    pub bits : length actions * length c.names ≤ 12
    pub names_from : ℕ
    pub count_stands : Stands text 0 count names_from
    pub formula_from : ℕ
    pub names_stand : NamesStand text c.names names_from formula_from
    pub once : Once c.names
    pub spelled : Spells text actions properties c.names c.formula formula_from end
    pub deep : logic.depth c.formula ≤ 12
    pub many : logic.nodes c.formula ≤ 64

  abbrev pub Refusal : ℕ → ℕ → Type 0
  Refusal n at = SheetRefused (formula_rules actions properties) text formula_start n at

abbrev pub formula_of : ℕ → ℕ → Content → Formula
formula_of actions properties c = record {
  nodes = padded 64 True (flat c.formula);
  node_count = logic.nodes c.formula;
  actions = actions;
  properties = properties;
  variables = names_kept 4 c.names;
}

-- the names of a vocabulary
abbrev pub given_action_names : Vocabulary → List (List ℕ)
given_action_names v = listed v.actions

abbrev pub given_property_names : Vocabulary → List (List ℕ)
given_property_names v = listed v.properties

module _ (text : List ℕ) (v : Vocabulary) (before after : Formula) where
  pub record ReadInto (rest : List ℕ) : Type 0 where
    pub content : Content
    pub end : ℕ
    pub sheet : FormulaSheet text (given_action_names v) (given_property_names v) content end
    pub place : after ≡ formula_of (length (given_action_names v)) (length (given_property_names v)) content
    pub remains : rest ≡ drop end text

  pub record Untouched (n at : ℕ) : Type 0 where
    pub refusal : Refusal text (given_action_names v) (given_property_names v) n at
    pub place : after ≡ before

  abbrev pub Read : Result (Bor (List ℕ)) Fault → Type 0
  Read (Ok rest) = ReadInto rest.now
  Read (Err f) = Untouched (number f) (position f)

-- the point where a sheet with this content has been read
abbrev pub read_point : Content → Point
read_point c = record { due = parts []; names = c.names; nodes = flat c.formula }

pub record Agree : Type 0 where
  pub walks :
      (text : List ℕ) (actions properties : List (List ℕ)) (c : Content) (end : ℕ) → FormulaSheet text actions properties c end
      → Walks (formula_rules actions properties) text formula_start 0 (read_point c) end
  pub reads :
      (text : List ℕ) (actions properties : List (List ℕ)) (s : Point) (end : ℕ) → length text ≤ text_limit → over s.due ≡ true
      → Walks (formula_rules actions properties) text formula_start 0 s end
      → (c : Content) × FormulaSheet text actions properties c end × (s ≡ read_point c)

abbrev pub OneReading : Type 0
OneReading =
    (text : List ℕ) (actions properties : List (List ℕ)) (c d : Content) (p q : ℕ)
    → FormulaSheet text actions properties c p → FormulaSheet text actions properties d q → (c ≡ d) × (p ≡ q)

abbrev pub NeverBoth : Type 0
NeverBoth =
    (text : List ℕ) (actions properties : List (List ℕ)) (c : Content) (p n at : ℕ)
    → FormulaSheet text actions properties c p → Refusal text actions properties n at → ⊥

abbrev pub OneRefusal : Type 0
OneRefusal =
    (text : List ℕ) (actions properties : List (List ℕ)) (n at m from : ℕ)
    → Refusal text actions properties n at → Refusal text actions properties m from → (n ≡ m) × (at ≡ from)
