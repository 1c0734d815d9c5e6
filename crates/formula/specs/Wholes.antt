-- What the value of a place means.
--
--   AlphaIn, NodeIn   a variable or property below its number, a set of actions that is not empty and has no others
--   InRange      all of a formula's variables, properties and sets are so
--   Whole        the nodes of a value, up to their count, are those of a formula that is in range of the numbers that it keeps
--   Meaning      a formula, and the numbers of actions, variables and properties that it stands over
--   Means        a whole value means its formula with its numbers; any other means the blank one: `true`, with 0 of everything
--   built        the formulas that nodes make: read from the last to the first, each takes its parts from those behind it
--   covers       whether nodes are, in range, those of so many formulas one behind the other: each takes one of those that are
--                due, and makes its parts due
--   meaning_of   what a value means, computed
--   Meanings     a value is whole by one formula, and what is computed is what it means and the only thing;  ReadWhole  what
--                was read from a sheet is whole
--
-- Assumes nothing.
use Rattle.std.specs.Prelude.{◌≡◌, ℕ, ◌+◌, ◌-◌, ◌^◌, ◌<◌, ◌≤◌, Bool, true, cond, ◌&&◌, ◌⊎◌, List, [], ◌∷◌, length, take, Decides, ◌==◌, nat_le, nat_lt}
use Rattle.logic.specs.Formulas as logic
use Rattle.formula.specs.declared.Alpha.{Alpha}
use Rattle.formula.specs.declared.Alpha.TheVariants.{Variable, Written}
use Rattle.formula.specs.declared.OnePart.{OnePart}
use Rattle.formula.specs.declared.OnePart.TheVariants.{Ex, Eg, Ef, Ax, Ag, Af, Exw, Egw, Efw, Axw, Agw, Afw}
use Rattle.formula.specs.declared.TwoParts.{TwoParts}
use Rattle.formula.specs.declared.TwoParts.TheVariants.{Eu, Au, Euw, Auw}
use Rattle.formula.specs.declared.Node.{Node}
use Rattle.formula.specs.declared.Node.TheVariants.{True, Property, Not, Or, And, One, Two}
use Rattle.formula.specs.declared.Formula.{Formula}
use Rattle.formula.specs.Nodes.{alpha_of, arity, flat}
use Rattle.formula.specs.Sheets.{Content, FormulaSheet, formula_of}

abbrev pub AlphaIn : ℕ → ℕ → Alpha → Type 0
AlphaIn actions variables (Variable y) = y < variables
AlphaIn actions variables (Written c) = (0 < c) × (c < 2 ^ actions)

module _ (actions variables properties : ℕ) where
  abbrev pub NodeIn : Node → Type 0
  NodeIn True = Unit {0}
  NodeIn (Property p) = p < properties
  NodeIn Not = Unit {0}
  NodeIn Or = Unit {0}
  NodeIn And = Unit {0}
  NodeIn (One w α) = AlphaIn actions variables α
  NodeIn (Two w α) = AlphaIn actions variables α

  abbrev pub InRange : logic.Formula → Type 0
  InRange logic.truth = Unit {0}
  InRange (logic.property p) = p < properties
  InRange (logic.neg f) = InRange f
  InRange (logic.or f g) = InRange f × InRange g
  InRange (logic.and f g) = InRange f × InRange g
  InRange (logic.one w α f) = AlphaIn actions variables (alpha_of α) × InRange f
  InRange (logic.two w α f g) = AlphaIn actions variables (alpha_of α) × InRange f × InRange g

pub record Whole (v : Formula) (f : logic.Formula) : Type 0 where
  pub many : v.node_count ≤ 64
  pub nodes : take v.node_count v.nodes ≡ flat f
  pub range : InRange v.actions v.variables.count v.properties f

abbrev pub SomeWhole : Formula → Type 0
SomeWhole v = (f : logic.Formula) × Whole v f

pub record Meaning : Type 0 where
  pub formula : logic.Formula
  pub actions : ℕ
  pub variables : ℕ
  pub properties : ℕ

abbrev pub blank_meaning : Meaning
blank_meaning = record { formula = logic.truth; actions = 0; variables = 0; properties = 0 }

-- a formula with the numbers of a value
abbrev pub with_numbers : Formula → logic.Formula → Meaning
with_numbers v f = record { formula = f; actions = v.actions; variables = v.variables.count; properties = v.properties }

abbrev pub Means : Formula → Meaning → Type 0
Means v m =
    ((f : logic.Formula) × Whole v f × (m ≡ with_numbers v f))
    ⊎ (((f : logic.Formula) → Whole v f → ⊥) × (m ≡ blank_meaning))

-- the logic's words for those that are kept
abbrev pub one_back : OnePart → logic.OnePart
one_back Ex = logic.ex
one_back Eg = logic.eg
one_back Ef = logic.ef
one_back Ax = logic.ax
one_back Ag = logic.ag
one_back Af = logic.af
one_back Exw = logic.exw
one_back Egw = logic.egw
one_back Efw = logic.efw
one_back Axw = logic.axw
one_back Agw = logic.agw
one_back Afw = logic.afw

abbrev pub two_back : TwoParts → logic.TwoParts
two_back Eu = logic.eu
two_back Au = logic.au
two_back Euw = logic.euw
two_back Auw = logic.auw

abbrev pub alpha_back : Alpha → logic.Alpha
alpha_back (Variable y) = logic.variable y
alpha_back (Written c) = logic.written c

abbrev pub on_one : (logic.Formula → logic.Formula) → List logic.Formula → List logic.Formula
on_one make [] = []
on_one make (f ∷ fs) = make f ∷ fs

abbrev pub on_two : (logic.Formula → logic.Formula → logic.Formula) → List logic.Formula → List logic.Formula
on_two make [] = []
on_two make (f ∷ []) = []
on_two make (f ∷ (g ∷ fs)) = make f g ∷ fs

abbrev pub made_of : Node → List logic.Formula → List logic.Formula
made_of True fs = logic.truth ∷ fs
made_of (Property i) fs = logic.property i ∷ fs
made_of Not fs = on_one logic.neg fs
made_of Or fs = on_two logic.or fs
made_of And fs = on_two logic.and fs
made_of (One w α) fs = on_one (logic.one (one_back w) (alpha_back α)) fs
made_of (Two w α) fs = on_two (logic.two (two_back w) (alpha_back α)) fs

abbrev pub built : List Node → List logic.Formula
built [] = []
built (n ∷ ns) = made_of n (built ns)

abbrev pub alpha_in : ℕ → ℕ → Alpha → Bool
alpha_in actions variables (Variable y) = nat_lt y variables
alpha_in actions variables (Written c) = nat_lt 0 c && nat_lt c (2 ^ actions)

abbrev pub node_in : ℕ → ℕ → ℕ → Node → Bool
node_in actions variables properties True = true
node_in actions variables properties (Property p) = nat_lt p properties
node_in actions variables properties Not = true
node_in actions variables properties Or = true
node_in actions variables properties And = true
node_in actions variables properties (One w α) = alpha_in actions variables α
node_in actions variables properties (Two w α) = alpha_in actions variables α

abbrev pub covers : ℕ → ℕ → ℕ → ℕ → List Node → Bool
covers actions variables properties k [] = k == 0
covers actions variables properties k (n ∷ ns) =
    nat_lt 0 k && (node_in actions variables properties n && covers actions variables properties (k - 1 + arity n) ns)

abbrev pub is_whole : Formula → Bool
is_whole v = nat_le v.node_count 64 && covers v.actions v.variables.count v.properties 1 (take v.node_count v.nodes)

-- the first, or `true` where there is none
abbrev pub first_of : List logic.Formula → logic.Formula
first_of [] = logic.truth
first_of (f ∷ fs) = f

abbrev pub meaning_of : Formula → Meaning
meaning_of v = cond (is_whole v) (with_numbers v (first_of (built (take v.node_count v.nodes)))) blank_meaning

pub record Meanings : Type 0 where
  pub once : (v : Formula) (f g : logic.Formula) → Whole v f → Whole v g → f ≡ g
  pub tested : (v : Formula) → Decides (is_whole v) (SomeWhole v)
  pub computed : (v : Formula) → Means v (meaning_of v)
  pub unique : (v : Formula) (m : Meaning) → Means v m → m ≡ meaning_of v

abbrev pub ReadWhole : Type 0
ReadWhole =
    (text : List ℕ) (actions properties : List (List ℕ)) (c : Content) (end : ℕ) → FormulaSheet text actions properties c end
    → Whole (formula_of (length actions) (length properties) c) c.formula
