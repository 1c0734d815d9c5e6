-- The nodes of a formula: in prefix order, each before its parts.
--
--   one_word, two_word, alpha_of  the logic's temporal words and what they speak over, as they are kept
--   arity        how many parts a node has
--   flat         the nodes of a formula
--
-- Assumes nothing.
use Rattle.std.specs.Prelude.{ℕ, List, [], ◌∷◌, ◌++◌}
use Rattle.logic.specs.Formulas as logic
use Rattle.formula.specs.declared.OnePart.{OnePart}
use Rattle.formula.specs.declared.OnePart.TheVariants.{Ex, Eg, Ef, Ax, Ag, Af, Exw, Egw, Efw, Axw, Agw, Afw}
use Rattle.formula.specs.declared.TwoParts.{TwoParts}
use Rattle.formula.specs.declared.TwoParts.TheVariants.{Eu, Au, Euw, Auw}
use Rattle.formula.specs.declared.Alpha.{Alpha}
use Rattle.formula.specs.declared.Alpha.TheVariants.{Variable, Written}
use Rattle.formula.specs.declared.Node.{Node}
use Rattle.formula.specs.declared.Node.TheVariants.{True, Property, Not, Or, And, One, Two}

abbrev pub one_word : logic.OnePart → OnePart
one_word logic.ex = Ex
one_word logic.eg = Eg
one_word logic.ef = Ef
one_word logic.ax = Ax
one_word logic.ag = Ag
one_word logic.af = Af
one_word logic.exw = Exw
one_word logic.egw = Egw
one_word logic.efw = Efw
one_word logic.axw = Axw
one_word logic.agw = Agw
one_word logic.afw = Afw

abbrev pub two_word : logic.TwoParts → TwoParts
two_word logic.eu = Eu
two_word logic.au = Au
two_word logic.euw = Euw
two_word logic.auw = Auw

abbrev pub alpha_of : logic.Alpha → Alpha
alpha_of (logic.variable y) = Variable y
alpha_of (logic.written c) = Written c

abbrev pub arity : Node → ℕ
arity True = 0
arity (Property p) = 0
arity Not = 1
arity Or = 2
arity And = 2
arity (One w α) = 1
arity (Two w α) = 2

abbrev pub flat : logic.Formula → List Node
flat logic.truth = True ∷ []
flat (logic.property p) = Property p ∷ []
flat (logic.neg f) = Not ∷ flat f
flat (logic.or f g) = Or ∷ (flat f ++ flat g)
flat (logic.and f g) = And ∷ (flat f ++ flat g)
flat (logic.one w α f) = One (one_word w) (alpha_of α) ∷ flat f
flat (logic.two w α f g) = Two (two_word w) (alpha_of α) ∷ (flat f ++ flat g)
