-- The existential part of the logic: the formulas that more actions never cost.
--
--   Plain         true or a property
--   ExistsOne, ExistsTwo   the temporal words of the existential part: ex, exw, egw, ef, efw, eu, euw
--   Existential   true and properties, `not` directly before one of these, and or, and, and those words over parts that belong
--   UsesOver, Uses   every variable of α, or of a formula, is among the first k
--
-- Assumes nothing.
use Rattle.std.specs.Prelude.{ℕ, ◌<◌}
use Rattle.logic.specs.Formulas.{Alpha, variable, written, OnePart, TwoParts, Formula, truth, property, neg, or, and, one, two}
use Rattle.logic.specs.Formulas.{ex, eg, ef, ax, ag, af, exw, egw, efw, axw, agw, afw, eu, au, euw, auw}

abbrev pub Plain : Formula → Type 0
Plain truth = Unit {0}
Plain (property p) = Unit {0}
Plain (neg f) = ⊥
Plain (or f g) = ⊥
Plain (and f g) = ⊥
Plain (one w α f) = ⊥
Plain (two w α f g) = ⊥

abbrev pub ExistsOne : OnePart → Type 0
ExistsOne ex = Unit {0}
ExistsOne exw = Unit {0}
ExistsOne egw = Unit {0}
ExistsOne ef = Unit {0}
ExistsOne efw = Unit {0}
ExistsOne eg = ⊥
ExistsOne ax = ⊥
ExistsOne ag = ⊥
ExistsOne af = ⊥
ExistsOne axw = ⊥
ExistsOne agw = ⊥
ExistsOne afw = ⊥

abbrev pub ExistsTwo : TwoParts → Type 0
ExistsTwo eu = Unit {0}
ExistsTwo euw = Unit {0}
ExistsTwo au = ⊥
ExistsTwo auw = ⊥

abbrev pub Existential : Formula → Type 0
Existential truth = Unit {0}
Existential (property p) = Unit {0}
Existential (neg f) = Plain f
Existential (or f g) = Existential f × Existential g
Existential (and f g) = Existential f × Existential g
Existential (one w α f) = ExistsOne w × Existential f
Existential (two w α f g) = ExistsTwo w × Existential f × Existential g

abbrev pub UsesOver : ℕ → Alpha → Type 0
UsesOver k (variable y) = y < k
UsesOver k (written w) = Unit {0}

abbrev pub Uses : ℕ → Formula → Type 0
Uses k truth = Unit {0}
Uses k (property p) = Unit {0}
Uses k (neg f) = Uses k f
Uses k (or f g) = Uses k f × Uses k g
Uses k (and f g) = Uses k f × Uses k g
Uses k (one w α f) = UsesOver k α × Uses k f
Uses k (two w α f g) = UsesOver k α × Uses k f × Uses k g
