-- Where a path may end: a table of two states and one arc, on which each word differs from the same word with w.
--
--      first --go--> last
--
-- No arc leaves `last`, so every path from `first` ends there, and no infinite path counts.
--
--   ending       the table;  go  its action, written out
--   Apart        one formula holds at `first`, and another does not
--   EndingsDiffer    each of the eight words at `first`
--
-- Assumes nothing.
use Rattle.std.specs.Prelude.{false, [], ◌∷◌}
use Rattle.logic.specs.Formulas.{Alpha, written, Formula, truth, neg, one, two}
use Rattle.logic.specs.Formulas.{ex, eg, ef, ax, ag, af, exw, egw, efw, axw, agw, afw, eu, au, euw, auw}
use Rattle.logic.specs.Table.{Table}
use Rattle.logic.specs.Meaning.{Holds}

abbrev pub ending : Table
ending = record {
  states = 2;
  actions = 1;
  properties = 0;
  label = λ s p. false;
  arcs = record { from = 0; action = 0; to = 1 } ∷ [];
}

abbrev pub go : Alpha
go = written 1

pub record Apart (f g : Formula) : Type 0 where
  pub holds : Holds ending 0 f 0
  pub fails : Holds ending 0 g 0 → ⊥

pub record EndingsDiffer : Type 0 where
  pub ex_differs : Apart (one ex go truth) (one exw go truth)
  pub eg_differs : Apart (one eg go truth) (one egw go truth)
  pub ef_differs : Apart (one ef go truth) (one efw go truth)
  pub eu_differs : Apart (two eu go truth truth) (two euw go truth truth)
  pub ax_differs : Apart (one axw go (neg truth)) (one ax go (neg truth))
  pub ag_differs : Apart (one agw go (neg truth)) (one ag go (neg truth))
  pub af_differs : Apart (one afw go (neg truth)) (one af go (neg truth))
  pub au_differs : Apart (two auw go truth (neg truth)) (two au go truth (neg truth))
