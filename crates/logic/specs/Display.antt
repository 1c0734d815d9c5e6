-- The worked display: three states, two actions, one property, three arcs.
--
--            key                bus
--      idle -----> menu ------------> lock
--           <-----                    safe
--            key
--
--   display      the table;  safe  its property, as a formula;  Y, Z  two variables
--   OneOf        a number is one of a list
--   Lists        of all valuations of so many variables, those in the list are the listed ones
--   DisplayLists    what the display lists, formula by formula
--   Takes        a formula takes so many rounds over all those valuations
--   DisplayRounds   how many rounds they take
--   Shows        what a formula lists at idle and how many rounds it takes, with one variable
--   DisplayWords    each further word
--
-- A code gives Y the action key by 1 and bus by 2, and Z key by 4 and bus by 8. Assumes nothing.
use Rattle.std.specs.Prelude.{◌≡◌, ℕ, ◌⊎◌, ◌↔◌, List, [], ◌∷◌, ◌==◌}
use Rattle.logic.specs.Codes.{valuation}
use Rattle.logic.specs.Formulas.{Alpha, variable, Formula, truth, property, neg, one, two}
use Rattle.logic.specs.Formulas.{ex, eg, ef, ax, ag, af, exw, egw, efw, axw, agw, afw, eu, au, euw, auw}
use Rattle.logic.specs.Table.{Table, Arc}
use Rattle.logic.specs.Rounds.{Rounds}
use Rattle.logic.specs.Listing.{Listed}

abbrev pub idle : ℕ
idle = 0

abbrev pub menu : ℕ
menu = 1

abbrev pub lock : ℕ
lock = 2

abbrev pub key : ℕ
key = 0

abbrev pub bus : ℕ
bus = 1

abbrev pub arc : ℕ → ℕ → ℕ → Arc
arc s a t = record { from = s; action = a; to = t }

abbrev pub display : Table
display = record {
  states = 3;
  actions = 2;
  properties = 1;
  label = λ s p. (s == lock);
  arcs = arc idle key menu ∷ arc menu key idle ∷ arc menu bus lock ∷ [];
}

abbrev pub safe : Formula
safe = property 0

abbrev pub Y : Alpha
Y = variable 0

abbrev pub Z : Alpha
Z = variable 1

abbrev pub OneOf : List ℕ → ℕ → Type 0
OneOf [] c = ⊥
OneOf (x ∷ xs) c = (c ≡ x) ⊎ OneOf xs c

pub record Lists (variables : ℕ) (f : Formula) (s : ℕ) (codes : List ℕ) : Type 0 where
  pub exactly : (c : ℕ) → Listed display (valuation 2 variables) f s c ↔ OneOf codes c

pub record DisplayLists : Type 0 where
  pub ef_idle : Lists 1 (one ef Y safe) idle (3 ∷ [])
  pub ef_menu : Lists 1 (one ef Y safe) menu (2 ∷ 3 ∷ [])
  pub af_idle : Lists 1 (one af Y safe) idle []
  pub af_menu : Lists 1 (one af Y safe) menu (2 ∷ [])
  pub afw_idle : Lists 1 (one afw Y safe) idle (2 ∷ [])
  pub eg_idle : Lists 1 (one eg Y (neg safe)) idle (1 ∷ 2 ∷ 3 ∷ [])
  pub egw_idle : Lists 1 (one egw Y (neg safe)) idle (1 ∷ 3 ∷ [])
  pub ef_ag_idle : Lists 2 (one ef Y (one ag Z (neg safe))) idle (5 ∷ 6 ∷ 7 ∷ 9 ∷ 10 ∷ 11 ∷ [])

pub record Takes (variables : ℕ) (f : Formula) (r : ℕ) : Type 0 where
  pub rounds : Rounds display (valuation 2 variables) f r

pub record DisplayRounds : Type 0 where
  pub ef_rounds : Takes 1 (one ef Y safe) 3
  pub af_rounds : Takes 1 (one af Y safe) 2
  pub afw_rounds : Takes 1 (one afw Y safe) 2
  pub eg_rounds : Takes 1 (one eg Y (neg safe)) 2
  pub egw_rounds : Takes 1 (one egw Y (neg safe)) 2
  pub ef_ag_rounds : Takes 2 (one ef Y (one ag Z (neg safe))) 5

pub record Shows (f : Formula) (codes : List ℕ) (r : ℕ) : Type 0 where
  pub lists : Lists 1 f idle codes
  pub takes : Takes 1 f r

pub record DisplayWords : Type 0 where
  pub ex_shows : Shows (one ex Y (neg safe)) (1 ∷ 3 ∷ []) 0
  pub exw_shows : Shows (one exw Y (neg safe)) (1 ∷ 3 ∷ []) 3
  pub ax_shows : Shows (one ax Y safe) (2 ∷ []) 0
  pub axw_shows : Shows (one axw Y safe) (2 ∷ []) 3
  pub efw_shows : Shows (one efw Y (neg safe)) (1 ∷ 3 ∷ []) 4
  pub ag_shows : Shows (one ag Y (neg safe)) (1 ∷ 2 ∷ []) 3
  pub agw_shows : Shows (one agw Y (neg safe)) (1 ∷ 2 ∷ 3 ∷ []) 4
  pub eu_shows : Shows (two eu Y (neg safe) safe) (3 ∷ []) 3
  pub euw_shows : Shows (two euw Y truth (neg safe)) (1 ∷ 3 ∷ []) 4
  pub au_shows : Shows (two au Y safe (neg safe)) (1 ∷ 2 ∷ 3 ∷ []) 2
  pub auw_shows : Shows (two auw Y (neg safe) safe) (2 ∷ []) 6
