-- Transition tables.
--
--   Arc          one transition: from a state, by an action, to a state, all by number
--   Table        how many states, actions and properties there are, which properties label each state, and the arcs
--   Fits         an arc stays inside its table
--   Sound        every arc does
--   Leads        an arc leads from one state to another by an action of a set
--   Among, Step  one of the arcs, or of the table's arcs, does
--   Dead         no arc by an action of a set leaves a state
--
-- A set of actions is a test on their numbers, written χ. Assumes nothing.
use Rattle.std.specs.Prelude.{◌≡◌, ℕ, ◌<◌, Bool, true, ◌⊎◌, List, [], ◌∷◌}
use Rattle.std.specs.List.{AllByRecursion}

pub record Arc : Type 0 where
  pub from : ℕ
  pub action : ℕ
  pub to : ℕ

-- label s p says whether the state s has the property p
pub record Table : Type 0 where
  pub states : ℕ
  pub actions : ℕ
  pub properties : ℕ
  pub label : ℕ → ℕ → Bool
  pub arcs : List Arc

pub record Fits (states actions : ℕ) (e : Arc) : Type 0 where
  pub from_inside : e.from < states
  pub action_inside : e.action < actions
  pub to_inside : e.to < states

abbrev pub Sound : Table → Type 0
Sound M = AllByRecursion (Fits M.states M.actions) M.arcs

pub record Leads (e : Arc) (χ : ℕ → Bool) (s t : ℕ) : Type 0 where
  pub leaves : e.from ≡ s
  pub allowed : χ e.action ≡ true
  pub enters : e.to ≡ t

abbrev pub Among : List Arc → (ℕ → Bool) → ℕ → ℕ → Type 0
Among [] χ s t = ⊥
Among (e ∷ es) χ s t = Leads e χ s t ⊎ Among es χ s t

abbrev pub Step : Table → (ℕ → Bool) → ℕ → ℕ → Type 0
Step M χ s t = Among M.arcs χ s t

abbrev pub Dead : Table → (ℕ → Bool) → ℕ → Type 0
Dead M χ s = (t : ℕ) → Step M χ s t → ⊥
