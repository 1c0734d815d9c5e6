-- What a model sheet says: names of states, actions and properties, labels and arcs. States, actions and properties are
-- numbered from 0 in the order in which they are named; the first state is the initial one.
--
--   Label        a property of a state, both by number
--   Content      the names, each as its bytes, the labels and the arcs
--   Section      the sections of a sheet in their order: three of names (Names), then the labels, then the arcs
--   fewest       the least count that a section may have;  most  the largest
--   names_of     the names of a section of names
--   reserved_words  the words that no property may have as its name
--   Kept         a section of names keeps a word for other use: that of the properties keeps the reserved words
--   Taken        a section of names may not give a word: it has given it, or keeps it
--
-- Assumes nothing.
use Rattle.std.specs.Prelude.{ℕ, ◌⊎◌, List, ◌++◌}
use Rattle.std.specs.List.{ContainsAt as Has}
use Rattle.logic.specs.Table.{Arc}
use Rattle.model.specs.Reserved.{connectives, some_words, all_words}
use Rattle.model.specs.declared.names.Names.{Names}
use Rattle.model.specs.declared.names.Names.TheVariants.{States, Actions, Properties}

pub record Label : Type 0 where
  pub state : ℕ
  pub property : ℕ

pub record Content : Type 0 where
  pub states : List (List ℕ)
  pub actions : List (List ℕ)
  pub properties : List (List ℕ)
  pub labels : List Label
  pub arcs : List Arc

pub data Section : Type 0 where
  names : Names → Section
  labels arcs : Section

abbrev pub fewest : Section → ℕ
fewest (names States) = 1
fewest (names Actions) = 1
fewest (names Properties) = 0
fewest labels = 0
fewest arcs = 0

abbrev pub most : Section → ℕ
most (names States) = 64
most (names Actions) = 12
most (names Properties) = 16
most labels = 1024
most arcs = 512

abbrev pub names_of : Content → Names → List (List ℕ)
names_of c States = c.states
names_of c Actions = c.actions
names_of c Properties = c.properties

abbrev pub reserved_words : List (List ℕ)
reserved_words = connectives ++ (some_words ++ all_words)

-- a word that a section of names keeps for other use
abbrev pub Kept : Names → List ℕ → Type 0
Kept States w = ⊥
Kept Actions w = ⊥
Kept Properties w = Has reserved_words w

abbrev pub Taken : Content → Names → List ℕ → Type 0
Taken c k w = Has (names_of c k) w ⊎ Kept k w
