-- What a place holds once a sheet has been read into it, and what any such value means.
--
--   padded       a list made longer by blank cells
--   labelled     whether a property labels a state
--   label_rows   a row of 16 cells for each of 64 states
--   arc_of       an arc as it is kept;  single  the arc that is meant
--   names_kept   the list that names are kept as: blank behind its count
--   vocabulary_of, kept_table  the parts of the value that a content is kept as
--   model_of     the value that a content is kept as: blank behind its counts
--   inside       whether an arc stays inside a table
--   table_of     the table that a value means: its numbers, its labels, and those of its arcs that stay inside it
--
-- Assumes nothing.
use Rattle.std.specs.Prelude.{ℕ, ◌-◌, min, Bool, false, ◌&&◌, ◌||◌, List, [], ◌∷◌, ◌++◌, map, length, take, replicate, filter, ◌==◌, nat_lt, slice_index_or}
use Rattle.std.specs.List.{range_with_len}
use Rattle.logic.specs.Table as logic
use Rattle.words.specs.declared.Name.{Name}
use Rattle.words.specs.declared.NameList.{NameList}
use Rattle.words.specs.Words.{name_from}
use Rattle.model.specs.declared.table.Arc.{Arc}
use Rattle.model.specs.declared.table.Table.{Table}
use Rattle.model.specs.declared.vocabulary.Vocabulary.{Vocabulary}
use Rattle.model.specs.declared.Model.{Model}
use Rattle.model.specs.Content.{Label, Content}

abbrev pub padded : {X : Type 0} → ℕ → X → List X → List X
padded n blank xs = xs ++ replicate (n - length xs) blank

abbrev pub labelled : List Label → ℕ → ℕ → Bool
labelled [] s p = false
labelled (l ∷ ls) s p = (l.state == s && l.property == p) || labelled ls s p

unfoldable pub label_rows : List Label → List (List Bool)
label_rows ls = map (λ s. map (labelled ls s) (range_with_len 0 16)) (range_with_len 0 64)

abbrev pub blank_name : Name
blank_name = record { bytes = replicate 8 0; len = 0 }

abbrev pub blank_arc : Arc
blank_arc = record { from = 0; action = 0; to = 0 }

abbrev pub arc_of : logic.Arc → Arc
arc_of e = record { from = e.from; action = e.action; to = e.to }

abbrev pub single : Arc → logic.Arc
single e = record { from = e.from; action = e.action; to = e.to }

abbrev pub names_kept : (most : ℕ) → List (List ℕ) → NameList most
names_kept most ws = record { names = padded most blank_name (map name_from ws); count = length ws }

abbrev pub vocabulary_of : Content → Vocabulary
vocabulary_of c = record { actions = names_kept 12 c.actions; properties = names_kept 16 c.properties }

abbrev pub kept_table : Content → Table
kept_table c = record {
  states = length c.states;
  actions = length c.actions;
  properties = length c.properties;
  labels = label_rows c.labels;
  arcs = padded 512 blank_arc (map arc_of c.arcs);
  arc_count = length c.arcs;
}

abbrev pub model_of : Content → Model
model_of c = record { vocabulary = vocabulary_of c; states = names_kept 64 c.states; table = kept_table c }

-- an arc stays inside a table with so many states and actions
abbrev pub inside : ℕ → ℕ → logic.Arc → Bool
inside states actions e = nat_lt e.from states && (nat_lt e.action actions && nat_lt e.to states)

abbrev pub table_of : Table → logic.Table
table_of t = record {
  states = min t.states 64;
  actions = min t.actions 12;
  properties = min t.properties 16;
  label = λ s p. slice_index_or (slice_index_or t.labels s []) p false;
  arcs = filter (inside (min t.states 64) (min t.actions 12)) (map single (take t.arc_count t.arcs));
}
