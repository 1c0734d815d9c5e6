-- What holds of every text, of every content and of every table.
--
--   SheetsAreWalks   a text is the sheet of a content exactly if its words lead from the first point to that content, with no
--                    word due any more
--   OneReading       a text is the sheet of one content at most, and ends at one position
--   OneRefusal       a text is refused for one reason at most, at one position
--   NeverBoth        no text is a sheet and refused
--   NamesLookUp      in an admissible content each name looks up to the number under which it was given
--   Meant            the table that a content is about
--   GivesBack        the value that a content is kept as gives its names and its table back
--   TablesAreSound   in the table that a value means every arc stays inside
--
-- Assumes nothing.
use Rattle.std.specs.Prelude.{◌≡◌, ℕ, ◌<◌, ◌≤◌, ◌↔◌, List, [], length, Some, slice_index_or}
use Rattle.logic.specs.Table as logic
use Rattle.words.specs.Faults.{text_limit}
use Rattle.words.specs.Words.{lookup, listed}
use Rattle.words.specs.Walks.{Walks, SheetRefused}
use Rattle.model.specs.declared.names.Names.{Names}
use Rattle.model.specs.declared.table.Table.{Table}
use Rattle.model.specs.Content.{Content, names_of}
use Rattle.model.specs.Rules.{at, nothing, model_rules, model_start}
use Rattle.model.specs.Grammar.{Admissible, ModelSheet}
use Rattle.model.specs.Values.{labelled, model_of, table_of}

abbrev pub SheetsAreWalks : Type 0
SheetsAreWalks =
    (text : List ℕ) (c : Content) (end : ℕ) → ModelSheet text c end ↔ ((length text ≤ text_limit) × Walks model_rules text model_start 0 (at nothing c) end)

abbrev pub OneReading : Type 0
OneReading =
    (text : List ℕ) (c d : Content) (end last : ℕ) → ModelSheet text c end → ModelSheet text d last → (c ≡ d) × (end ≡ last)

abbrev pub OneRefusal : Type 0
OneRefusal =
    (text : List ℕ) (n place m other : ℕ) → SheetRefused model_rules text model_start n place → SheetRefused model_rules text model_start m other → (n ≡ m) × (place ≡ other)

abbrev pub NeverBoth : Type 0
NeverBoth =
    (text : List ℕ) (c : Content) (end n place : ℕ) → ModelSheet text c end → SheetRefused model_rules text model_start n place → ⊥

abbrev pub NamesLookUp : Type 0
NamesLookUp =
    (c : Content) → Admissible c → (k : Names) (i : ℕ) → i < length (names_of c k) → lookup (slice_index_or (names_of c k) i []) (names_of c k) ≡ Some i

abbrev pub Meant : Content → logic.Table
Meant c = record {
  states = length c.states;
  actions = length c.actions;
  properties = length c.properties;
  label = labelled c.labels;
  arcs = c.arcs;
}

pub record GivenBack (c : Content) : Type 0 where
  pub states : listed (model_of c).states ≡ c.states
  pub actions : listed (model_of c).vocabulary.actions ≡ c.actions
  pub properties : listed (model_of c).vocabulary.properties ≡ c.properties
  pub table : table_of (model_of c).table ≡ Meant c

abbrev pub GivesBack : Type 0
GivesBack = (c : Content) → Admissible c → GivenBack c

abbrev pub TablesAreSound : Type 0
TablesAreSound = (t : Table) → logic.Sound (table_of t)
