-- What the model reader answers.
--
--   Keeps        the sections as they are read keep a content
--   gathered     the model that the sections make
--   SectionsRead, ReadsAll   the sections are read: a content that they keep, up to where the reader then stands, or the refusal
--   counts_of    how many of each a content has
--   ReadAs       the text is the sheet of a content: the place, the counts and the rest of the text then
--   ReadsModel   what the call answers: the text is a sheet, or it is refused and the place is as it was
--
-- Assumes nothing.
use Rattle.std.specs.Prelude.{◌≡◌, ℕ, List, map, length, drop, Ok, Err, Result}
use Rattle.words.specs.declared.Fault.{Fault}
use Rattle.words.specs.declared.Reader.{Reader}
use Rattle.words.specs.Faults.{number, position}
use Rattle.words.specs.Walks.{Walks, Leaves, SheetRefused}
use Rattle.model.specs.declared.sections.Sections.{Sections}
use Rattle.model.specs.declared.Counts.{Counts}
use Rattle.model.specs.declared.ModelRead.{ModelRead}
use Rattle.model.specs.declared.Model.{Model}
use Rattle.model.specs.Content.{Content}
use Rattle.model.specs.Rules.{at, nothing, model_rules, model_start}
use Rattle.model.specs.Grammar.{ModelSheet}
use Rattle.model.specs.Values.{padded, blank_arc, arc_of, label_rows, names_kept, model_of}

pub record Keeps (x : Sections) (c : Content) : Type 0 where
  pub states : x.states ≡ names_kept 64 c.states
  pub actions : x.actions ≡ names_kept 12 c.actions
  pub properties : x.properties ≡ names_kept 16 c.properties
  pub labels : x.labels.rows ≡ label_rows c.labels
  pub label_count : x.labels.count ≡ length c.labels
  pub arcs : x.arcs.arcs ≡ padded 512 blank_arc (map arc_of c.arcs)
  pub arc_count : x.arcs.count ≡ length c.arcs

-- the model that is gathered from the sections
abbrev pub gathered : Sections → Model
gathered x = record {
  vocabulary = record { actions = x.actions; properties = x.properties };
  states = x.states;
  table = record { states = x.states.count; actions = x.actions.count; properties = x.properties.count; labels = x.labels.rows; arcs = x.arcs.arcs; arc_count = x.arcs.count };
}

pub record SectionsRead (before : Reader) (x : Sections) (after : Reader) : Type 0 where
  pub content : Content
  pub keeps : Keeps x content
  pub walks : Walks model_rules before.text.now model_start before.at (at nothing content) after.at

abbrev pub ReadsAll : Reader → Result Sections Fault → Reader → Type 0
ReadsAll before (Ok x) after = SectionsRead before x after
ReadsAll before (Err f) after = Leaves model_rules before.text.now model_start before.at (number f) (position f) after.at

abbrev pub counts_of : Content → Counts
counts_of c = record {
  states = length c.states;
  actions = length c.actions;
  properties = length c.properties;
  labels = length c.labels;
  arcs = length c.arcs;
}

pub record ReadAs (text : List ℕ) (x : ModelRead) (place : Model) : Type 0 where
  pub content : Content
  pub end : ℕ
  pub sheet : ModelSheet text content end
  pub holds : place ≡ model_of content
  pub counts : x.counts ≡ counts_of content
  pub rest : x.rest.now ≡ drop end text

abbrev pub ReadsModel : List ℕ → Model → Result ModelRead Fault → Model → Type 0
ReadsModel text before (Ok x) after = ReadAs text x after
ReadsModel text before (Err f) after = SheetRefused model_rules text model_start (number f) (position f) × (after ≡ before)
