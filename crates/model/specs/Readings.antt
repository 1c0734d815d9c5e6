-- What the reader of the section of labels answers.
--
--   ReadsLabels  the section of labels is read: some labels, marked in the rows, or the refusal
--
-- Assumes nothing.
use Rattle.std.specs.Prelude.{◌≡◌, List, [], length, Ok, Err, Result}
use Rattle.words.specs.declared.Fault.{Fault}
use Rattle.words.specs.declared.Reader.{Reader}
use Rattle.words.specs.Faults.{number, position}
use Rattle.words.specs.Walks.{Walks, Leaves}
use Rattle.model.specs.declared.labels.Labels.{Labels}
use Rattle.model.specs.Content.{Label, Content, labels, arcs}
use Rattle.model.specs.Rules.{count, at, with_labels, model_rules}
use Rattle.model.specs.Values.{label_rows}

abbrev pub ReadsLabels : Reader → Content → Result Labels Fault → Reader → Type 0
ReadsLabels r c (Ok x) after =
    (ls : List Label) × (x.rows ≡ label_rows ls) × (x.count ≡ length ls) × Walks model_rules r.text.now (at (count labels) (with_labels c [])) r.at (at (count arcs) (with_labels c ls)) after.at
ReadsLabels r c (Err f) after =
    Leaves model_rules r.text.now (at (count labels) (with_labels c [])) r.at (number f) (position f) after.at
