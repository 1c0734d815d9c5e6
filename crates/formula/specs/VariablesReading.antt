-- What the reader of a formula sheet's variables answers: how far it walked by the rules, or how it was refused, and where the
-- reader stands then.
--
--   CountRead    the count of variables
--   NameRead     the name of a variable, behind those that are taken
--   VariablesRead  the count and the names
--
-- Assumes nothing.
use Rattle.std.specs.Prelude.{ℕ, List, [], ◌∷◌, ◌++◌, Result}
use Rattle.words.specs.declared.Fault.{Fault}
use Rattle.words.specs.declared.Name.{Name}
use Rattle.words.specs.declared.NameList.{NameList}
use Rattle.words.specs.declared.Reader.{Reader}
use Rattle.words.specs.Words.{name_bytes, listed}
use Rattle.words.specs.Walks.{Reads}
use Rattle.model.specs.declared.vocabulary.Vocabulary.{Vocabulary}
use Rattle.formula.specs.Rules.{Point, name, due_names, formula_rules, formula_start}
use Rattle.formula.specs.Reading.{rules_of, due_parts}

-- so many names are to come
abbrev pub to_name : ℕ → List (List ℕ) → Point
to_name k names = record { due = due_names k; names = names; nodes = [] }

-- a name is due, and so many behind it
abbrev pub due_name : ℕ → List (List ℕ) → Point
due_name k names = record { due = name k; names = names; nodes = [] }

module _ (v : Vocabulary) (r : Reader) where
  abbrev pub CountRead : Result ℕ Fault → Reader → Type 0
  CountRead result after = Reads (rules_of v) formula_start r result (λ k. to_name k []) after

  abbrev pub VariablesRead : Result (NameList 4) Fault → Reader → Type 0
  VariablesRead result after = Reads (rules_of v) formula_start r result (λ x. due_parts (1 ∷ []) (listed x) []) after

abbrev pub NameRead : Reader → List (List ℕ) → Result Name Fault → Reader → Type 0
NameRead r taken result after =
    (actions properties : List (List ℕ)) (k : ℕ)
    → Reads (formula_rules actions properties) (due_name k taken) r result (λ n. to_name k (taken ++ name_bytes n ∷ [])) after
