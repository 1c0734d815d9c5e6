-- The line of a code: what it gives each variable.
--
--   action_names, variable_names   the names of the actions of a model, and of the variables of a formula
--   spaced       words with one space between
--   gap          what stands in front of a word: nothing at the first one, else a space
--   none         whether there are no words
--   passing      the names below a number that pass a test on their numbers, in the order of their numbers
--   braced       a name with words behind it, as `Y={key bus}`
--   given_text   a variable with its actions
--   given_texts  the same of every variable below a number, one behind the other
--   line         the line of a code without its end: every variable, or `-` without variables
--   line_end     the byte that ends a line
--
-- Names are given as their bytes. Assumes nothing.
use Rattle.std.specs.Prelude.{ℕ, zero, suc, Bool, true, false, cond, List, [], ◌∷◌, ◌++◌, length, codes, slice_index_or}
use Rattle.std.specs.List.{flat_map}
use Rattle.logic.specs.Codes.{gives}
use Rattle.words.specs.Words.{listed}
use Rattle.model.specs.declared.Model.{Model}
use Rattle.formula.specs.declared.Formula.{Formula}

abbrev pub action_names : Model → List (List ℕ)
action_names m = listed m.vocabulary.actions

abbrev pub variable_names : Formula → List (List ℕ)
variable_names v = listed v.variables

abbrev pub spaced : List (List ℕ) → List ℕ
spaced [] = []
spaced (w ∷ ws) = w ++ flat_map (λ v. 32 ∷ v) ws

abbrev pub gap : Bool → List ℕ
gap true = []
gap false = 32 ∷ []

abbrev pub none : List (List ℕ) → Bool
none [] = true
none (w ∷ ws) = false

abbrev pub passing : (ℕ → Bool) → List (List ℕ) → ℕ → List (List ℕ)
passing test names zero = []
passing test names (suc n) = cond (test n) (passing test names n ++ slice_index_or names n [] ∷ []) (passing test names n)

abbrev pub braced : List ℕ → List (List ℕ) → List ℕ
braced name ws = name ++ (codes "={" ++ (spaced ws ++ codes "}"))

abbrev pub given_text : List (List ℕ) → List (List ℕ) → ℕ → ℕ → List ℕ
given_text actions variables c y = braced (slice_index_or variables y []) (passing (gives (length actions) c y) actions (length actions))

abbrev pub given_texts : List (List ℕ) → List (List ℕ) → ℕ → ℕ → List (List ℕ)
given_texts actions variables c zero = []
given_texts actions variables c (suc y) = given_texts actions variables c y ++ given_text actions variables c y ∷ []

abbrev pub line_end : List ℕ
line_end = 10 ∷ []

abbrev pub line : List (List ℕ) → List (List ℕ) → ℕ → List ℕ
line actions [] c = codes "-"
line actions (v ∷ vs) c = spaced (given_texts actions (v ∷ vs) c (length (v ∷ vs)))
