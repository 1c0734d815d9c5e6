-- How a model sheet is read: which word is due where, what each refuses, and what each adds to the content.
--
--   Due          the word that is due: a section's count; a name; a label's state, then its property; the state that an arc
--                leaves, then its action, then the state that it enters; or none. The first number in each says how many more
--                names, labels or arcs its section has behind this one, and the others are the words in front of this one.
--   Point        what is due, and what has been read
--   due_names    what is due where so many names are to come;  due_labels, due_arcs  the same of labels and arcs
--   number_of    the number of a name
--   over         whether no word is due any more
--   meets        the numbers that a word meets where it is due: 4 it is no count within the limits; 5 it is not plain; 6 it is
--                taken; 7 it names no state, action or property; 8 the label or arc stands there already
--   after        what is due behind a word that fits, and what it adds to what has been read
--   model_rules  the rules of the sheet;  model_start  its first point
--
-- Assumes nothing.
use Rattle.std.specs.Prelude.{◌≡◌, ℕ, zero, suc, Bool, true, false, ◌⊎◌, List, [], ◌∷◌, ◌++◌, Some, None}
use Rattle.std.specs.Option.{unwrap_or}
use Rattle.std.specs.List.{ContainsAt as Has}
use Rattle.logic.specs.Table.{Arc}
use Rattle.words.specs.declared.Letters.TheVariants.{Lower}
use Rattle.words.specs.Words.{counted, named, lookup}
use Rattle.words.specs.Walks.{Rules}
use Rattle.model.specs.declared.names.Names.{Names}
use Rattle.model.specs.declared.names.Names.TheVariants.{States, Actions, Properties}
use Rattle.model.specs.Content.{Label, Content, Section, names, labels, arcs, fewest, most, names_of, Taken}

pub data Due : Type 0 where
  count : Section → Due
  name : Names → ℕ → Due
  label_state : ℕ → Due
  label_property : ℕ → ℕ → Due
  arc_from : ℕ → Due
  arc_action : ℕ → ℕ → Due
  arc_to : ℕ → ℕ → ℕ → Due
  nothing : Due

pub record Point : Type 0 where
  pub due : Due
  pub content : Content

abbrev pub at : Due → Content → Point
at d c = record { due = d; content = c }

-- the section behind one of names
abbrev pub behind : Names → Section
behind States = names Actions
behind Actions = names Properties
behind Properties = labels

abbrev pub due_names : Names → ℕ → Due
due_names k zero = count (behind k)
due_names k (suc n) = name k n

abbrev pub due_labels : ℕ → Due
due_labels zero = count arcs
due_labels (suc n) = label_state n

abbrev pub due_arcs : ℕ → Due
due_arcs zero = nothing
due_arcs (suc n) = arc_from n

abbrev pub due_items : Section → ℕ → Due
due_items (names k) n = due_names k n
due_items labels n = due_labels n
due_items arcs n = due_arcs n

-- the content with these names in a section, with these labels, with these arcs
abbrev pub with_names : Names → Content → List (List ℕ) → Content
with_names States c ws = record { states = ws; actions = c.actions; properties = c.properties; labels = c.labels; arcs = c.arcs }
with_names Actions c ws = record { states = c.states; actions = ws; properties = c.properties; labels = c.labels; arcs = c.arcs }
with_names Properties c ws = record { states = c.states; actions = c.actions; properties = ws; labels = c.labels; arcs = c.arcs }

abbrev pub with_labels : Content → List Label → Content
with_labels c ls = record { states = c.states; actions = c.actions; properties = c.properties; labels = ls; arcs = c.arcs }

abbrev pub with_arcs : Content → List Arc → Content
with_arcs c es = record { states = c.states; actions = c.actions; properties = c.properties; labels = c.labels; arcs = es }

-- the number of a name, which a word that fits has
abbrev pub number_of : List (List ℕ) → List ℕ → ℕ
number_of given w = unwrap_or (lookup w given) 0

abbrev pub over : Due → Bool
over (count k) = false
over (name k n) = false
over (label_state n) = false
over (label_property n s) = false
over (arc_from n) = false
over (arc_action n s) = false
over (arc_to n s a) = false
over nothing = true

-- the word is none of the names
abbrev pub Unnamed : List (List ℕ) → List ℕ → Type 0
Unnamed given w = lookup w given ≡ None

abbrev pub meets : Content → Due → List ℕ → ℕ → Type 0
meets c (count k) w n = (n ≡ 4) × (counted w (fewest k) (most k) ≡ None)
meets c (name k m) w n = ((n ≡ 5) × (named Lower w ≡ false)) ⊎ ((n ≡ 6) × Taken c k w)
meets c (label_state m) w n = (n ≡ 7) × Unnamed c.states w
meets c (label_property m s) w n =
    ((n ≡ 7) × Unnamed c.properties w)
    ⊎ ((n ≡ 8) × ((p : ℕ) × (lookup w c.properties ≡ Some p) × Has c.labels (record { state = s; property = p })))
meets c (arc_from m) w n = (n ≡ 7) × Unnamed c.states w
meets c (arc_action m s) w n = (n ≡ 7) × Unnamed c.actions w
meets c (arc_to m s a) w n =
    ((n ≡ 7) × Unnamed c.states w)
    ⊎ ((n ≡ 8) × ((t : ℕ) × (lookup w c.states ≡ Some t) × Has c.arcs (record { from = s; action = a; to = t })))
meets c nothing w n = ⊥

abbrev pub after : Content → Due → List ℕ → Point
after c (count k) w = at (due_items k (unwrap_or (counted w (fewest k) (most k)) 0)) c
after c (name k m) w = at (due_names k m) (with_names k c (names_of c k ++ w ∷ []))
after c (label_state m) w = at (label_property m (number_of c.states w)) c
after c (label_property m s) w =
    at (due_labels m) (with_labels c (c.labels ++ record { state = s; property = number_of c.properties w } ∷ []))
after c (arc_from m) w = at (arc_action m (number_of c.states w)) c
after c (arc_action m s) w = at (arc_to m s (number_of c.actions w)) c
after c (arc_to m s a) w =
    at (due_arcs m) (with_arcs c (c.arcs ++ record { from = s; action = a; to = number_of c.states w } ∷ []))
after c nothing w = at nothing c

abbrev pub model_rules : Rules Point
model_rules = record {
  over = λ s. over s.due;
  meets = λ s w n. meets s.content s.due w n;
  after = λ s w. after s.content s.due w;
}

abbrev pub no_content : Content
no_content = record { states = []; actions = []; properties = []; labels = []; arcs = [] }

abbrev pub model_start : Point
model_start = at (count (names States)) no_content
