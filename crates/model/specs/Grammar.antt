-- The grammar of a model sheet, as a relation between a text, its content and the position where the sheet ends.
--
--   Item         a word of the sheet: the count of a section, or a name
--   Next         the next word from a position on says an item, and ends at a position
--   Spells       the words from a position on say these items one behind the other, and the last ends at a position
--   sheet_items  the words of a content: five sections, each behind its count
--   Once         no element stands in a list twice
--   Given        the names of a section: each plain, each given once, none kept for other use
--   Admissible   the content keeps to the limits, its names are given, its labels and arcs are over its numbers, each once
--   ModelSheet   the text begins with the words of an admissible content
--
-- Assumes nothing.
use Rattle.std.specs.Prelude.{◌≡◌, ℕ, ◌<◌, ◌≤◌, true, List, [], ◌∷◌, ◌++◌, map, length, Some, slice_index_or}
use Rattle.std.specs.List.{ContainsAt as Has, flat_map, AllByRecursion}
use Rattle.logic.specs.Table.{Arc, Fits}
use Rattle.words.specs.declared.Letters.TheVariants.{Lower}
use Rattle.words.specs.Faults.{text_limit}
use Rattle.words.specs.Words.{WordAt, Clean, bytes_of, counted, named}
use Rattle.model.specs.declared.names.Names.{Names}
use Rattle.model.specs.declared.names.Names.TheVariants.{States, Actions, Properties}
use Rattle.model.specs.Content.{Label, Content, Section, names, labels, arcs, fewest, most, names_of, Kept}

pub data Item : Type 0 where
  number : Section → ℕ → Item
  word : List ℕ → Item

abbrev pub Says : Item → List ℕ → Type 0
Says (number k n) w = counted w (fewest k) (most k) ≡ Some n
Says (word v) w = w ≡ v

pub record Next (text : List ℕ) (from : ℕ) (i : Item) (end : ℕ) : Type 0 where
  pub start : ℕ
  pub stands : WordAt text from start end
  pub clean : Clean text start end
  pub says : Says i (bytes_of text start end)

abbrev pub Spells : List ℕ → ℕ → List Item → ℕ → Type 0
Spells text from [] end = from ≡ end
Spells text from (i ∷ is) end = (m : ℕ) × Next text from i m × Spells text m is end

-- a section of names: how many, then each
abbrev pub names_section : Names → List (List ℕ) → List Item
names_section k ws = number (names k) (length ws) ∷ map word ws

-- a label by the names of its state and its property
abbrev pub label_items : Content → Label → List Item
label_items c l = word (slice_index_or c.states l.state []) ∷ word (slice_index_or c.properties l.property []) ∷ []

-- an arc by the names of the state that it leaves, its action and the state that it enters
abbrev pub arc_items : Content → Arc → List Item
arc_items c e =
    word (slice_index_or c.states e.from []) ∷ word (slice_index_or c.actions e.action []) ∷ word (slice_index_or c.states e.to []) ∷ []

abbrev pub sheet_items : Content → List Item
sheet_items c =
    names_section States c.states
    ++ (names_section Actions c.actions
    ++ (names_section Properties c.properties
    ++ ((number labels (length c.labels) ∷ flat_map (label_items c) c.labels)
    ++ (number arcs (length c.arcs) ∷ flat_map (arc_items c) c.arcs))))

abbrev pub Once : {X : Type 0} → List X → Type 0
Once [] = Unit {0}
Once (x ∷ xs) = (Has xs x → ⊥) × Once xs

pub record Given (k : Names) (ws : List (List ℕ)) : Type 0 where
  pub plain : AllByRecursion (λ w. named Lower w ≡ true) ws
  pub once : Once ws
  pub free : AllByRecursion (λ w. Kept k w → ⊥) ws

abbrev pub Within : Section → ℕ → Type 0
Within k n = (fewest k ≤ n) × (n ≤ most k)

pub record Admissible (c : Content) : Type 0 where
  pub few_names : (k : Names) → Within (names k) (length (names_of c k))
  pub few_labels : Within labels (length c.labels)
  pub few_arcs : Within arcs (length c.arcs)
  pub given : (k : Names) → Given k (names_of c k)
  pub labels_inside : AllByRecursion (λ l. (l.state < length c.states) × (l.property < length c.properties)) c.labels
  pub labels_once : Once c.labels
  pub arcs_inside : AllByRecursion (Fits (length c.states) (length c.actions)) c.arcs
  pub arcs_once : Once c.arcs

pub record ModelSheet (text : List ℕ) (c : Content) (end : ℕ) : Type 0 where
  pub short : length text ≤ text_limit
  pub admissible : Admissible c
  pub spells : Spells text 0 (sheet_items c) end
