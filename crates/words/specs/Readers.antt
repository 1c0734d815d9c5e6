-- What a reader answers of one word.
--
--   Takes        the next word is good for an answer, and the reader stands behind it; or there is none, and the reader stands
--                where it stood; or the word is bad, by a number, and the reader stands behind it
--   Counts       the word is a count within limits: its number, or 4
--   LooksUp      the word is looked for among names: its number, or 7
--   NewName      a word as a name that is not given yet: the name, or 5 where it is not plain, or else 6 where it is given
--
-- Assumes nothing.
use Rattle.std.specs.Prelude.{◌≡◌, ℕ, true, false, ◌⊎◌, List, Some, None, Ok, Err, Result}
use Rattle.std.specs.List.{ContainsAt as Has}
use Rattle.words.specs.declared.Fault.{Fault}
use Rattle.words.specs.declared.Fault.TheVariants.{BadName, NameTaken}
use Rattle.words.specs.declared.Letters.{Letters}
use Rattle.words.specs.declared.Name.{Name}
use Rattle.words.specs.declared.Reader.{Reader}
use Rattle.words.specs.declared.Word.{Word}
use Rattle.words.specs.Faults.{number, position}
use Rattle.words.specs.Words.{WordAt, Clean, bytes_of, counted, named, name_from, lookup}
use Rattle.words.specs.Walks.{WordRefused}

abbrev pub Takes : {X : Type 0} → Reader → (List ℕ → X → Type 0) → (List ℕ → ℕ → Type 0) → Result X Fault → Reader → Type 0
Takes r good bad (Ok x) s =
    (start : ℕ) × WordAt r.text.now r.at start s.at × Clean r.text.now start s.at × good (bytes_of r.text.now start s.at) x
Takes r good bad (Err f) s =
    (WordRefused r.text.now r.at (number f) (position f) × (s.at ≡ r.at))
    ⊎ (WordAt r.text.now r.at (position f) s.at × Clean r.text.now (position f) s.at × bad (bytes_of r.text.now (position f) s.at) (number f))

abbrev pub Counts : Reader → ℕ → ℕ → Result ℕ Fault → Reader → Type 0
Counts r low high = Takes r (λ w n. counted w low high ≡ Some n) (λ w n. (n ≡ 4) × (counted w low high ≡ None))

abbrev pub LooksUp : Reader → List (List ℕ) → Result ℕ Fault → Reader → Type 0
LooksUp r given = Takes r (λ w i. lookup w given ≡ Some i) (λ w n. (n ≡ 7) × (lookup w given ≡ None))

abbrev pub NewName : Letters → List (List ℕ) → Word → Result Name Fault → Type 0
NewName k given w (Ok x) = (named k w.bytes.now ≡ true) × (Has given w.bytes.now → ⊥) × (x ≡ name_from w.bytes.now)
NewName k given w (Err f) =
    ((f ≡ BadName w.start) × (named k w.bytes.now ≡ false))
    ⊎ ((f ≡ NameTaken w.start) × (named k w.bytes.now ≡ true) × Has given w.bytes.now)
