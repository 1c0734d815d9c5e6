-- The grammar of formulas: which formula stands in a text from one position to another. No order of reading is in it.
--
--   Names        a word names a property by its number, and is not reserved
--   AlphaAt      what a temporal word speaks over stands there: a variable by its name, or a set of actions between braces
--   Spells       the formula stands there, in prefix words
--
-- Assumes nothing.
use Rattle.std.specs.Prelude.{◌≡◌, ℕ, List, Some, None, codes}
use Rattle.logic.specs.Formulas as logic
use Rattle.words.specs.Words.{lookup}
use Rattle.formula.specs.declared.braces.BraceOrName.TheVariants.{Name}
use Rattle.formula.specs.Nodes.{one_word, two_word}
use Rattle.formula.specs.Heads.{spelled_one, spelled_two, reserved_head_of}
use Rattle.formula.specs.Braces.{Stands, BracesAt}
use Rattle.formula.specs.Rules.{alpha_word_of}

pub record Names (properties : List (List ℕ)) (w : List ℕ) (i : ℕ) : Type 0 where
  pub free : reserved_head_of w ≡ None
  pub named : lookup w properties ≡ Some i

module _ (text : List ℕ) (actions properties variables : List (List ℕ)) where
  abbrev pub AlphaAt : logic.Alpha → ℕ → ℕ → Type 0
  AlphaAt (logic.variable y) p q = (w : List ℕ) × Stands text p w q × (alpha_word_of w variables ≡ Some (Name y))
  AlphaAt (logic.written c) p q = (m : ℕ) × Stands text p (codes "{") m × BracesAt text actions c m q

  abbrev pub Spells : logic.Formula → ℕ → ℕ → Type 0
  Spells logic.truth p q = Stands text p (codes "true") q
  Spells (logic.property i) p q = (w : List ℕ) × Stands text p w q × Names properties w i
  Spells (logic.neg f) p q = (m : ℕ) × Stands text p (codes "not") m × Spells f m q
  Spells (logic.or f g) p q = (m : ℕ) × Stands text p (codes "or") m × ((n : ℕ) × Spells f m n × Spells g n q)
  Spells (logic.and f g) p q = (m : ℕ) × Stands text p (codes "and") m × ((n : ℕ) × Spells f m n × Spells g n q)
  Spells (logic.one w α f) p q = (m : ℕ) × Stands text p (spelled_one (one_word w)) m × ((n : ℕ) × AlphaAt α m n × Spells f n q)
  Spells (logic.two w α f g) p q =
      (m : ℕ) × Stands text p (spelled_two (two_word w)) m × ((n : ℕ) × AlphaAt α m n × ((k : ℕ) × Spells f n k × Spells g k q))
