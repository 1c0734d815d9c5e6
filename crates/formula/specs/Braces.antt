-- A set of actions written out: the words behind `{` up to `}`.
--
--   brace_or_name_of  what a word says where a brace or one of these names may stand: the brace, or the name's number; if anything
--   brace_word_of  what a word says between the braces: `}`, or an action by its number; if anything
--   Within       a name is one of so many
--   Braces       what has been read: inside, the set so far; closed, the whole set. A set of actions is a code: bit a for action a
--   brace_rules  an action that is named already, or a `}` where no action was named, meets 10, any other word 7
--   Stands       a word, without a foreign byte, is the next one in the text from a position, and ends at another
--   ActionsStand actions stand one after the other, and then `}`
--   BracesAt     a set of actions stands there: its actions, each once, at least one, in any order; its code has exactly their
--                bits
--
-- Assumes nothing.
use Rattle.std.specs.Prelude.{◌≡◌, ℕ, ◌^◌, ◌<◌, Bool, true, false, cond, List, [], ◌∷◌, length, Some, None, codes, Decides, Option, bit_or}
use Rattle.std.specs.List.{ContainsAt as Has}
use Rattle.std.specs.Str.{bytes_eq}
use Rattle.logic.specs.Codes.{bit}
use Rattle.words.specs.Words.{lookup, WordAt, Clean, bytes_of}
use Rattle.words.specs.Walks.{Rules}
use Rattle.model.specs.Grammar.{Once}
use Rattle.formula.specs.declared.braces.BraceOrName.{BraceOrName}
use Rattle.formula.specs.declared.braces.BraceOrName.TheVariants.{Brace, Name}

abbrev pub name_word_of : Option ℕ → Option BraceOrName
name_word_of None = None
name_word_of (Some i) = Some (Name i)

abbrev pub brace_or_name_of : List ℕ → List ℕ → List (List ℕ) → Option BraceOrName
brace_or_name_of brace w names = cond (bytes_eq w brace) (Some Brace) (name_word_of (lookup w names))

abbrev pub brace_word_of : List ℕ → List (List ℕ) → Option BraceOrName
brace_word_of = brace_or_name_of (codes "}")

abbrev pub Within : ℕ → BraceOrName → Type 0
Within many Brace = Unit {0}
Within many (Name i) = i < many

pub data Braces : Type 0 where
  inside : ℕ → Braces
  closed : ℕ → Braces

abbrev pub brace_over : Braces → Bool
brace_over (inside set) = false
brace_over (closed set) = true

abbrev pub brace_meets : ℕ → Option BraceOrName → ℕ → Type 0
brace_meets set None n = n ≡ 7
brace_meets set (Some Brace) n = (n ≡ 10) × (set ≡ 0)
brace_meets set (Some (Name a)) n = (n ≡ 10) × (bit set a ≡ true)

abbrev pub brace_after : ℕ → Option BraceOrName → Braces
brace_after set None = inside set
brace_after set (Some Brace) = closed set
brace_after set (Some (Name a)) = inside (bit_or set (2 ^ a))

module _ (actions : List (List ℕ)) where
  abbrev pub braces_meet : Braces → List ℕ → ℕ → Type 0
  braces_meet (inside set) w n = brace_meets set (brace_word_of w actions) n
  braces_meet (closed set) w n = ⊥

  abbrev pub braces_after : Braces → List ℕ → Braces
  braces_after (inside set) w = brace_after set (brace_word_of w actions)
  braces_after (closed set) w = closed set

  abbrev pub brace_rules : Rules Braces
  brace_rules = record { over = brace_over; meets = braces_meet; after = braces_after }

pub record Stands (text : List ℕ) (p : ℕ) (w : List ℕ) (q : ℕ) : Type 0 where
  pub start : ℕ
  pub word : WordAt text p start q
  pub clean : Clean text start q
  pub bytes : bytes_of text start q ≡ w

module _ (text : List ℕ) (actions : List (List ℕ)) where
  abbrev pub ActionsStand : List ℕ → ℕ → ℕ → Type 0
  ActionsStand [] p q = Stands text p (codes "}") q
  ActionsStand (a ∷ xs) p q = (w : List ℕ) × (m : ℕ) × Stands text p w m × (brace_word_of w actions ≡ Some (Name a)) × ActionsStand xs m q

  pub record BracesAt (code p q : ℕ) : Type 0 where
    pub listed : List ℕ
    pub some : 0 < length listed
    pub once : Once listed
    pub stand : ActionsStand listed p q
    pub bits : (b : ℕ) → Decides (bit code b) (Has listed b)
