-- A text and its words. A text is its bytes; a position counts them from 0.
--
--   blank        0x20 and 0x0A;  allowed  the bytes that a word may have
--   WordAt       the next word from a position on: a longest run of other bytes behind nothing but blanks
--   Clean        every byte of the word is allowed;  Foreign  one is not
--   Ends         no word stands from a position on
--   bytes_of     the bytes between two positions
--   counted      the number that a count stands for, within its limits: decimal, without leading zeros
--   named        whether a word is a name: one to eight bytes, a letter first, then letters, digits and `_`
--   name_bytes   the bytes of a name that is kept;  name_from  how a word is kept as a name
--   listed       the names of a list of names, each as its bytes
--   lookup       the number under which a name was given: names are numbered from 0
--
-- Assumes nothing.
use Rattle.std.specs.Prelude.{◌≡◌, ℕ, ◌+◌, ◌-◌, ◌*◌, ◌<◌, ◌≤◌, min, Bool, true, false, cond, not, ◌&&◌, ◌||◌, List, [], ◌∷◌, ◌++◌, length, take, replicate, map, Some, None, Option, ◌==◌, nat_le, nat_lt, slice_index, slice_range}
use Rattle.std.specs.List.{prefix_len, position}
use Rattle.std.specs.Str.{bytes_eq}
use Rattle.words.specs.declared.Class.{Class}
use Rattle.words.specs.declared.Class.TheVariants.{Blank, Solid, Allowed, Digit, Lower, Upper, LowerTail, UpperTail}
use Rattle.words.specs.declared.Name.{Name}
use Rattle.words.specs.declared.NameList.{NameList}
use Rattle.words.specs.declared.Letters.{Letters}
use Rattle.words.specs.declared.Letters.TheVariants as letters

abbrev pub blank : ℕ → Bool
blank b = b == 32 || b == 10

abbrev pub between : ℕ → ℕ → ℕ → Bool
between low high b = nat_le low b && nat_le b high

-- a class of bytes
abbrev pub within : Class → ℕ → Bool
within Blank b = blank b
within Solid b = not (blank b)
within Allowed b = between 97 122 b || (between 65 90 b || (between 48 57 b || (b == 95 || (b == 123 || b == 125))))
within Digit b = between 48 57 b
within Lower b = between 97 122 b
within Upper b = between 65 90 b
within LowerTail b = between 97 122 b || (between 48 57 b || b == 95)
within UpperTail b = between 65 90 b || (between 48 57 b || b == 95)

-- every byte from one position to before another is of the class
abbrev pub All : Class → List ℕ → ℕ → ℕ → Type 0
All k text from to = (i : ℕ) → from ≤ i → i < to → within k (slice_index text i) ≡ true

pub record WordAt (text : List ℕ) (from start end : ℕ) : Type 0 where
  pub behind : from ≤ start
  pub blanks : All Blank text from start
  pub some : start < end
  pub inside : end ≤ length text
  pub solid : All Solid text start end
  pub longest : end < length text → blank (slice_index text end) ≡ true

abbrev pub Clean : List ℕ → ℕ → ℕ → Type 0
Clean text start end = All Allowed text start end

pub record Foreign (text : List ℕ) (start end : ℕ) : Type 0 where
  pub at : ℕ
  pub behind : start ≤ at
  pub before : at < end
  pub strange : within Allowed (slice_index text at) ≡ false

abbrev pub Ends : List ℕ → ℕ → Type 0
Ends text from = All Blank text from (length text)

abbrev pub bytes_of : List ℕ → ℕ → ℕ → List ℕ
bytes_of text start end = slice_range text start end

-- the number that digits stand for, behind n
abbrev pub decimal : ℕ → List ℕ → Option ℕ
decimal n [] = Some n
decimal n (b ∷ bs) = cond (within Digit b) (decimal (n * 10 + (b - 48)) bs) None

abbrev pub limited : ℕ → ℕ → Option ℕ → Option ℕ
limited low high None = None
limited low high (Some n) = cond (nat_le low n && nat_le n high) (Some n) None

abbrev pub counted : List ℕ → ℕ → ℕ → Option ℕ
counted w low high =
    cond (length w == 0 || (slice_index w 0 == 48 && nat_lt 1 (length w))) None (limited low high (decimal 0 w))

abbrev pub class_of_first : Letters → Class
class_of_first letters.Lower = Lower
class_of_first letters.Upper = Upper

abbrev pub class_of_tail : Letters → Class
class_of_tail letters.Lower = LowerTail
class_of_tail letters.Upper = UpperTail

abbrev pub named : Letters → List ℕ → Bool
named k w =
    nat_lt 0 (length w) && (nat_le (length w) 8 && (within (class_of_first k) (slice_index w 0) && prefix_len (within (class_of_tail k)) w == length w))

-- the bytes of a name
abbrev pub name_bytes : Name → List ℕ
name_bytes n = take n.len n.bytes

-- the name that a word of at most eight bytes is kept as: the bytes behind it are 0
abbrev pub name_from : List ℕ → Name
name_from w = record { bytes = take 8 w ++ replicate (8 - length w) 0; len = min (length w) 8 }

-- the names that a list of names has
abbrev pub listed : {most : ℕ} → NameList most → List (List ℕ)
listed x = map name_bytes (take x.count x.names)

abbrev pub lookup : List ℕ → List (List ℕ) → Option ℕ
lookup w names = position (λ n. bytes_eq n w) names
