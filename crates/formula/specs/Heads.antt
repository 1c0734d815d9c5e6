-- The words that a formula can begin with.
--
--   spelled      how a reserved word is written
--   among        the one of these reserved words that a word is, if any
--   reserved_head_of the reserved word that a word is, if any
--   head_of      what a formula that begins with the word is: a reserved word, or else a property by its number
--
-- Assumes nothing.
use Rattle.std.specs.Prelude.{ℕ, cond, List, [], ◌∷◌, Some, None, codes, Option}
use Rattle.std.specs.Str.{bytes_eq}
use Rattle.words.specs.Words.{lookup}
use Rattle.formula.specs.declared.OnePart.{OnePart}
use Rattle.formula.specs.declared.OnePart.TheVariants.{Ex, Eg, Ef, Ax, Ag, Af, Exw, Egw, Efw, Axw, Agw, Afw}
use Rattle.formula.specs.declared.TwoParts.{TwoParts}
use Rattle.formula.specs.declared.TwoParts.TheVariants.{Eu, Au, Euw, Auw}
use Rattle.formula.specs.declared.Node.{Node}
use Rattle.formula.specs.declared.Node.TheVariants.{True, Property, Not, Or, And, One, Two}
use Rattle.formula.specs.declared.heads.Temporal.TheVariants as temporal
use Rattle.formula.specs.declared.heads.Head.{Head}
use Rattle.formula.specs.declared.heads.Head.TheVariants as head

abbrev pub spelled_one : OnePart → List ℕ
spelled_one Ex = codes "ex"
spelled_one Eg = codes "eg"
spelled_one Ef = codes "ef"
spelled_one Ax = codes "ax"
spelled_one Ag = codes "ag"
spelled_one Af = codes "af"
spelled_one Exw = codes "exw"
spelled_one Egw = codes "egw"
spelled_one Efw = codes "efw"
spelled_one Axw = codes "axw"
spelled_one Agw = codes "agw"
spelled_one Afw = codes "afw"

abbrev pub spelled_two : TwoParts → List ℕ
spelled_two Eu = codes "eu"
spelled_two Au = codes "au"
spelled_two Euw = codes "euw"
spelled_two Auw = codes "auw"

-- a property has no spelling of its own, and a temporal word is spelled as such
abbrev pub spelled_plain : Node → List ℕ
spelled_plain True = codes "true"
spelled_plain (Property p) = []
spelled_plain Not = codes "not"
spelled_plain Or = codes "or"
spelled_plain And = codes "and"
spelled_plain (One w α) = []
spelled_plain (Two w α) = []

abbrev pub spelled : Head → List ℕ
spelled (head.Plain n) = spelled_plain n
spelled (head.Temporal (temporal.One w)) = spelled_one w
spelled (head.Temporal (temporal.Two w)) = spelled_two w

abbrev pub among : List Head → List ℕ → Option Head
among [] w = None
among (h ∷ hs) w = cond (bytes_eq w (spelled h)) (Some h) (among hs w)

abbrev pub either : Option Head → Option Head → Option Head
either None o = o
either (Some h) o = Some h

abbrev pub one : OnePart → Head
one w = head.Temporal (temporal.One w)

abbrev pub two : TwoParts → Head
two w = head.Temporal (temporal.Two w)

abbrev pub plain_heads : List Head
plain_heads = head.Plain True ∷ head.Plain Not ∷ head.Plain Or ∷ head.Plain And ∷ []

-- for some path
abbrev pub exists_heads : List Head
exists_heads = one Ex ∷ one Exw ∷ one Eg ∷ one Egw ∷ two Eu ∷ two Euw ∷ one Ef ∷ one Efw ∷ []

-- for every path
abbrev pub always_heads : List Head
always_heads = one Ax ∷ one Axw ∷ one Ag ∷ one Agw ∷ two Au ∷ two Auw ∷ one Af ∷ one Afw ∷ []

abbrev pub reserved_head_of : List ℕ → Option Head
reserved_head_of w = either (among plain_heads w) (either (among exists_heads w) (among always_heads w))

abbrev pub property_head_of : Option ℕ → Option Head
property_head_of None = None
property_head_of (Some p) = Some (head.Plain (Property p))

abbrev pub head_of : List ℕ → List (List ℕ) → Option Head
head_of w properties = either (reserved_head_of w) (property_head_of (lookup w properties))
