-- The refusals of the readers: number and position by case.
--
-- Assumes nothing.
use Rattle.std.specs.Prelude.{ℕ}
use Rattle.words.specs.declared.Fault.{Fault}
use Rattle.words.specs.declared.Fault.TheVariants.{TooLong, ForeignByte, TextEnds, BadCount, BadName, NameTaken, NotNamed, Repeated, TooManyBits, BadBraces, TooDeep, TooManyNodes}

abbrev pub number : Fault → ℕ
number TooLong = 1
number (ForeignByte p) = 2
number (TextEnds p) = 3
number (BadCount p) = 4
number (BadName p) = 5
number (NameTaken p) = 6
number (NotNamed p) = 7
number (Repeated p) = 8
number (TooManyBits p) = 9
number (BadBraces p) = 10
number (TooDeep p) = 11
number (TooManyNodes p) = 12

-- the longest text has 32,768 bytes
abbrev pub text_limit : ℕ
text_limit = 32768

abbrev pub position : Fault → ℕ
position TooLong = text_limit
position (ForeignByte p) = p
position (TextEnds p) = p
position (BadCount p) = p
position (BadName p) = p
position (NameTaken p) = p
position (NotNamed p) = p
position (Repeated p) = p
position (TooManyBits p) = p
position (BadBraces p) = p
position (TooDeep p) = p
position (TooManyNodes p) = p
