-- What holds of a plain name.
use Rattle.std.proofs.Common.{◌≡◌, ℕ, ◌≤◌, true, ltb, List, length}
use Rattle.std.proofs.lemmas.Bool.{and_parts, leb-true}
use Rattle.words.specs.declared.Letters.TheVariants.{Lower}
use Rattle.words.specs.Words.{named}

-- a name has at most eight bytes
pub name_short : (w : List ℕ) → named Lower w ≡ true → length w ≤ 8
name_short w h = leb-true (length w) 8 (and_parts _ _ (and_parts (ltb 0 (length w)) _ h).1).0
