-- The reserved words by kind.
--
--   connectives  true, not, or, and
--   some_words   the temporal words that speak of some path;  all_words  those that speak of all
--
-- Assumes nothing.
use Rattle.std.specs.Prelude.{ℕ, List, [], ◌∷◌, codes}

abbrev pub connectives : List (List ℕ)
connectives = codes "true" ∷ codes "not" ∷ codes "or" ∷ codes "and" ∷ []

abbrev pub some_words : List (List ℕ)
some_words =
    codes "ex" ∷ codes "exw" ∷ codes "eg" ∷ codes "egw" ∷ codes "eu" ∷ codes "euw" ∷ codes "ef" ∷ codes "efw" ∷ []

abbrev pub all_words : List (List ℕ)
all_words =
    codes "ax" ∷ codes "axw" ∷ codes "ag" ∷ codes "agw" ∷ codes "au" ∷ codes "auw" ∷ codes "af" ∷ codes "afw" ∷ []
