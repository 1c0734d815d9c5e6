-- Answers in words.
--
--   code_text      a code, or that there is none
--   answer_text    an answer, after the word for what it tells
--
-- Assumes nothing.
use Rattle.std.specs.Prelude.{ℕ, cond, List, ◌++◌, Some, None, Option, codes}
use Rattle.std.specs.Fmt.{decimal}
use Rattle.bench.specs.declared.call.Answer.{Answer}
use Rattle.bench.specs.declared.call.Answer.TheVariants.{Rounds, Holds, Next, Count, Smallest, Least}

abbrev pub code_text : Option ℕ → List ℕ
code_text None = codes "none"
code_text (Some c) = decimal c

abbrev pub answer_text : Answer → List ℕ
answer_text (Rounds n) = codes "rounds " ++ decimal n
answer_text (Holds b) = codes "holds " ++ cond b (codes "yes") (codes "no")
answer_text (Next o) = codes "next " ++ code_text o
answer_text (Count n) = codes "count " ++ decimal n
answer_text (Smallest o) = codes "smallest " ++ code_text o
answer_text (Least o) = codes "least " ++ code_text o
