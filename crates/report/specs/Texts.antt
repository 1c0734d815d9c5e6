-- The lines of a report that stand around those of codes.
--
--   heading      the first line of a formula's report: how many codes are listed, how many there are, and the rounds
--   refusal      the line of a refusal: its number, and its position in the text
--   code_line    the line of a code
--   report_text  the report of a formula from the codes that are listed, how many there are, and the rounds
--
-- Numbers are decimal, without leading zeros. Assumes nothing.
use Rattle.std.specs.Prelude.{ℕ, List, ◌++◌, length, codes, decimal}
use Rattle.std.specs.List.{flat_map}
use Rattle.report.specs.Lines.{line, line_end}

abbrev pub heading : ℕ → ℕ → ℕ → List ℕ
heading held all rounds =
    codes "held " ++ (decimal held ++ (codes " of " ++ (decimal all ++ (codes " rounds " ++ (decimal rounds ++ line_end)))))

abbrev pub refusal : ℕ → ℕ → List ℕ
refusal number at = codes "refused " ++ (decimal number ++ (codes " at " ++ (decimal at ++ line_end)))

abbrev pub code_line : List (List ℕ) → List (List ℕ) → ℕ → List ℕ
code_line actions variables c = line actions variables c ++ line_end

abbrev pub report_text : List (List ℕ) → List (List ℕ) → List ℕ → ℕ → ℕ → List ℕ
report_text actions variables listed all rounds = heading (length listed) all rounds ++ flat_map (code_line actions variables) listed
