use Rattle.std.proofs.Common.{◌≡◌, ◌≤◌, drop}
use Rattle.words.specs.Words.{decimal, limited, counted}
use Rattle.words.proofs.count_of.Given as goal

abbrev pub invariant-loop-b : goal.invariant-loop-b
invariant-loop-b l = (l.n ≤ l.high) × (limited l.low l.high (decimal l.n (drop l.b-index l.word)) ≡ counted l.word l.low l.high)
