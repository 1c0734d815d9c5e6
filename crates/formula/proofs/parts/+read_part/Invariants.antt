use Rattle.std.proofs.Common.{◌-◌}
use Rattle.words.specs.Words.{listed}
use Rattle.formula.proofs.PartWalks.{SoFar}
use Rattle.formula.proofs.parts.+read_part.Given as goal

abbrev pub decreases-read_part : goal.decreases-read_part
decreases-read_part l = 13 - l.depth

abbrev pub invariant-loop : goal.invariant-loop
invariant-loop l = SoFar l.names.vocabulary.now (listed l.names.variables.now) l.fn.reader l.depth l.fn.arena (l.end - l.counter) l.arena l.reader
