use Rattle.std.proofs.Common.{◌≡◌, ◌-◌, ◌^◌, ◌<◌, length}
use Rattle.words.specs.Words.{listed}
use Rattle.words.specs.Walks.{Walks}
use Rattle.formula.specs.Braces.{brace_rules, inside}
use Rattle.formula.proofs.braces.read_braces.Given as goal

abbrev pub invariant-loop-bytes : goal.invariant-loop-bytes
invariant-loop-bytes l = (l.set < 2 ^ 12) × (l.reader.text ≡ l.fn.reader.text) × Walks (brace_rules (listed l.actions)) l.fn.reader.text.now (inside 0) l.fn.reader.at (inside l.set) l.reader.at

abbrev pub decreases-loop-bytes : goal.decreases-loop-bytes
decreases-loop-bytes l = length l.reader.text.now - l.reader.at
