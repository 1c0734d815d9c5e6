use Rattle.std.proofs.Common.{◌≡◌, ◌-◌, ◌≤◌, length}
use Rattle.model.specs.Content.{Content}
use Rattle.model.specs.Grammar.{Admissible}
use Rattle.model.specs.Values.{model_of}
use Rattle.report.proofs.Sheeting.{SoFar}
use Rattle.report.proofs.sheets.Sheets.lay.Given as goal

abbrev pub invariant-loop-first : goal.invariant-loop-first
invariant-loop-first l =
    (l.at ≤ length l.self.text.now)
    × ((c : Content) → Admissible c → l.self.model.now ≡ model_of c → SoFar l.self.text.now (length l.initial.store) c l.initial.at l.at l.initial.printer l.printer)

abbrev pub decreases-loop-first : goal.decreases-loop-first
decreases-loop-first l = length l.self.text.now - l.at
