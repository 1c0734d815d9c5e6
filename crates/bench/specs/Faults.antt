-- The refusals of a bench.
--
--   fault_number    the number by which a fault is told
--   fault_text      how a fault is told in words
--   refusal_of      the fault of a judge whose evaluation was refused; no evaluation is refused by a fault of the store
--
-- Assumes nothing.
use Rattle.std.specs.Prelude.{ℕ, List, ◌++◌, codes}
use Rattle.std.specs.Fmt.{decimal}
use Rattle.evaluate.specs.declared.fault.EvaluateFault.{EvaluateFault}
use Rattle.evaluate.specs.declared.fault.EvaluateFault.TheVariants as evaluation
use Rattle.bench.specs.declared.fault.Fault.{Fault}
use Rattle.bench.specs.declared.fault.Fault.TheVariants.{Differ, TooFewSets, NothingJudged, NoSuchState, NotInUniverse, PlaceTooHigh}

abbrev pub fault_number : Fault → ℕ
fault_number Differ = 20
fault_number TooFewSets = 21
fault_number NothingJudged = 22
fault_number NoSuchState = 23
fault_number NotInUniverse = 24
fault_number PlaceTooHigh = 25

abbrev pub fault_text : Fault → List ℕ
fault_text n = codes "refused " ++ decimal (fault_number n)

abbrev pub refusal_of : EvaluateFault → Fault
refusal_of evaluation.Differ = Differ
refusal_of evaluation.TooFewSets = TooFewSets
refusal_of (evaluation.Store e) = TooFewSets
