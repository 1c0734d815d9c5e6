-- A result told as an answer. Assumes nothing.
use Rattle.std.proofs.Common.{◌≡◌, Ok, Err, Result, ap}
use Rattle.std.specs.Result.{MatchResult, IsOkAnd}
use Rattle.bench.specs.declared.fault.Fault.{Fault}
use Rattle.bench.specs.declared.call.Answer.{Answer}
use Rattle.bench.specs.Ledger.{answered}

pub answered_from : {X : Type 0} (A : X → Answer) (r : Result X Fault) (y : Result Answer Fault)
    → MatchResult r (λ x. IsOkAnd y (λ a. a ≡ A x)) (λ n. y ≡ Err n) → y ≡ answered A r
answered_from A (Ok x) (Ok a) h = ap Ok h
answered_from A (Ok x) (Err m) h = absurd h
answered_from A (Err n) y h = h
