-- The test of a valuation, in the form in which a test is used.
use Rattle.std.proofs.Common.{ℕ, Decides}
use Rattle.logic.specs.Codes.{valuation, Valuation}
use Rattle.logic.proofs.Inclusion.{valuation_tested}

pub valuation_decides : (actions variables c : ℕ) → Decides (valuation actions variables c) (Valuation actions variables c)
valuation_decides actions variables c = valuation_tested actions variables c
