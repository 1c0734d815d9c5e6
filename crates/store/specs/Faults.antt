-- The refusals of shapes and stores.
--
--   fault_number    the number by which a fault is told
--
-- Assumes nothing.
use Rattle.std.specs.Prelude.{ℕ}
use Rattle.store.specs.declared.fault.Fault.{Fault}
use Rattle.store.specs.declared.fault.Fault.TheVariants.{NoShape, NoValuation, NoSuchSet, NoSuchBit, CodeTooHigh}

abbrev pub fault_number : Fault → ℕ
fault_number NoShape = 30
fault_number NoValuation = 31
fault_number NoSuchSet = 32
fault_number NoSuchBit = 33
fault_number CodeTooHigh = 34
