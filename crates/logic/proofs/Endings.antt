-- The words and the words with w on the table whose paths end, by computing them.
use Rattle.std.proofs.Common.{◌≡◌, true, false, refl, lit<}
use Rattle.std.proofs.lemmas.Bool.{both_ways}
use Rattle.logic.specs.Formulas.{Formula}
use Rattle.logic.specs.Table.{Sound}
use Rattle.logic.specs.Core.{core}
use Rattle.logic.specs.Deciding.{has, decided}
use Rattle.logic.specs.Endings.{ending, Apart, EndingsDiffer}
use Rattle.logic.proofs.Deciding.{rounds_decide}

sound : Sound ending
sound = (record { from_inside = lit< tt; action_inside = lit< tt; to_inside = lit< tt }, tt)

apart : (f g : Formula) → has (decided ending 0 (core f)) 0 ≡ true → has (decided ending 0 (core g)) 0 ≡ false → Apart f g
apart f g a b = record {
  holds = (rounds_decide ending sound 0 0 f (lit< tt)).0 a;
  fails = λ x. both_ways (has (decided ending 0 (core g)) 0) b ((rounds_decide ending sound 0 0 g (lit< tt)).1 x);
}

pub endings_differ : EndingsDiffer
endings_differ = record {
  ex_differs = apart _ _ refl refl;
  eg_differs = apart _ _ refl refl;
  ef_differs = apart _ _ refl refl;
  eu_differs = apart _ _ refl refl;
  ax_differs = apart _ _ refl refl;
  ag_differs = apart _ _ refl refl;
  af_differs = apart _ _ refl refl;
  au_differs = apart _ _ refl refl;
}
