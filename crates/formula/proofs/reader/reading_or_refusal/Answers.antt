use Rattle.formula.proofs.SheetLaws.{never_both_ways}
use Rattle.formula.proofs.reader.reading_or_refusal.Goals as goal

pub returns : goal.returns
returns c = never_both_ways
