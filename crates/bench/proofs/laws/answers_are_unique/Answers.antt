use Rattle.bench.proofs.Ledger.{says_unique}
use Rattle.bench.proofs.laws.answers_are_unique.Goals as goal

pub returns : goal.returns
returns c = λ M sound F lawful e x a b h k. says_unique M sound F lawful e x a b h k
