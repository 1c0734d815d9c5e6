use Rattle.bench.proofs.Ledger.{enters_some, enters_unique}
use Rattle.bench.proofs.laws.entries_are_unique.Goals as goal

pub returns : goal.returns
returns c = λ M F e x.
    let d = enters_some M F x e in
    (d.0, d.1, (λ b h. enters_unique M F x e b d.0 h d.1))
