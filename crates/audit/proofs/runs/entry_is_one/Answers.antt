use Rattle.audit.proofs.Entries.{entry_some, entry_unique}
use Rattle.audit.proofs.runs.entry_is_one.Goals as goal

pub returns : goal.returns
returns c = λ M F e cs n.
    let d = entry_some M F cs e n in
    (d.0, d.1, (λ b h. entry_unique M F cs e n b d.0 h d.1))
