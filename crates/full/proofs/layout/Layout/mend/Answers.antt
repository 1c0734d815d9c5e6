use Rattle.std.proofs.Common.{arith}
use Rattle.full.proofs.Merging.{mended, mended_whole}
use Rattle.full.proofs.layout.Layout.mend.Goals as goal

pub returns-then-self : goal.returns-then-self
returns-then-self c = mended c.args.span.now c.args.before c.args.self.now.mask (omega arith) (omega arith)

pub returns-else-self : goal.returns-else-self
returns-else-self c = mended_whole c.args.span.now c.args.before c.args.self.now.mask (omega arith)
