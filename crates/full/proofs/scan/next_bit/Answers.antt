use Rattle.std.proofs.Common.{◌/◌, arith}
use Rattle.full.proofs.Scanning.{first_head, first_rest, first_none}
use Rattle.full.proofs.scan.next_bit.Goals as goal

pub returns-then-first-span : goal.returns-then-first-span
returns-then-first-span c = first_none c.args.span.now c.args.c (c.args.c / 8) (omega arith) (λ d le lt. absurd (omega arith))

pub returns-then-head-ne0 : goal.returns-then-head-ne0
returns-then-head-ne0 c = first_head c.args.span.now c.args.c (omega arith) (omega arith) (omega arith)

pub returns : goal.returns
returns c = first_rest c.args.span.now c.args.c c.seek.result (omega arith) c.seek.ensures
