use Rattle.std.proofs.Common.{get_or, take, refl, arith}
use Rattle.std.proofs.lemmas.Bool.{false≢true}
use Rattle.formula.specs.declared.Node.TheVariants.{True}
use Rattle.formula.proofs.WholeLoops.{due_none, due_outside, due_more, due_last, arity_two}
use Rattle.formula.proofs.Formula.is_whole.Goals as goal
use Rattle.formula.proofs.Formula.is_whole.Goals.{then-due-eq0-via-then-due-eq0, then-due-eq0-via-else-due-eq0+then-not-has_node}

pub returns-then-due-eq0 : goal.returns-then-due-eq0
returns-then-due-eq0 c = (
  λ h. absurd (false≢true h),
  λ w. elim c.then-due-eq0.branch [
    | then-due-eq0-via-then-due-eq0 b ↦ absurd (due_none c.args.self.now c.if-self-gt64.false c.loop-node.due c.loop-node.node-index c.loop-node.invariant c.loop-node-test.true b.if-due-eq0.true w)
    | then-due-eq0-via-else-due-eq0+then-not-has_node b ↦ absurd (due_outside c.args.self.now c.if-self-gt64.false c.loop-node.due c.loop-node.node-index c.loop-node.invariant c.loop-node-test.true b.if-due-eq0.false (λ h. false≢true (b.if-not-has_node.ensures.1 h)) w)
  ],
)

pub loop-node-preserved : goal.loop-node-preserved
loop-node-preserved c =
    let node = get_or (take c.args.self.now.node_count c.args.self.now.nodes) c.loop-node.node-index True in
    due_more c.args.self.now c.if-self-gt64.false c.loop-node.due c.loop-node.node-index c.loop-node.invariant c.loop-node-test.true c.if-due-eq0.false (c.if-not-has_node.ensures.0 refl) c.parts.result c.parts.ensures (omega (arith, c.parts.ensures, arity_two node))

pub returns : goal.returns
returns c = due_last c.args.self.now c.if-self-gt64.false c.loop-node.due c.loop-node.node-index c.loop-node.invariant c.loop-node-test.false
