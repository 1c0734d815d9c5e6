use Rattle.std.proofs.Common.{◌≡◌, rules, tests}
use Rattle.store.specs.Singles.{code_held, marked, single_frame}
use Rattle.store.proofs.Marks.{same_marks}
use Rattle.store.proofs.Refusals.{answers_ok, found_set, two_sets_none}
use Rattle.store.proofs.single.SingleStore.same.Goals as goal

pub returns : goal.returns
returns c =
    let s = c.args.self.now in
    let i = c.args.i in
    let j = c.args.j in
    let one = found_set _ (λ b. b ≡ marked s.cells.now i) (single_frame s) i c.in_ok-holds.ensures in
    let two = found_set _ (λ b. b ≡ marked s.cells.now j) (single_frame s) j c.in_ok-holds-2.ensures in
    answers_ok _ _ _ (two_sets_none (single_frame s) i j one.0 two.0)
    (same_marks (code_held s.shape s.code) _ (marked s.cells.now i) (marked s.cells.now j) (search (rules, tests)))
