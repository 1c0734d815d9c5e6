use Rattle.std.proofs.Common.{◌-◌, ◌<◌, ◌≤◌, arith}
use Rattle.store.specs.Frames.{frame_codes}
use Rattle.store.specs.Calls.{set_and_start}
use Rattle.store.proofs.Refusals.{answers_ok, set_and_start_none}
use Rattle.members.specs.Listed.{ListsFrom, listed}
use Rattle.members.proofs.Listing.{listed_lists}
use Rattle.members.proofs.walk.members_from.Goals as goal

pub returns : goal.returns
returns g c =
    let s = c.args.store.now in
    let f = g.S.Store.frame s in
    let m = g.S.Store.sets s c.args.i in
    let inside : c.args.i < f.count = omega (arith, c.set_count.ensures, c.if-i-set_count.false) in
    let within = rw (c.actions.ensures, c.variables.ensures) at c.if-from-actions.false in
    let low : c.args.from ≤ frame_codes f = omega arith in
    answers_ok (listed m c.args.from (frame_codes f - c.args.from)) (ListsFrom m c.args.from) (set_and_start f c.args.i c.args.from) (set_and_start_none f c.args.i c.args.from inside low)
    (listed_lists m c.args.from (frame_codes f) (g.S.Store.coded s c.args.i))
