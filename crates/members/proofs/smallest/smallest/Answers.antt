use Rattle.std.proofs.Common.{rules, refl}
use Rattle.store.specs.Calls.{one_set}
use Rattle.store.proofs.Refusals.{ok_answers, answers_ok}
use Rattle.members.specs.Numbers.{Lists}
use Rattle.members.specs.Smallest.{Smallest}
use Rattle.members.proofs.Firsts.{smallest_listed}
use Rattle.members.proofs.smallest.smallest.Goals as goal

pub returns : goal.returns
returns g c =
    let s = c.args.store.now in
    let f = g.S.Store.frame s in
    let m = g.S.Store.sets s c.args.i in
    let cs = c.in_ok-members_of.field-0 in
    let found = ok_answers cs (Lists m) (one_set f c.args.i) c.in_ok-members_of.ensures in
    answers_ok c.min_by_key.result (Smallest m) (one_set f c.args.i) found.0
    (smallest_listed m cs found.1 _ (tt {0}) (λ a r q k. refl) (λ x k h. search rules) c.min_by_key.result c.min_by_key.ensures.runs)
