use Rattle.std.proofs.Common.{◌≡◌, ◌∙◌, length, inl, refl, arith, pow_mono}
use Rattle.std.proofs.lemmas.Iterator.Consumers.{YieldsList-from_first, count_from_yields_List}
use Rattle.store.specs.Frames.{frame_codes}
use Rattle.store.specs.Calls.{one_set}
use Rattle.store.proofs.Refusals.{ok_answers, answers_ok}
use Rattle.members.specs.Numbers.{Lists, number}
use Rattle.members.proofs.Counting.{number_le, number_says}
use Rattle.members.proofs.count.count.Given as given
use Rattle.members.proofs.count.count.Goals as goal
use Rattle.members.proofs.count.count.Goals.{In_ok-members_of}

long : (g : given.Over) (c : In_ok-members_of g) → length c.in_ok-members_of.field-0 ≡ number (g.S.Store.sets c.args.store.now c.args.i) (frame_codes (g.S.Store.frame c.args.store.now))
long g c =
    let s = c.args.store.now in
    let f = g.S.Store.frame s in
    let m = g.S.Store.sets s c.args.i in
    let lists = ok_answers c.in_ok-members_of.field-0 (Lists m) (one_set f c.args.i) c.in_ok-members_of.ensures in
    (number_says m (frame_codes f) (g.S.Store.coded s c.args.i)).0 c.in_ok-members_of.field-0 lists.1

pub count-requires-clause-fits : goal.count-requires-clause-fits
count-requires-clause-fits g c =
    let s = c.args.store.now in
    let f = g.S.Store.frame s in
    let same = long g (goal.at.count-requires-clause-fits g c).In_ok-members_of in
    let few = number_le (g.S.Store.sets s c.args.i) (frame_codes f) in
    inl (omega (arith, pow_mono (g.S.Store.sound s).limits.bits_most))

pub returns : goal.returns
returns g c =
    let s = c.args.store.now in
    let f = g.S.Store.frame s in
    let m = g.S.Store.sets s c.args.i in
    let cs = c.in_ok-members_of.field-0 in
    let found = ok_answers cs (Lists m) (one_set f c.args.i) c.in_ok-members_of.ensures in
    answers_ok c.count.result (λ n. n ≡ number m (frame_codes f)) (one_set f c.args.i) found.0
    (count_from_yields_List cs c.count.result c.count.ensures.ran (YieldsList-from_first (λ x. x) (λ rest. rest) cs refl)
    ∙ long g (goal.at.returns g c).In_ok-members_of)
