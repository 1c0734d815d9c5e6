use Rattle.std.proofs.Common.{◌≡◌, ℕ, ◌-◌, length, Option, Some, None, sym, ap, ◌∙◌, subst, arith}
use Rattle.store.specs.Frames.{frame_codes}
use Rattle.store.specs.Least.{Least}
use Rattle.members.proofs.Listing.{found, listed_none, listed_some}
use Rattle.members.proofs.walk.MembersIterator.next.Given as given
use Rattle.members.proofs.walk.MembersIterator.next.Goals as goal
use Rattle.members.proofs.walk.MembersIterator.next.Goals.{After-unwrap_or}

step : (g : given.Over) (c : After-unwrap_or g) (o : Option ℕ) → c.unwrap_or.result ≡ o → Least (g.S.Store.sets c.self.inside.store.now c.self.inside.set) c.self.inside.from o
step g c o was =
    let s = c.self.inside in
    let f = g.S.Store.frame s.store.now in
    let m = g.S.Store.sets s.store.now s.set in
    let P : Option ℕ → Type 0 = Least m s.from in
    subst P (sym c.unwrap_or.ensures ∙ was) (found f m s.set s.from c.next.result c.next.ensures c.self.invariant.0 c.self.invariant.1)

pub returns-in_err-c-clause-steps : goal.returns-in_err-c-clause-steps
returns-in_err-c-clause-steps g c =
    let s = c.self.inside in
    let f = g.S.Store.frame s.store.now in
    let m = g.S.Store.sets s.store.now s.set in
    let none = step g (goal.at.returns-in_err-c-clause-steps g c).After-unwrap_or None c.in_err-c.was in
    let empty = sym c.self.view_is ∙ listed_none m s.from (frame_codes f - s.from) none in
    rw c.from_residual.ensures (empty, empty)

pub returns-clause-steps : goal.returns-clause-steps
returns-clause-steps g c =
    let s = c.self.inside in
    let f = g.S.Store.frame s.store.now in
    let m = g.S.Store.sets s.store.now s.set in
    let least = step g (goal.at.returns-clause-steps g c).After-unwrap_or (Some c.in_ok-c.c) c.in_ok-c.was in
    let below = g.S.Store.coded s.store.now s.set c.in_ok-c.c least.1 in
    sym c.self.view_is ∙ listed_some m s.from c.in_ok-c.c (frame_codes f) least c.self.invariant.1 below

pub returns-clause-goes : goal.returns-clause-goes
returns-clause-goes g c = let shorter = ap length (returns-clause-steps g c) in record { on = λ _. (tt, tt, omega arith); keeps = tt; rests = λ _. tt }
