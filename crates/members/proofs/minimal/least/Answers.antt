use Rattle.std.proofs.Common.{◌≡◌, ℕ, ◌+◌, ◌<◌, ◌≤◌, List, ◌∷◌, Some, Decides, subst, ⊎_elim, arith}
use Rattle.std.proofs.lemmas.Bool.{both_ways, cases_lt}
use Rattle.std.proofs.lemmas.Bool.Decides.{not_from_Decides}
use Rattle.store.specs.Calls.{one_set, set_and_start}
use Rattle.store.proofs.Refusals.{answers_ok, ok_answers}
use Rattle.members.specs.Listed.{ListsFrom}
use Rattle.members.specs.Minimal.{IncludesNoOther, Minimal, LeastMinimal}
use Rattle.members.proofs.Listing.{first_gap, rest_lists}
use Rattle.members.proofs.minimal.least.Given as given
use Rattle.members.proofs.minimal.least.Goals as goal
use Rattle.members.proofs.minimal.least.Goals.{In_ok-includes_no_other}

-- the member at hand heads those that are left
lists : (g : given.Over) (c : In_ok-includes_no_other g) → ListsFrom (g.S.Store.sets c.args.store.now c.args.i) c.loop-c.invariant.2 (c.in-Some.c ∷ c.next.new.self)
lists g c =
    let P : List ℕ → Type 0 = ListsFrom (g.S.Store.sets c.args.store.now c.args.i) c.loop-c.invariant.2 in subst P c.in-Some.ensures.steps c.loop-c.invariant.4

-- and no member below it includes no other
lower : (g : given.Over) (c : In_ok-includes_no_other g) (d : ℕ) → c.args.from ≤ d → d < c.in-Some.c
    → Minimal (g.S.Store.frame c.args.store.now).actions (g.S.Store.frame c.args.store.now).variables (g.S.Store.sets c.args.store.now c.args.i) d → ⊥
lower g c d le lt least =
    let m = g.S.Store.sets c.args.store.now c.args.i in
    let inv = c.loop-c.invariant in
    ⊎_elim
    (λ before. inv.5 d le before least)
    (λ after. both_ways (m d) (first_gap m inv.2 c.in-Some.c c.next.new.self (lists g c) d after lt) least.member)
    (cases_lt d inv.2)

alone : (g : given.Over) (c : In_ok-includes_no_other g)
    → Decides c.in_ok-includes_no_other.field-0 (IncludesNoOther (g.S.Store.frame c.args.store.now).actions (g.S.Store.frame c.args.store.now).variables (g.S.Store.sets c.args.store.now c.args.i) c.in-Some.c)
alone g c =
    let f = g.S.Store.frame c.args.store.now in
    let m = g.S.Store.sets c.args.store.now c.args.i in
    (ok_answers c.in_ok-includes_no_other.field-0 (λ b. Decides b (IncludesNoOther f.actions f.variables m c.in-Some.c)) (one_set f c.args.i) c.in_ok-includes_no_other.ensures).1

pub returns-then-branch : goal.returns-then-branch
returns-then-branch g c =
    let f = g.S.Store.frame c.args.store.now in
    let m = g.S.Store.sets c.args.store.now c.args.i in
    let here = (goal.at.returns-then-branch g c).In_ok-includes_no_other in
    let first = lists g here in
    let low = first.low 0 (omega arith) in
    let after = c.loop-c.invariant.3 in
    answers_ok (Some c.in-Some.c) (LeastMinimal f.actions f.variables m c.args.from) (set_and_start f c.args.i c.args.from)
    (ok_answers c.in_ok-c-items.c-items (ListsFrom m c.args.from) (set_and_start f c.args.i c.args.from) c.in_ok-c-items.ensures).0
    (omega arith, record { member = first.sound 0 (omega arith); no_other = (alone g here).0 c.if-branch.true }, lower g here)

pub loop-c-preserved : goal.loop-c-preserved
loop-c-preserved g c =
    let m = g.S.Store.sets c.args.store.now c.args.i in
    let x = c.in-Some.c in
    let here = (goal.at.loop-c-preserved g c).In_ok-includes_no_other in
    let first = lists g here in
    let low = first.low 0 (omega arith) in
    let after = c.loop-c.invariant.3 in (
      tt,
      tt,
      x + 1,
      omega arith,
      rest_lists m c.loop-c.invariant.2 x c.next.new.self first,
      λ d le lt least.
          ⊎_elim
          (λ before. lower g here d le before least)
          (λ now.
          let same : d ≡ x = omega arith in
          let P : ℕ → Type 0 = IncludesNoOther (g.S.Store.frame c.args.store.now).actions (g.S.Store.frame c.args.store.now).variables m in
          not_from_Decides c.in_ok-includes_no_other.field-0 (alone g here) c.if-branch.false (subst P same least.no_other))
          (cases_lt d x),
    )
