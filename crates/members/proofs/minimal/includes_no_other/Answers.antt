use Rattle.std.proofs.Common.{◌≡◌, Bool, true, false, not, Decides, ℕ, ◌*◌, ◌^◌, ◌<◌, nat_lt, rules, tests, refl}
use Rattle.std.proofs.lemmas.Bool.{both_ways, not-true, not-false}
use Rattle.std.proofs.lemmas.Iterator.{cases_from_all}
use Rattle.std.proofs.lemmas.Iterator.Consumers.{YieldsList-at, YieldsList-from_first}
use Rattle.std.proofs.lemmas.Iterator.Search.{YieldsList-from_take_while}
use Rattle.logic.specs.Codes.{Includes}
use Rattle.store.specs.Calls.{one_set}
use Rattle.store.proofs.Refusals.{ok_answers, answers_ok}
use Rattle.members.specs.Numbers.{Lists}
use Rattle.members.specs.Minimal.{IncludesNoOther}
use Rattle.members.proofs.Minima.{no_other_listed}
use Rattle.members.proofs.minimal.includes_no_other.Goals as goal

-- what a call of the closure tells of the code d
abbrev Tells : ℕ → ℕ → Bool → Type 0
Tells c d b = (r : Bool) × (not r ≡ b) × ((actions variables : ℕ) → d < 2 ^ (actions * variables) → Decides r (Includes actions variables c d))

lacks : (actions variables c d : ℕ) → Tells c d true → d < 2 ^ (actions * variables) → Includes actions variables c d → ⊥
lacks actions variables c d t low has = both_ways t.0 (not-true t.0 t.1) ((t.2 actions variables low).1 has)

has : (actions variables c d : ℕ) → Tells c d false → d < 2 ^ (actions * variables) → Includes actions variables c d
has actions variables c d t low = (t.2 actions variables low).0 (not-false t.0 t.1)

pub returns : goal.returns
returns g c =
    let s = c.args.store.now in
    let f = g.S.Store.frame s in
    let m = g.S.Store.sets s c.args.i in
    let cs = c.in_ok-members_of.field-0 in
    let found = ok_answers cs (Lists m) (one_set f c.args.i) c.in_ok-members_of.ensures in
    let below : ℕ → Bool = λ d. nat_lt d c.args.c in
    let Lacks : ℕ → Type 0 = λ d. d < 2 ^ (f.actions * f.variables) → Includes f.actions f.variables c.args.c d → ⊥ in
    let Has : ℕ → Type 0 = λ d. d < 2 ^ (f.actions * f.variables) → Includes f.actions f.variables c.args.c d in
    answers_ok c.all.result (λ b. Decides b (IncludesNoOther f.actions f.variables m c.args.c)) (one_set f c.args.i) found.0
    (no_other_listed f.actions f.variables m (g.S.Store.coded s c.args.i) c.args.c cs found.1 c.all.result
    (cases_from_all _ _ _ Lacks Has c.all.ensures.ran
    (YieldsList-from_take_while _ below (YieldsList-at c.take_while.ensures.source (YieldsList-from_first (λ x. x) (λ rest. rest) cs refl)) c.take_while.ensures.closure c.take_while.ensures.done (λ x b q k. search (rules, tests)))
    (λ x q k. (search rules, lacks f.actions f.variables c.args.c x (search rules)))
    (λ x q k. has f.actions f.variables c.args.c x (search rules))))
