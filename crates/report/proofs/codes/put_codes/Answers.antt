use Rattle.std.proofs.Common.{◌≡◌, ℕ, true, List, [], map, sym, ap, ◌∙◌}
use Rattle.std.specs.List.{flat_map}
use Rattle.std.proofs.lemmas.List.{flat_map_more, map-id}
use Rattle.std.proofs.lemmas.Iterator.Consumers.{YieldsList-from_first, YieldsList-end}
use Rattle.store.specs.Frames.{frame_codes}
use Rattle.store.specs.Calls.{one_set}
use Rattle.store.proofs.Refusals.{ok_answers}
use Rattle.words.specs.Words.{name_bytes}
use Rattle.members.specs.Numbers.{Lists}
use Rattle.report.specs.Listings.{below}
use Rattle.report.specs.Texts.{code_line}
use Rattle.report.proofs.Laying.{lays_then, lays_same}
use Rattle.report.proofs.Listing.{below_names, names_unique}
use Rattle.report.proofs.codes.put_codes.Goals as goal

pub loop-c-preserved : goal.loop-c-preserved
loop-c-preserved g c =
    let text : ℕ → List ℕ = code_line (map name_bytes c.args.names.now.actions.now) (map name_bytes c.args.names.now.variables.now) in (
      tt,
      tt,
      lays_same (flat_map_more text [] c.loop-c.yielded c.in-Some.c) (lays_then {xs = flat_map text c.loop-c.yielded} {ys = text c.in-Some.c} c.loop-c.invariant.2 c.put_line.ensures),
    )

pub returns : goal.returns
returns g c =
    let s = c.args.store.now in
    let m = g.S.Store.sets s c.args.set in
    let cs = c.in_ok-c-items.c-items in
    let lists = (ok_answers cs (Lists m) (one_set (g.S.Store.frame s) c.args.set) c.in_ok-c-items.ensures).1 in
    let Member : ℕ → Type 0 = λ d. m d ≡ true in
    let listed : cs ≡ below m (frame_codes (g.S.Store.frame s)) =
    names_unique Member cs (below m (frame_codes (g.S.Store.frame s))) (record { ascending = lists.ascending; sound = lists.sound; whole = lists.whole })
    (below_names m (frame_codes (g.S.Store.frame s)) Member (g.S.Store.coded s c.args.set) (λ d e. e) (λ d e. e)) in
    let all = (YieldsList-end (YieldsList-from_first (λ x. x) (λ rest. rest) cs cc) c.loop-c.yielded _ c.loop-c.yielded_by _ _ c.in-None.is c.next.ensures.steps).0 in
    let text : ℕ → List ℕ = code_line (map name_bytes c.args.names.now.actions.now) (map name_bytes c.args.names.now.variables.now) in
    lays_same (ap (flat_map text) (sym (map-id c.loop-c.yielded) ∙ all ∙ listed)) c.loop-c.invariant.2
