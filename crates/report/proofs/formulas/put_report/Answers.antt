use Rattle.std.proofs.Common.{◌≡◌, ℕ, List, map, length, sym, ap, ◌∙◌}
use Rattle.store.specs.Frames.{frame_codes}
use Rattle.store.specs.Calls.{one_set}
use Rattle.store.proofs.Refusals.{ok_answers}
use Rattle.words.specs.Words.{name_bytes}
use Rattle.members.specs.Numbers.{number}
use Rattle.report.specs.Listings.{below}
use Rattle.report.specs.Texts.{heading, code_line}
use Rattle.report.proofs.Laying.{lays_then, lays_same}
use Rattle.report.proofs.Listing.{length_below}
use Rattle.report.proofs.Telling.{cases_to}
use Rattle.report.proofs.formulas.put_report.Goals as goal

pub returns : goal.returns
returns g c =
    let s = c.args.store.now in
    let f = g.S.Store.frame s in
    let n = frame_codes f in
    let m = g.S.Store.sets s c.args.set in
    let u = g.S.Store.sets s 0 in
    let held = (ok_answers c.in_ok-held.held (λ k. k ≡ number m n) (one_set f c.args.set) c.in_ok-held.ensures).1 ∙ sym (length_below m n) in
    let all = (ok_answers c.in_ok-all.all (λ k. k ≡ number u n) (one_set f 0) c.in_ok-all.ensures).1 ∙ sym (length_below u n) in
    let text : ℕ → List ℕ = code_line (map name_bytes c.args.names.now.actions.now) (map name_bytes c.args.names.now.variables.now) in
    cases_to c.put_codes.result _ _
    (λ _ lays.
    lays_then
    (lays_same (ap (λ h. heading h c.in_ok-all.all c.args.rounds) held ∙ ap (λ a. heading (length (below m n)) a c.args.rounds) all) c.put_heading.ensures)
    lays)
    c.put_codes.ensures
