use Rattle.std.proofs.Common.{ℕ, ◌+◌, ◌/◌, ◌%◌, ◌^◌, Bool, List, [], map, get_or, sym, ap, ◌∙◌}
use Rattle.std.proofs.lemmas.List.{get_or-map}
use Rattle.std.proofs.lemmas.Bool.{eq-eqb, ne_eqb}
use Rattle.logic.specs.Codes.{bit}
use Rattle.words.specs.Words.{name_bytes}
use Rattle.report.specs.Lines.{spaced, gap, none, passing}
use Rattle.report.proofs.Laying.{lays_same, lays_to}
use Rattle.report.proofs.Spacing.{spaced_lays, none_push, passing_yes, passing_no}
use Rattle.report.proofs.printer.Printer.put_actions.Goals as goal
use Rattle.report.proofs.printer.Printer.put_actions.Goals.{then-code-position-eq1, else-code-position-eq1}

pub loop-a-preserved : goal.loop-a-preserved
loop-a-preserved c =
    let names : List (List ℕ) = map name_bytes c.args.actions.now in
    let test : ℕ → Bool = λ a. bit c.args.code (c.args.position + a) in
    let a = c.loop-a.a in
    let ws = passing test names a in
    elim c.if-code-position-eq1.branch [
      | then-code-position-eq1 w ↦
          let more = passing_yes test names a (eq-eqb (c.args.code / 2 ^ (c.args.position + a) % 2) 1 w.if-code-position-eq1.true) in
          let here = get_or-map name_bytes c.args.actions.now a _ [] c.loop-a-test.true in (
            lays_to w.self-is (lays_same (ap spaced (sym more)) (spaced_lays ws (get_or names a []) c.loop-a.invariant.1 c.loop-a.invariant.0 w.put_bytes.ensures (lays_same (w.as_bytes.ensures ∙ sym here) w.put_bytes-then-code-position-eq1.ensures))),
            ap (λ g. g.now) w.gap-is ∙ ap gap (sym (none_push ws (get_or names a []))) ∙ ap (λ z. gap (none z)) (sym more),
          )
      | else-code-position-eq1 w ↦
          let same = passing_no test names a (ne_eqb (c.args.code / 2 ^ (c.args.position + a) % 2) 1 w.if-code-position-eq1.false) in (
            lays_to w.self-is (lays_same (ap spaced (sym same)) c.loop-a.invariant.0),
            ap (λ g. g.now) w.gap-is ∙ c.loop-a.invariant.1 ∙ ap (λ z. gap (none z)) (sym same),
          )
    ]
