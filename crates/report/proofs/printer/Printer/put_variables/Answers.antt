use Rattle.std.proofs.Common.{◌*◌, refl, [], map, length, sym, ap, ◌∙◌}
use Rattle.std.proofs.lemmas.List.{get_or-map}
use Rattle.words.specs.Words.{name_bytes}
use Rattle.report.specs.Lines.{spaced, gap, none, given_text, given_texts}
use Rattle.report.proofs.Laying.{lays_same}
use Rattle.report.proofs.Spacing.{spaced_lays, none_push, texts_more, text_here}
use Rattle.report.proofs.printer.Printer.put_variables.Goals as goal

pub loop-y-preserved : goal.loop-y-preserved
loop-y-preserved c =
    let xs = c.args.names.now.actions.now in
    let vs = map name_bytes c.args.names.now.variables.now in
    let code = c.args.code in
    let y = c.loop-y.y in
    let ws = given_texts (map name_bytes xs) vs code y in
    let w = given_text (map name_bytes xs) vs code y in
    let more = texts_more (map name_bytes xs) vs code y in
    let here = text_here xs vs _ code y (y * length xs) (sym (get_or-map name_bytes c.args.names.now.variables.now y _ [] c.loop-y-test.true)) refl in (
      lays_same (ap spaced (sym more)) (spaced_lays ws w c.loop-y.invariant.1 c.loop-y.invariant.0 c.put_bytes.ensures (lays_same here c.put_variable.ensures)),
      ap gap (sym (none_push ws w)) ∙ ap (λ z. gap (none z)) (sym more),
    )
