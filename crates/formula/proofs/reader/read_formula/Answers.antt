use Rattle.std.proofs.Common.{[], length, sym, ap, ◌∙◌, refl}
use lib.ListN.{length-map}
use Rattle.std.proofs.lemmas.Result.{err_from_is_err_and}
use Rattle.words.specs.Words.{name_bytes}
use Rattle.formula.proofs.SheetReadings.{sheet_fails, part_fails, sheet_made}
use Rattle.formula.proofs.reader.read_formula.Goals as goal

pub returns-in_err-variables : goal.returns-in_err-variables
returns-in_err-variables c =
    let p = err_from_is_err_and c.from_residual.result c.from_residual.ensures.1 in
    rw (p.1, p.2)
    (sheet_fails c.args.vocabulary.now (record { text = c.args.text; at = 0 }) refl c.if-text-gt-LONGEST.false c.args.place.now _ _ c.read_variables.new.reader.at c.in_err-variables.ensures.reads)

pub returns-in_err-read_part : goal.returns-in_err-read_part
returns-in_err-read_part c =
    let p = err_from_is_err_and c.from_residual-in_err-read_part.result c.from_residual-in_err-read_part.ensures.1 in
    let v = c.args.vocabulary.now in
    let x = c.in_ok-variables.variables in
    let m = c.read_variables.new.reader in
    let after = c.read_part.new.reader in
    rw (p.1, p.2)
    (part_fails v (record { text = c.args.text; at = 0 }) refl c.if-text-gt-LONGEST.false x c.in_ok-variables.ensures.kept m c.in_ok-variables.ensures.same c.in_ok-variables.ensures.reads c.args.place.now c.new-arena.result _ _ after c.new-arena.ensures (c.in_err-read_part.ensures.reads []))

pub returns : goal.returns
returns c =
    let v = c.args.vocabulary.now in
    let x = c.in_ok-variables.variables in
    let m = c.read_variables.new.reader in
    let after = c.read_part.new.reader in
    sheet_made v (record { text = c.args.text; at = 0 }) refl c.if-text-gt-LONGEST.false x c.in_ok-variables.ensures.kept m c.in_ok-variables.ensures.same c.in_ok-variables.ensures.reads
    c.args.place.now c.new-arena.result c.read_part.new.arena _ _ _ _ after _ c.new-arena.ensures (c.in_ok-read_part.ensures.reads [])
    c.cells.ensures c.used.ensures.value (ap length c.as_slice.ensures ∙ sym (length-map _ name_bytes)) (ap length c.as_slice-2.ensures ∙ sym (length-map _ name_bytes)) c.in_ok-read_part.ensures.same c.rest.ensures
