use Rattle.std.proofs.Common.{◌-◌, length, take, drop}
use Rattle.std.proofs.lemmas.List.{take_rest}
use Rattle.std.proofs.lemmas.Result.{err_from_is_err_and}
use Rattle.words.specs.Faults.{number, position}
use Rattle.formula.specs.Sheets.{given_action_names, given_property_names}
use Rattle.report.proofs.Judging.{read_to, not_read, read_err}
use Rattle.report.proofs.sheets.Sheets.read_sheet.Goals as goal

pub returns : goal.returns
returns c =
    let t = c.args.self.now.text.now in
    let f = c.args.from in
    (read_to t c.in_ok-rest.rest.now (take (length t - f) (drop f t)) f c.args.self.now.model.now.vocabulary c.args.formula.now c.read_formula.new.place (take_rest t f) c.requires c.in_ok-rest.ensures).1

pub returns-in_err-rest : goal.returns-in_err-rest
returns-in_err-rest c =
    let t = c.args.self.now.text.now in
    let f = c.args.from in
    let v = c.args.self.now.model.now.vocabulary in
    let e = c.in_err-rest.field-0.0 in
    let p = err_from_is_err_and c.from_residual.result c.from_residual.ensures.1 in
    read_err t f (given_action_names v) (given_property_names v) c.read_formula.new.place p.0 e p.1 p.2
    (not_read t (take (length t - f) (drop f t)) f v c.args.formula.now c.read_formula.new.place (number e) (position e) (take_rest t f) c.in_err-rest.ensures)
