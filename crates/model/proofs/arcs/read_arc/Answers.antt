use Rattle.std.proofs.Common.{Err}
use Rattle.std.proofs.lemmas.Result.{err_from_is_err_and}
use Rattle.std.proofs.lemmas.Bool.Decides.{not_from_Decides}
use Rattle.model.proofs.ArcWords.{arc_decides, action_unnamed, no_target, target_unnamed, arc_taken, arc_read}
use Rattle.model.proofs.Looks.{arc_from_reads}
use Rattle.model.proofs.arcs.read_arc.Goals as goal

pub returns-in_err-from-clause-reads : goal.returns-in_err-from-clause-reads
returns-in_err-from-clause-reads c =
    let p = err_from_is_err_and c.from_residual.result c.from_residual.ensures.1 in
    rw (p.1, p.2) (λ d m ss acts same. arc_from_reads d c.args.reader.now c.number_in.new.self _ (Err c.in_err-from.field-0.0) c.in_err-from.ensures.looks_up m ss)

pub returns-in_err-action-clause-reads : goal.returns-in_err-action-clause-reads
returns-in_err-action-clause-reads c =
    let p = err_from_is_err_and c.from_residual-in_err-action.result c.from_residual-in_err-action.ensures.1 in
    let one = c.in_ok-from.ensures in
    rw (p.1, p.2) (λ d m ss acts same. action_unnamed d m _ _ ss acts c.args.reader.now c.number_in.new.self c.in_ok-from.from one.same one.looks_up _ c.number_in-2.new.self c.in_err-action.ensures.looks_up)

pub returns-in_err-word-clause-reads : goal.returns-in_err-word-clause-reads
returns-in_err-word-clause-reads c =
    let p = err_from_is_err_and c.from_residual-in_err-word.result c.from_residual-in_err-word.ensures.1 in
    let one = c.in_ok-from.ensures in
    let two = c.in_ok-action.ensures in
    rw (p.1, p.2) (λ d m ss acts same. no_target d m _ _ ss acts c.args.reader.now c.number_in.new.self c.in_ok-from.from one.same one.looks_up c.number_in-2.new.self c.in_ok-action.action two.same two.looks_up c.word.new.self _ c.in_err-word.ensures.found)

pub returns-in_err-to-clause-reads : goal.returns-in_err-to-clause-reads
returns-in_err-to-clause-reads c =
    let p = err_from_is_err_and c.from_residual-in_err-to.result c.from_residual-in_err-to.ensures.1 in
    let one = c.in_ok-from.ensures in
    let two = c.in_ok-action.ensures in
    rw (p.1, p.2) (λ d m ss acts same. target_unnamed d m _ _ ss acts c.args.reader.now c.number_in.new.self c.in_ok-from.from one.same one.looks_up c.number_in-2.new.self c.in_ok-action.action two.same two.looks_up c.word.new.self c.in_ok-word.word c.in_ok-word.ensures.found _ c.in_err-to.ensures.value)

pub returns-then-contains-clause-reads : goal.returns-then-contains-clause-reads
returns-then-contains-clause-reads c =
    let one = c.in_ok-from.ensures in
    let two = c.in_ok-action.ensures in
    λ d m ss acts same. arc_taken d m _ _ ss acts c.args.reader.now c.number_in.new.self c.in_ok-from.from one.same one.looks_up c.number_in-2.new.self c.in_ok-action.action two.same two.looks_up c.word.new.self c.in_ok-word.word c.in_ok-word.ensures.found c.in_ok-to.to c.in_ok-to.ensures.value
    ((arc_decides c.contains.result c.args.seen.now _ d.arcs same c.contains.ensures.cases).0 c.if-contains.true)

pub returns-clause-reads : goal.returns-clause-reads
returns-clause-reads c =
    let one = c.in_ok-from.ensures in
    let two = c.in_ok-action.ensures in
    λ d m ss acts same. arc_read d m _ _ ss acts c.args.reader.now c.number_in.new.self c.in_ok-from.from one.same one.looks_up c.number_in-2.new.self c.in_ok-action.action two.same two.looks_up c.word.new.self c.in_ok-word.word c.in_ok-word.ensures.found c.in_ok-to.to c.in_ok-to.ensures.value
    (not_from_Decides c.contains.result (arc_decides c.contains.result c.args.seen.now _ d.arcs same c.contains.ensures.cases) c.if-contains.false)
