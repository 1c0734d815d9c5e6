use Rattle.std.proofs.Common.{◌<◌, false, [], Err, get_or, sym, ap, ◌∙◌, arith}
use Rattle.std.proofs.lemmas.Result.{err_from_is_err_and}
use Rattle.model.proofs.LabelWords.{no_property, property_unnamed, label_taken, label_read}
use Rattle.model.proofs.Looks.{label_state_reads}
use Rattle.model.proofs.labels.read_label.Goals as goal

pub returns-in_err-state-clause-reads : goal.returns-in_err-state-clause-reads
returns-in_err-state-clause-reads c =
    let p = err_from_is_err_and c.from_residual.result c.from_residual.ensures.1 in
    rw (p.1, p.2) (λ d m ss ps same. label_state_reads d c.args.reader.now c.number_in.new.self _ (Err c.in_err-state.field-0.0) c.in_err-state.ensures.looks_up m ss)

pub returns-in_err-word-clause-reads : goal.returns-in_err-word-clause-reads
returns-in_err-word-clause-reads c =
    let p = err_from_is_err_and c.from_residual-in_err-word.result c.from_residual-in_err-word.ensures.1 in
    let one = c.in_ok-state.ensures in
    rw (p.1, p.2) (λ d m ss ps same. no_property d m _ _ ss ps c.args.reader.now c.number_in.new.self c.in_ok-state.state one.same one.looks_up c.word.new.self _ c.in_err-word.ensures.found)

pub returns-in_err-property-clause-reads : goal.returns-in_err-property-clause-reads
returns-in_err-property-clause-reads c =
    let p = err_from_is_err_and c.from_residual-in_err-property.result c.from_residual-in_err-property.ensures.1 in
    let one = c.in_ok-state.ensures in
    rw (p.1, p.2) (λ d m ss ps same. property_unnamed d m _ _ ss ps c.args.reader.now c.number_in.new.self c.in_ok-state.state one.same one.looks_up c.word.new.self c.in_ok-word.word c.in_ok-word.ensures.found _ c.in_err-property.ensures.value)

pub returns-then-rows-state-clause-reads : goal.returns-then-rows-state-clause-reads
returns-then-rows-state-clause-reads c =
    let one = c.in_ok-state.ensures in
    let s = c.in_ok-state.state in
    let p = c.in_ok-property.property in
    let inside : s < 64 = omega (arith, one.range, c.requires.states) in
    let inside' : p < 16 = omega (arith, c.in_ok-property.ensures.range, c.requires.properties) in
    λ d m ss ps same. label_taken d m _ _ ss ps c.args.reader.now c.number_in.new.self s one.same one.looks_up c.word.new.self c.in_ok-word.word c.in_ok-word.ensures.found p c.in_ok-property.ensures.value inside inside' (ap (λ rows. get_or (get_or rows s []) p false) (sym same) ∙ c.if-rows-state.true)

pub returns-clause-reads : goal.returns-clause-reads
returns-clause-reads c =
    let one = c.in_ok-state.ensures in
    let s = c.in_ok-state.state in
    let p = c.in_ok-property.property in
    let inside : s < 64 = omega (arith, one.range, c.requires.states) in
    let inside' : p < 16 = omega (arith, c.in_ok-property.ensures.range, c.requires.properties) in
    λ d m ss ps same. label_read d m _ _ ss ps c.args.reader.now c.number_in.new.self s one.same one.looks_up c.word.new.self c.in_ok-word.word c.in_ok-word.ensures.found p c.in_ok-property.ensures.value inside inside' (ap (λ rows. get_or (get_or rows s []) p false) (sym same) ∙ c.if-rows-state.false)
