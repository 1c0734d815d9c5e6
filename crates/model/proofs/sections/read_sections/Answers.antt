use Rattle.std.proofs.Common.{map, sym, ap}
use Rattle.std.proofs.lemmas.Result.{err_from_is_err_and}
use Rattle.words.specs.Words.{name_bytes}
use Rattle.model.specs.Rules.{no_content}
use Rattle.model.proofs.Wholes.{refused_actions, refused_properties, refused_labels, refused_arcs, all_read}
use Rattle.model.proofs.sections.read_sections.Goals as goal

pub returns-in_err-states-clause-reads : goal.returns-in_err-states-clause-reads
returns-in_err-states-clause-reads c =
    let p = err_from_is_err_and c.from_residual.result c.from_residual.ensures.1 in
    rw (p.1, p.2) (c.in_err-states.ensures.reads no_content)

pub returns-in_err-actions-clause-reads : goal.returns-in_err-actions-clause-reads
returns-in_err-actions-clause-reads c =
    let p = err_from_is_err_and c.from_residual-in_err-actions.result c.from_residual-in_err-actions.ensures.1 in
    let x = c.in_ok-states.ensures in
    rw (p.1, p.2) (refused_actions c.args.reader.now c.read_names.new.reader c.in_ok-states.states x.reads x.same c.in_err-actions.field-0.0 c.read_names-2.new.reader c.in_err-actions.ensures.reads)

pub returns-in_err-properties-clause-reads : goal.returns-in_err-properties-clause-reads
returns-in_err-properties-clause-reads c =
    let p = err_from_is_err_and c.from_residual-in_err-properties.result c.from_residual-in_err-properties.ensures.1 in
    let x = c.in_ok-states.ensures in
    let y = c.in_ok-actions.ensures in
    rw (p.1, p.2) (refused_properties c.args.reader.now c.read_names.new.reader c.in_ok-states.states x.reads x.same c.read_names-2.new.reader c.in_ok-actions.actions y.reads y.same c.in_err-properties.field-0.0 c.read_names-3.new.reader c.in_err-properties.ensures.reads)

pub returns-in_err-labels-clause-reads : goal.returns-in_err-labels-clause-reads
returns-in_err-labels-clause-reads c =
    let p = err_from_is_err_and c.from_residual-in_err-labels.result c.from_residual-in_err-labels.ensures.1 in
    let x = c.in_ok-states.ensures in
    let y = c.in_ok-actions.ensures in
    let z = c.in_ok-properties.ensures in
    rw (p.1, p.2) (refused_labels c.args.reader.now c.read_names.new.reader c.in_ok-states.states x.reads x.same c.read_names-2.new.reader c.in_ok-actions.actions y.reads y.same c.read_names-3.new.reader c.in_ok-properties.properties z.reads z.same _ _ (ap (map name_bytes) (sym c.as_slice.ensures)) (ap (map name_bytes) (sym c.as_slice-2.ensures)) c.in_err-labels.field-0.0 c.read_labels.new.reader c.in_err-labels.ensures.reads)

pub returns-in_err-arcs-clause-reads : goal.returns-in_err-arcs-clause-reads
returns-in_err-arcs-clause-reads c =
    let p = err_from_is_err_and c.from_residual-in_err-arcs.result c.from_residual-in_err-arcs.ensures.1 in
    let x = c.in_ok-states.ensures in
    let y = c.in_ok-actions.ensures in
    let z = c.in_ok-properties.ensures in
    let l = c.in_ok-labels.ensures in
    rw (p.1, p.2) (refused_arcs c.args.reader.now c.read_names.new.reader c.in_ok-states.states x.reads x.same c.read_names-2.new.reader c.in_ok-actions.actions y.reads y.same c.read_names-3.new.reader c.in_ok-properties.properties z.reads z.same _ _ (ap (map name_bytes) (sym c.as_slice.ensures)) (ap (map name_bytes) (sym c.as_slice-2.ensures)) c.read_labels.new.reader c.in_ok-labels.labels l.reads l.same _ _ (ap (map name_bytes) (sym c.as_slice-3.ensures)) (ap (map name_bytes) (sym c.as_slice-4.ensures)) c.in_err-arcs.field-0.0 c.read_arcs.new.reader c.in_err-arcs.ensures.reads)

pub returns-clause-reads : goal.returns-clause-reads
returns-clause-reads c =
    let x = c.in_ok-states.ensures in
    let y = c.in_ok-actions.ensures in
    let z = c.in_ok-properties.ensures in
    let l = c.in_ok-labels.ensures in
    let e = c.in_ok-arcs.ensures in
    all_read c.args.reader.now c.read_names.new.reader c.in_ok-states.states x.reads x.same c.read_names-2.new.reader c.in_ok-actions.actions y.reads y.same c.read_names-3.new.reader c.in_ok-properties.properties z.reads z.same _ _ (ap (map name_bytes) (sym c.as_slice.ensures)) (ap (map name_bytes) (sym c.as_slice-2.ensures)) c.read_labels.new.reader c.in_ok-labels.labels l.reads l.same _ _ (ap (map name_bytes) (sym c.as_slice-3.ensures)) (ap (map name_bytes) (sym c.as_slice-4.ensures)) c.read_arcs.new.reader c.in_ok-arcs.arcs e.reads x.kept y.kept z.kept e.kept e.range
