use Rattle.std.proofs.Common.{◌≡◌, ℕ, List, map, length, ap, ◌∙◌, arith}
use Rattle.store.specs.Frames.{frame_codes}
use Rattle.words.specs.Words.{name_bytes}
use Rattle.model.specs.Values.{table_of}
use Rattle.formula.specs.Wholes.{meaning_of}
use Rattle.evaluate.specs.Layout.{universe_set, result_set}
use Rattle.report.specs.Lines.{action_names, variable_names}
use Rattle.report.specs.Listings.{below}
use Rattle.report.specs.Texts.{report_text}
use Rattle.report.proofs.Laying.{lays_same}
use Rattle.report.proofs.Telling.{result_inside, evaluated_report, some_nodes}
use Rattle.report.proofs.formulas.lay_formula.Goals as goal

pub put_report-requires : goal.put_report-requires
put_report-requires g c =
    let told = c.in_ok-rounds.ensures in
    let M = table_of c.args.model.now.table in
    let count = ap (λ f. f.count) told.1.kept in
    let set = result_inside _ M.states (g.S.Store.frame c.args.store.now).count c.first_result-set.result (some_nodes (meaning_of c.args.formula.now).formula) (omega arith) told.0.1
    (c.first_result-set.ensures ∙ ap (λ s. result_set s 0) (let states : c.args.model.now.table.states ≡ M.states = omega arith in states)) in
    omega (arith, count, set)

pub returns : goal.returns
returns g c =
    let s = c.args.store.now in
    let t = c.evaluate.new.store in
    let told = c.in_ok-rounds.ensures in
    let M = table_of c.args.model.now.table in
    let set = c.first_result-set.result in
    let l = g.S.Store.sets t in
    let codes = frame_codes (g.S.Store.frame t) in
    let text : List (List ℕ) → List (List ℕ) → List ℕ = λ xs ys. report_text xs ys (below (l set) codes) (length (below (l universe_set) codes)) c.in_ok-rounds.rounds in (
      told.0,
      record {
        bytes = text (action_names c.args.model.now) (variable_names c.args.formula.now);
        holds = evaluated_report (g.S.Store.frame s) (g.S.Store.frame t) (g.S.Store.sets s) l M (meaning_of c.args.formula.now).formula c.in_ok-rounds.rounds set (action_names c.args.model.now) (variable_names c.args.formula.now)
            told.1 (g.S.Store.coded t) (omega arith)
            (c.first_result-set.ensures ∙ ap (λ k. result_set k 0) (let states : c.args.model.now.table.states ≡ M.states = omega arith in states));
        lays = lays_same (λ i. text (map name_bytes (c.as_slice.ensures i)) (map name_bytes (c.variable_names.ensures i))) c.in_ok-put_report.ensures;
      },
    )
