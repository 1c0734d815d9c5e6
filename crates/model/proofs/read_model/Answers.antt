use Rattle.std.proofs.Common.{drop, refl, ap, ◌∙◌, inr, arith}
use Rattle.std.proofs.lemmas.Result.{err_from_is_err_and}
use Rattle.words.proofs.Walks.{leaves_refused}
use Rattle.model.specs.Rules.{model_rules, model_start}
use Rattle.model.proofs.Wholes.{gathered_is, counted_is}
use Rattle.model.proofs.ToSheet.{walks_sheet}
use Rattle.model.proofs.read_model.Goals as goal

pub returns-in_err-read : goal.returns-in_err-read
returns-in_err-read c =
    let p = err_from_is_err_and c.from_residual.result c.from_residual.ensures.1 in
    rw (p.1, p.2) (inr (c.if-text-gt-TEXT_LIMIT.false, leaves_refused model_rules c.args.text.now model_start 0 _ _ _ c.in_err-read.ensures.reads), refl)

pub returns : goal.returns
returns c =
    let r = c.in_ok-read.ensures.reads in
    let k = r.keeps in
    let after = c.read_sections.new.reader in
    record {
      content = r.content;
      end = after.at;
      sheet = walks_sheet c.args.text.now r.content after.at (omega (arith, c.if-text-gt-TEXT_LIMIT.false)) r.walks;
      holds = c.model.ensures ∙ gathered_is c.in_ok-read.read r.content k;
      counts = counted_is c.in_ok-read.read r.content k;
      rest = c.rest.ensures ∙ ap (λ x. drop after.at x.now) c.in_ok-read.ensures.same;
    }
