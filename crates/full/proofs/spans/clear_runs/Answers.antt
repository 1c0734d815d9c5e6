use Rattle.std.proofs.Common.{◌≡◌, ◌+◌, ◌-◌, ◌*◌, length, get_or, replicate, ap, ◌∙◌, inl, inr, ⊎_elim, arith, rules}
use Rattle.full.proofs.Runs.{kept_first, kept_more, kept_last, runs_fit}
use Rattle.full.proofs.Splicing.{spliced}
use Rattle.std.proofs.lemmas.List.{get_or-replicate}
use Rattle.full.proofs.spans.clear_runs.Goals as goal

pub loop-q-init : goal.loop-q-init
loop-q-init c = kept_first c.args.span.now c.args.run

pub loop-q-preserved : goal.loop-q-preserved
loop-q-preserved c =
    let n = c.loop-q.q * (2 * c.args.run) in
    let fit = runs_fit c.loop-q.q c.args.pairs c.args.run (omega arith) in
    let blank : c.fill.new.self ≡ replicate c.args.run 0 = search rules in
    let long : length c.fill.new.self ≡ c.args.run = search rules in
    let s = spliced c.loop-q.span c.fill.new.self n (n + c.args.run - n) (omega arith) (omega arith) in
    kept_more c.args.span.now c.loop-q.span _ c.args.run c.loop-q.q (omega arith) c.loop-q.invariant
    (λ x out. s.others x (⊎_elim (λ below. inl below) (λ above. inr (omega arith)) out))
    (λ z z<. s.inside z (omega arith) ∙ ap (λ l. get_or l z 0) blank ∙ get_or-replicate c.args.run z 0 0 z<)

pub returns : goal.returns
returns c =
    let end : c.loop-q.q ≡ c.args.pairs = omega arith in
    let all = ap (λ t. t * (2 * c.args.run)) end in
    kept_last c.args.span.now c.loop-q.span c.args.run _ c.loop-q.invariant (omega arith)
