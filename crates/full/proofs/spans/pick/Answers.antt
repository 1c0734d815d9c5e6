use Rattle.std.proofs.Common.{◌≡◌, ℕ, ◌-◌, ◌*◌, ◌/◌, ◌%◌, ◌^◌, ◌≤◌, ◌&&◌, eqb, length, get_or, ap, ◌∙◌, subst, arith, pow_mono}
use Rattle.std.proofs.lemmas.Nat.{one_shl, pow_pos}
use Rattle.logic.specs.Codes.{bit}
use Rattle.full.specs.Passes.{Merged}
use Rattle.full.proofs.Merging.{low_code, high_code}
use Rattle.full.proofs.Runs.{runs_count}
use Rattle.full.proofs.spans.pick.Goals as goal

pub returns-then-b-lt3 : goal.returns-then-b-lt3
returns-then-b-lt3 c = λ x m x< m<.
    c.keep_mask.ensures x m x< m< ∙ ap (λ t. bit (get_or c.args.span.now x 0) m && t) (c.low_mask.ensures m m< ∙ low_code c.args.b x m (omega arith))

pub returns-then-b-lt9 : goal.returns-then-b-lt9
returns-then-b-lt9 c = λ x m x< m<.
    c.keep_bytes.ensures x m x< m< ∙ ap (λ t. bit (get_or c.args.span.now x 0) m && t) (high_code c.args.b x m (omega arith) m<)

pub clear_runs-requires : goal.clear_runs-requires
clear_runs-requires c =
    let b = c.args.b in
    let len = length c.args.span.now in
    let run : 1 * 2 ^ (b - 3) % 2 ^ 64 ≡ 2 ^ (b - 3) = one_shl (b - 3) 64 (omega arith) in
    let whole = runs_count len b (omega arith) (c.requires.whole (omega arith)) in
    let same = ap (λ r. len / 2 ^ (b - 2) * (2 * r)) run in
    let top : 2 ^ (b - 3) ≤ 2 ^ 8 = pow_mono {i = b - 3} {j = 8} (omega arith) in
    let some = pow_pos (b - 3) in
    record { whole = same ∙ whole; some = (omega arith, omega arith) }

pub returns-else-b-lt9 : goal.returns-else-b-lt9
returns-else-b-lt9 c =
    let b = c.args.b in
    let old = c.args.span.now in
    let run : 1 * 2 ^ (b - 3) % 2 ^ 64 ≡ 2 ^ (b - 3) = one_shl (b - 3) 64 (omega arith) in
    let P : ℕ → Type 0 = λ r. Merged ◌&&◌ old c.clear_runs.new.span (λ x m. eqb (x / r % 2) 1) in
    let cleared = subst P run c.clear_runs.ensures in
    λ x m x< m<. cleared x m x< m< ∙ ap (λ t. bit (get_or old x 0) m && t) (high_code b x m (omega arith) m<)
