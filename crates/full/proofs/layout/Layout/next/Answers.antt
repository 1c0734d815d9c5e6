use Rattle.std.proofs.Common.{◌≡◌, ◌^◌, ltb, Option, sym, subst, arith, rules}
use Rattle.std.proofs.lemmas.Map.Entries.{option_filter}
use Rattle.store.specs.Least.{Least}
use Rattle.full.specs.Stores.{full_frame, full_sets, shape_bits}
use Rattle.full.proofs.Comparing.{next_code}
use Rattle.full.proofs.Widths.{width_within}
use Rattle.store.proofs.Refusals.{set_and_start_none, answers_ok}
use Rattle.full.proofs.layout.Layout.next.Goals as goal

pub next_bit-requires : goal.next_bit-requires
next_bit-requires c =
    let l = c.args.self.now in
    let shown = c.in_ok-span.ensures in
    omega (arith, shown.long, width_within (shape_bits l.shape) (omega (arith, l.most, l.counted)))

pub returns : goal.returns
returns c =
    let s = c.args.self.now.shape in
    let bytes = c.args.cells.now in
    let shown = c.in_ok-span.ensures in
    let P : Option _ → Type 0 = Least (full_sets s bytes c.args.i) c.args.c in
    let kept : c.filter.result ≡ option_filter (λ d. ltb d (2 ^ shape_bits s)) c.next_bit.result = search rules in
    answers_ok _ _ _ (set_and_start_none (full_frame s bytes) c.args.i c.args.c shown.inside (omega arith))
    (subst P (sym kept) (next_code s bytes c.args.i c.in_ok-span.span.now c.args.c c.next_bit.result shown c.next_bit.ensures))
