use Rattle.std.proofs.Common.{◌≡◌, ℕ, ◌+◌, ◌-◌, ◌/◌, ◌<◌, ◌≤◌, false, List, ◌++◌, length, take, drop, sym, ap, ◌∙◌, subst, arith}
use borrow.Rule.Slice.PartMut.{mid_len, put_mid}
use lib.Seq.{length-take-le}
use Rattle.full.specs.Bytes.{width, bit_from}
use Rattle.full.specs.Stores.{shape_bits, full_frame, full_sets}
use Rattle.store.proofs.Refusals.{two_sets_none}
use Rattle.full.proofs.Members.{altered, altered_part, unaltered, by_bits, set_bits, part_bits, front_bits, back_bits, no_code, none_beyond}
use Rattle.full.proofs.Splicing.{Spliced, spliced, in_front, in_back}
use Rattle.full.proofs.Widths.{next_start}
use Rattle.full.proofs.layout.Layout.merge_sets.Goals as goal

pub returns-then-i-j : goal.returns-then-i-j
returns-then-i-j g c =
    let s = c.args.self.now.shape in
    let n = shape_bits s in
    let old = c.args.cells.now in
    let i = c.args.i in
    let j = c.args.j in
    let at = c.in_ok-at.at in
    let from = c.in_ok-from.from in
    let w = c.width-width.result in
    let part = c.merge.new.span in
    let found = c.in_ok-at.ensures in
    let also = c.in_ok-from.ensures in
    let low = c.split_at_mut-low.result.0.now in
    let high = c.split_at_mut-low.result.1.now in
    let cut : low ++ high ≡ old = sym c.split_at_mut-low.ensures.value in
    let front : length low ≡ from = c.split_at_mut-low.ensures.front_len in
    let wide : w ≡ width n = c.width-width.ensures.value in
    let apart = next_start i j (width n) (omega arith) in
    let fits : at + w ≤ from = omega (arith, found.1, also.1) in
    let long : length part ≡ at + w - at = c.merge.auto.span ∙ mid_len at (at + w) low (omega arith) in
    let before = take (at + w - at) (drop at low) in
    let P : List ℕ → Type 0 = λ o. (x : ℕ) → x / 8 < width n → bit_from before 0 x ≡ bit_from o at x in
    let was : (x : ℕ) → x / 8 < width n → bit_from before 0 x ≡ bit_from old at x =
    subst P cut (λ x h. part_bits at (at + w - at) low x (omega arith) ∙ front_bits low high at x (omega arith)) in
    let Q : List ℕ → Type 0 = λ o. (x : ℕ) → x / 8 < width n → bit_from high 0 x ≡ bit_from o from x in
    let other : (x : ℕ) → x / 8 < width n → bit_from high 0 x ≡ bit_from old from x = subst Q cut (λ x h. back_bits low high from x (sym front)) in
    let R : List ℕ → Type 0 = λ o. Spliced o (put_mid at (at + w - at) low part ++ high) part at in
    altered_part s old _ before part i at _ _ (λ x. g.op.bits (full_sets s old i x) (full_sets s old j x)) (two_sets_none (full_frame s old) i j found.0 also.0) found (omega arith)
    (subst R cut (in_front low high (put_mid at (at + w - at) low part) part at (omega arith) (spliced low part at (at + w - at) long (omega arith)))) was c.merge.ensures
    (λ x x<. ap (λ t. g.op.bits t (bit_from high 0 x)) (set_bits s old before i at x found was x<) ∙ ap (g.op.bits (full_sets s old i x)) (set_bits s old high j from x also other x<))
    (λ x ge. none_beyond g.op.bits _ _ (c.requires.1.1.1 false) (no_code n old i x ge) (no_code n old j x ge))

pub returns-then-j-i : goal.returns-then-j-i
returns-then-j-i g c =
    let s = c.args.self.now.shape in
    let n = shape_bits s in
    let old = c.args.cells.now in
    let i = c.args.i in
    let j = c.args.j in
    let at = c.in_ok-at.at in
    let from = c.in_ok-from.from in
    let w = c.width-width.result in
    let part = c.merge-then-j-i.new.span in
    let found = c.in_ok-at.ensures in
    let also = c.in_ok-from.ensures in
    let low = c.split_at_mut-low-then-j-i.result.0.now in
    let high = c.split_at_mut-low-then-j-i.result.1.now in
    let cut : low ++ high ≡ old = sym c.split_at_mut-low-then-j-i.ensures.value in
    let front : length low ≡ at = c.split_at_mut-low-then-j-i.ensures.front_len in
    let back : length high + at ≡ length old = c.split_at_mut-low-then-j-i.ensures.back_len in
    let wide : w ≡ width n = c.width-width.ensures.value in
    let apart = next_start j i (width n) (omega arith) in
    let fits : from + w ≤ at = omega (arith, found.1, also.1) in
    let room : w ≤ length high = omega (arith, found.2) in
    let long : length part ≡ w = c.merge-then-j-i.auto.span ∙ length-take-le w high room in
    let before = take w high in
    let P : List ℕ → Type 0 = λ o. (x : ℕ) → x / 8 < width n → bit_from before 0 x ≡ bit_from o at x in
    let was : (x : ℕ) → x / 8 < width n → bit_from before 0 x ≡ bit_from old at x =
    subst P cut (λ x h. part_bits 0 w high x (omega arith) ∙ back_bits low high at x (sym front)) in
    let source = take (length low - from) (drop from low) in
    let Q : List ℕ → Type 0 = λ o. (x : ℕ) → x / 8 < width n → bit_from source 0 x ≡ bit_from o from x in
    let other : (x : ℕ) → x / 8 < width n → bit_from source 0 x ≡ bit_from old from x =
    subst Q cut (λ x h. part_bits from (length low - from) low x (omega arith) ∙ front_bits low high from x (omega arith)) in
    let R : List ℕ → Type 0 = λ o. Spliced o (low ++ put_mid 0 w high part) part at in
    altered_part s old _ before part i at _ _ (λ x. g.op.bits (full_sets s old i x) (full_sets s old j x)) (two_sets_none (full_frame s old) i j found.0 also.0) found (omega arith)
    (subst R cut (in_back low high (put_mid 0 w high part) part at (sym front) (spliced high part 0 w long (omega arith)))) was c.merge-then-j-i.ensures
    (λ x x<. ap (λ t. g.op.bits t (bit_from source 0 x)) (set_bits s old before i at x found was x<) ∙ ap (g.op.bits (full_sets s old i x)) (set_bits s old source j from x also other x<))
    (λ x ge. none_beyond g.op.bits _ _ (c.requires.1.1.1 false) (no_code n old i x ge) (no_code n old j x ge))

pub returns-else-j-i : goal.returns-else-j-i
returns-else-j-i g c =
    let s = c.args.self.now.shape in
    let n = shape_bits s in
    let old = c.args.cells.now in
    let i = c.args.i in
    let j = c.args.j in
    let equal : i ≡ j = omega arith in
    let found = c.in_ok-at.ensures in
    let also = c.in_ok-from.ensures in
    altered s old old _ i (λ x. g.op.bits (full_sets s old i x) (full_sets s old j x)) (two_sets_none (full_frame s old) i j found.0 also.0)
    (unaltered n old i _ (λ x x<. sym (by_bits n old i x found.0 x<) ∙ sym (c.requires.1.1.1 (full_sets s old i x)) ∙ ap (λ k. g.op.bits (full_sets s old i x) (full_sets s old k x)) equal))
    found.0
    (λ x ge. none_beyond g.op.bits _ _ (c.requires.1.1.1 false) (no_code n old i x ge) (no_code n old j x ge))
