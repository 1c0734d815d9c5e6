use Rattle.std.proofs.Common.{◌+◌, get_or, sym, ap, ◌∙◌, zero-add, arith}
use Rattle.logic.specs.Codes.{bit}
use Rattle.full.specs.Stores.{shape_bits}
use Rattle.full.proofs.Merging.{recoded_byte, recoded_whole}
use Rattle.full.proofs.layout.Layout.merge.Goals as goal

pub returns-then-self-lt3 : goal.returns-then-self-lt3
returns-then-self-lt3 g c =
    let s = c.args.self.now in
    let old = c.args.span.now in
    let src = c.args.source.now in
    recoded_byte g.op.bits (shape_bits s.shape) old c.by.result s.mask (λ x m. bit (get_or src (0 + x) 0) m) (omega (arith, s.counted)) c.requires.1.1.1.0 s.masked (omega arith)
    (λ m m<. ap (λ v. bit v m) (c.requires.1.1.0 (get_or old 0 0) (get_or src 0 0) c.by.result c.by.ensures)
    ∙ g.op.bitwise (get_or old 0 0) (get_or src 0 0) m)

pub returns-else-self-lt3 : goal.returns-else-self-lt3
returns-else-self-lt3 g c =
    let s = c.args.self.now in
    let old = c.args.span.now in
    let src = c.args.source.now in
    let new = c.merge.new.span in
    recoded_whole g.op.bits (shape_bits s.shape) old new s.mask (λ x m. bit (get_or src (0 + x) 0) m) (omega (arith, s.counted)) c.requires.1.1.1.0 s.masked
    (λ x m x< m<. ap (λ v. bit v m) (c.requires.1.1.0 (get_or old x 0) (get_or src x 0) (get_or new x 0) (c.merge.ensures x x<))
    ∙ g.op.bitwise (get_or old x 0) (get_or src x 0) m ∙ ap (λ p. g.op.bits (bit (get_or old x 0) m) (bit (get_or src p 0) m)) (sym (zero-add x)))
