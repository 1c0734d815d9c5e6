use Rattle.std.proofs.Common.{◌∙◌, sym}
use Rattle.full.specs.Stores.{full_frame}
use Rattle.full.proofs.Comparing.{same_sets}
use Rattle.store.proofs.Refusals.{two_sets_none, answers_ok}
use Rattle.full.proofs.layout.Layout.same.Goals as goal

pub differs-differing-requires : goal.differs-differing-requires
differs-differing-requires c = let one = c.in_ok-span.ensures in let two = c.in_ok-span-2.ensures in one.long ∙ sym two.long

pub returns : goal.returns
returns c =
    let l = c.args.self.now in
    let s = l.shape in
    let bytes = c.args.cells.now in
    let i = c.args.i in
    let j = c.args.j in
    let one = c.in_ok-span.ensures in
    let two = c.in_ok-span-2.ensures in
    answers_ok _ _ _ (two_sets_none (full_frame s bytes) i j one.inside two.inside)
    (same_sets s bytes i j _ _ c.differs-differing.result l.mask one two l.masked c.differs-differing.type_inv c.differs-differing.ensures)
