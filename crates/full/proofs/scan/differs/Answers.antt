use Rattle.std.proofs.Common.{◌≡◌, bit_or, sym, subst, rules, bit_xor}
use Rattle.std.proofs.lemmas.Fn.{fold_over, fronts}
use Rattle.std.proofs.lemmas.Iterator.{zips, YieldsList-from_slice, YieldsList-from_zip}
use Rattle.full.proofs.Scanning.{DifferBy, differ_none, differ_more, differ_zip}
use Rattle.full.proofs.scan.differs.Goals as goal

pub returns : goal.returns
returns c =
    let chain = YieldsList-from_zip (YieldsList-from_slice {s = c.zip.result.a} c.args.first.now (search rules)) (YieldsList-from_slice {s = c.zip.result.b} c.args.second.now (search rules)) in
    differ_zip c.args.first.now c.args.second.now c.fold.result c.requires
    (fold_over (zips fronts fronts) (λ p. (p.0.now, p.1.now)) _ DifferBy _
    (λ ys a x b f' j k.
    let e : b ≡ bit_or a (bit_xor x.0.now x.1.now) = search rules in
    (subst (DifferBy _) (sym e) (differ_more ys a x.0.now x.1.now j), search rules))
    c.zip.result _ _ _ chain.runs differ_none c.fold.ensures.ran)
