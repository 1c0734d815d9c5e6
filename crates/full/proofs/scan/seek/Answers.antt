use Rattle.std.proofs.Common.{◌≡◌, ℕ, ◌+◌, ◌-◌, ◌*◌, length, get_or, drop, Option, None, refl, sym, ap, ◌∙◌, subst, arith, rules, tests, get_or-drop}
use lib.Seq.{drop-drop}
use Rattle.std.proofs.lemmas.Iterator.{IsFirst-from_position, YieldsList-from_slice}
use Rattle.std.proofs.option.Match.{if_some}
use Rattle.store.specs.Least.{Least}
use Rattle.full.specs.Bytes.{bit_from}
use Rattle.full.proofs.Scanning.{Unset, first_in, unset_more, word_holds, first_last, first_byte}
use Rattle.full.proofs.scan.seek.Goals as goal

pub returns-then-bits-ne0 : goal.returns-then-bits-ne0
returns-then-bits-ne0 c =
    let span = c.args.span.now in
    let rest = c.loop-word.rest.now in
    let x = length span - length rest in
    let inv = c.loop-word.invariant in
    first_in span (8 * c.args.first) x 8 c.from_le_bytes-bits.result 64 refl (omega arith) inv.3
    (word_holds span rest c.in-Some.word.now x c.from_le_bytes-bits.result inv.2 c.in-Some.ensures.cases.0 (λ k. (c.type_inv.span k).fits) c.from_le_bytes-bits.ensures)
    (omega arith) (omega arith)

pub loop-word-preserved : goal.loop-word-preserved
loop-word-preserved c =
    let span = c.args.span.now in
    let rest = c.loop-word.rest.now in
    let tail = c.in-Some.tail.now in
    let x = length span - length rest in
    let inv = c.loop-word.invariant in
    let long : length tail + 8 ≡ length rest = c.in-Some.ensures.cases.2 in
    let next : length span - length tail ≡ x + 8 = omega arith in (
      omega arith,
      omega arith,
      c.in-Some.ensures.cases.1 ∙ ap (drop 8) inv.2 ∙ drop-drop 8 x span ∙ ap (λ n. drop n span) (sym next),
      (let P : ℕ → Type 0 = Unset span (8 * c.args.first) in
          subst P (sym next) (unset_more span (8 * c.args.first) x 8 c.from_le_bytes-bits.result inv.3
          (word_holds span rest c.in-Some.word.now x c.from_le_bytes-bits.result inv.2 c.in-Some.ensures.cases.0 (λ k. (c.type_inv.span k).fits) c.from_le_bytes-bits.ensures) c.if-bits-ne0.false)),
    )

pub returns-in_err-x : goal.returns-in_err-x
returns-in_err-x c =
    let span = c.args.span.now in
    let rest = c.loop-word.rest.now in
    let inv = c.loop-word.invariant in
    let none : c.from_residual.result ≡ None = search rules in
    let P : Option ℕ → Type 0 = Least (bit_from span 0) (8 * c.args.first) in
    subst P (sym none) (first_last span rest (8 * c.args.first) (length span - length rest) inv.2 (omega arith) (omega arith) inv.3
    (IsFirst-from_position _ _ _ (λ y. y ≡ 0 → ⊥) (λ y. ◌≡◌ {A = ℕ} y 0) c.in_err-x.ensures.ran (YieldsList-from_slice rest (search rules)) (λ y q k. search (rules, tests)) (λ y q k. search (rules, tests))))

pub returns : goal.returns
returns c =
    let span = c.args.span.now in
    let rest = c.loop-word.rest.now in
    let inv = c.loop-word.invariant in
    let x = length span - length rest in
    let i = c.in_ok-x.field-0 in
    let found = if_some _ _ _ c.in_ok-x.was (IsFirst-from_position _ _ _ (λ y. y ≡ 0 → ⊥) (λ y. ◌≡◌ {A = ℕ} y 0) c.position.ensures.ran (YieldsList-from_slice rest (search rules)) (λ y q k. search (rules, tests)) (λ y q k. search (rules, tests))) in
    let same : get_or rest i 0 ≡ get_or span (x + i) 0 = ap (λ l. get_or l i 0) inv.2 ∙ get_or-drop x span i 0 in
    let some : get_or rest i 0 ≡ 0 → ⊥ = found.1 0 in
    first_byte span rest (8 * c.args.first) x i inv.2 (omega arith) inv.3 (omega arith) (c.type_inv.span (x + i)).fits found.2
