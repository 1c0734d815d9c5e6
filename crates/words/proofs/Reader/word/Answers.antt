use Rattle.std.proofs.Common.{◌+◌, refl, inl, inr, arith}
use Rattle.words.specs.declared.Class.TheVariants.{Blank, Solid, Allowed}
use Rattle.words.proofs.Words.{rest_whole, run_all, run_inside, word_some, word_at, piece_all, piece_stops}
use Rattle.words.proofs.Reader.word.Goals as goal

pub overflow_add-start : goal.overflow_add-start
overflow_add-start c =
    let h = run_inside Blank c.args.self.now.text.now c.args.self.now.at c.leading.result _ c.rest.ensures c.leading.ensures in
    omega (arith, h)

pub returns-then-start-text-clause-found : goal.returns-then-start-text-clause-found
returns-then-start-text-clause-found c =
    let text = c.args.self.now.text.now in
    let from = c.args.self.now.at in
    (inl (refl, refl, λ i low lt. run_all Blank text from c.leading.result _ c.rest.ensures c.leading.ensures i low (omega (arith, c.if-start-text.true))), refl)

pub overflow_add-bytes : goal.overflow_add-bytes
overflow_add-bytes c =
    let start = c.args.self.now.at + c.leading.result in
    let h = run_inside Solid c.args.self.now.text.now start c.leading-length.result _ (rest_whole c.args.self.now.text.now start _ refl) c.leading-length.ensures in
    omega (arith, h)

pub slice_bounds-bytes-end : goal.slice_bounds-bytes-end
slice_bounds-bytes-end c =
    let start = c.args.self.now.at + c.leading.result in
    let h = run_inside Solid c.args.self.now.text.now start c.leading-length.result _ (rest_whole c.args.self.now.text.now start _ refl) c.leading-length.ensures in
    omega (arith, h)

pub returns-then-leading-length-clause-found : goal.returns-then-leading-length-clause-found
returns-then-leading-length-clause-found c =
    let text = c.args.self.now.text.now in
    let from = c.args.self.now.at in
    let start = from + c.leading.result in
    let m = c.leading-length.result in
    let whole = rest_whole text start _ refl in
    let inside = run_inside Solid text start m _ whole c.leading-length.ensures in (
      inr (
        refl,
        (
          start + m,
          word_at text from c.leading.result m _ _ c.rest.ensures c.leading.ensures whole c.leading-length.ensures c.if-start-text.false,
          record {
            at = start + c.leading-2.result;
            behind = omega arith;
            before = omega (arith, c.if-leading-length.true);
            strange = piece_stops Allowed text start m _ c.leading-2.result (omega arith) c.leading-2.ensures c.if-leading-length.true inside;
          },
        ),
      ),
      refl,
    )

pub returns-clause-found : goal.returns-clause-found
returns-clause-found c =
    let text = c.args.self.now.text.now in
    let from = c.args.self.now.at in
    let start = from + c.leading.result in
    let m = c.leading-length.result in
    let whole = rest_whole text start _ refl in (
      word_at text from c.leading.result m _ _ c.rest.ensures c.leading.ensures whole c.leading-length.ensures c.if-start-text.false,
      piece_all Allowed text start m _ c.leading-2.result (omega arith) c.leading-2.ensures c.if-leading-length.false,
      refl,
    )

pub returns-clause-range : goal.returns-clause-range
returns-clause-range c =
    let text = c.args.self.now.text.now in
    let from = c.args.self.now.at in
    let start = from + c.leading.result in
    let m = c.leading-length.result in
    let whole = rest_whole text start _ refl in
    let some = word_some text from c.leading.result m _ _ c.rest.ensures c.leading.ensures whole c.leading-length.ensures c.if-start-text.false in
    let inside = run_inside Solid text start m _ whole c.leading-length.ensures in
    (omega arith, omega (arith, some), omega (arith, inside, c.if-start-text.false))
