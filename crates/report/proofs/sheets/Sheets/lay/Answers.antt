use Rattle.std.proofs.Common.{ℕ, ◌+◌, length, ap, inl, inr, subst}
use Rattle.words.proofs.Words.{word_not_ends}
use Rattle.words.specs.Faults.{number, position}
use Rattle.evaluate.specs.Faults.{evaluation_number}
use Rattle.report.specs.declared.faults.SheetFault.{SheetFault}
use Rattle.report.specs.Laying.{Refused}
use Rattle.report.specs.Printers.{LaysSome}
use Rattle.report.specs.Reports.{Told, Misread, TooLarge}
use Rattle.report.specs.Texts.{refusal}
use Rattle.report.proofs.Laying.{lays_same}
use Rattle.report.proofs.Sheeting.{so_far_more, so_far_ends, so_far_stops}
use Rattle.report.proofs.sheets.Sheets.lay.Goals as goal

pub loop-first-preserved : goal.loop-first-preserved
loop-first-preserved c =
    let t = c.args.self.now.text.now in
    let at = c.loop-first.at in
    let word = c.in-Some.ensures in (
      c.in-Ok.ensures.moved.1,
      λ d a keeps.
          let P : ℕ → Type 0 = λ size. LaysSome (λ bytes. Told t size d at bytes c.in-Ok.next) c.loop-first.printer c.lay_sheet.new.printer in
          so_far_more t (length c.args.store.now) d c.args.from c.args.printer.now at c.in-Ok.next c.loop-first.printer c.lay_sheet.new.printer
          (word_not_ends t at c.in-Some.first word.0 word.1) (c.loop-first.invariant.1 d a keeps) (subst P c.loop-first.auto.store (c.in-Ok.ensures.laid d a keeps)),
    )

pub returns-in-Err-Reading : goal.returns-in-Err-Reading
returns-in-Err-Reading c d a keeps =
    let t = c.args.self.now.text.now in
    let at = c.loop-first.at in
    let word = c.in-Some.ensures in
    let e = c.in-Err-Reading.fault in
    let p = c.loop-first.printer in
    let q = c.lay_sheet.new.printer in
    let laid = c.in-Err-Reading.ensures.laid d a keeps in
    let Q : SheetFault → Type 0 = Refused t (length c.loop-first.store) d at in
    let P : ℕ → Type 0 = λ size. Misread t size d at (number e) (at + position e) in
    so_far_stops t (length c.args.store.now) d c.args.from c.args.printer.now at p q c.put_refusal.new.self (number e) (at + position e)
    (word_not_ends t at c.in-Some.first word.0 word.1) (c.loop-first.invariant.1 d a keeps) (inl (subst P c.loop-first.auto.store (subst Q c.in-Err-Reading.field-0-is laid.0))) laid.1
    (lays_same (λ i. refusal (c.number.ensures i) (at + c.position.ensures i)) c.put_refusal.ensures)

pub returns-in-Err-Evaluation : goal.returns-in-Err-Evaluation
returns-in-Err-Evaluation c d a keeps =
    let t = c.args.self.now.text.now in
    let at = c.loop-first.at in
    let first = c.in-Some.first in
    let word = c.in-Some.ensures in
    let e = c.in-Err-Evaluation.fault in
    let p = c.loop-first.printer in
    let q = c.lay_sheet.new.printer in
    let laid = c.in-Err-Evaluation.ensures.laid d a keeps in
    let Q : SheetFault → Type 0 = Refused t (length c.loop-first.store) d at in
    let P : ℕ → Type 0 = λ size. TooLarge t size d at (evaluation_number e) first in
    so_far_stops t (length c.args.store.now) d c.args.from c.args.printer.now at p q c.put_refusal-in-Err-Evaluation.new.self (evaluation_number e) first
    (word_not_ends t at first word.0 word.1) (c.loop-first.invariant.1 d a keeps) (inr (subst P c.loop-first.auto.store (subst Q c.in-Err-Evaluation.field-0-is laid.0 first word.0 word.1))) laid.1
    (lays_same (ap (λ n. refusal n first) c.number-in-Err-Evaluation.ensures) c.put_refusal-in-Err-Evaluation.ensures)

pub returns : goal.returns
returns c d a keeps =
    so_far_ends c.args.self.now.text.now (length c.args.store.now) d c.args.from c.args.printer.now c.loop-first.at c.loop-first.printer c.in_default.ensures (c.loop-first.invariant.1 d a keeps)
