-- A text has one reading or one refusal, and never both.
use Rattle.std.proofs.Common.{◌≡◌, [], sym, refl, ap, ◌∙◌, inl, inr, arith}
use Rattle.words.proofs.Walks.{walks_unique, walks_not_refused, refused_unique}
use Rattle.formula.specs.Nodes.{flat}
use Rattle.formula.specs.Rules.{formula_rules, formula_start}
use Rattle.formula.specs.Reading.{due_parts}
use Rattle.formula.specs.Sheets.{Agree, OneReading, NeverBoth, OneRefusal}
use Rattle.formula.proofs.Flats.{flat_injective}
use Rattle.formula.proofs.SheetWalks.{sheet_walks, sheet_splits}

pub one_reading : OneReading
one_reading text actions properties c d p q a b =
    let same = walks_unique (formula_rules actions properties) text formula_start 0 (due_parts [] c.names (flat c.formula)) p (due_parts [] d.names (flat d.formula)) q (sheet_walks text actions properties c p a) refl (sheet_walks text actions properties d q b) refl in
    let names : c.names ≡ d.names = ap (λ s. s.names) same.0 in
    let formula : c.formula ≡ d.formula = flat_injective c.formula d.formula (ap (λ s. s.nodes) same.0) in
    (λ i. record { names = names i; formula = formula i }, same.1)

pub never_both_ways : NeverBoth
never_both_ways text actions properties c p n at a (inl r) = omega (arith, a.short, r.0)
never_both_ways text actions properties c p n at a (inr r) =
    walks_not_refused (formula_rules actions properties) text formula_start 0 (due_parts [] c.names (flat c.formula)) p n at (sheet_walks text actions properties c p a) refl r.1

pub one_refusal : OneRefusal
one_refusal text actions properties n at m from (inl a) (inl b) = (a.1 ∙ sym b.1, a.2 ∙ sym b.2)
one_refusal text actions properties n at m from (inl a) (inr b) = absurd (omega (arith, a.0, b.0))
one_refusal text actions properties n at m from (inr a) (inl b) = absurd (omega (arith, a.0, b.0))
one_refusal text actions properties n at m from (inr a) (inr b) = refused_unique (formula_rules actions properties) text formula_start 0 n at m from a.1 b.1

pub agree : Agree
agree = record {
  walks = sheet_walks;
  reads = λ text actions properties s end short done walks. (let f = sheet_splits text actions properties s end done short walks in (f.content, f.sheet, f.point));
}
