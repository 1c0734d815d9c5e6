-- A text is a sheet of one content, or is refused for one reason, and never both.
use Rattle.std.proofs.Common.{sym, refl, ap, ◌∙◌, inl, inr, arith}
use Rattle.words.proofs.Walks.{walks_unique, refused_unique, walks_not_refused}
use Rattle.model.specs.Rules.{at, nothing, model_rules, model_start}
use Rattle.model.specs.Laws.{SheetsAreWalks, OneReading, OneRefusal, NeverBoth, NamesLookUp}
use Rattle.model.proofs.FromSheet.{sheet_walks}
use Rattle.model.proofs.Numbers.{lookup_given}
use Rattle.model.proofs.ToSheet.{walks_sheet}

pub sheets_are_walks : SheetsAreWalks
sheets_are_walks text c end = (λ s. (s.short, sheet_walks text c end s), λ w. walks_sheet text c end w.0 w.1)

pub one_reading : OneReading
one_reading text c d end last a b =
    let same = walks_unique model_rules text model_start 0 (at nothing c) end (at nothing d) last (sheet_walks text c end a) refl (sheet_walks text d last b) refl in
    (ap (λ s. s.content) same.0, same.1)

pub one_refusal : OneRefusal
one_refusal text n place m other (inl a) (inl b) = (a.1 ∙ sym b.1, a.2 ∙ sym b.2)
one_refusal text n place m other (inl a) (inr b) = absurd (omega (arith, a.0, b.0))
one_refusal text n place m other (inr a) (inl b) = absurd (omega (arith, a.0, b.0))
one_refusal text n place m other (inr a) (inr b) = refused_unique model_rules text model_start 0 n place m other a.1 b.1

pub never_both : NeverBoth
never_both text c end n place s (inl r) = omega (arith, s.short, r.0)
never_both text c end n place s (inr r) =
    walks_not_refused model_rules text model_start 0 (at nothing c) end n place (sheet_walks text c end s) refl r.1

pub names_look_up : NamesLookUp
names_look_up c a k i lt = lookup_given _ i (a.given k).once lt
