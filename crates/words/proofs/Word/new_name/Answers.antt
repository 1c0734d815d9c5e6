use Rattle.std.proofs.Common.{is_some, sym, refl, ap, ◌∙◌, inr}
use Rattle.words.proofs.Lookups.{lookup_decides}
use Rattle.words.proofs.Words.{never_both}
use Rattle.words.proofs.Word.new_name.Goals as goal

pub returns-then-is_some : goal.returns-then-is_some
returns-then-is_some c =
    inr (refl, sym c.is_name.ensures ∙ c.if-not-is_name.false, (lookup_decides _ _).0 (ap is_some (sym c.find_name.ensures.value) ∙ sym c.is_some.ensures ∙ c.if-is_some.true))

pub returns : goal.returns
returns c = (
  sym c.is_name.ensures ∙ c.if-not-is_name.false,
  λ h. never_both c.is_some.result (c.is_some.ensures ∙ ap is_some c.find_name.ensures.value ∙ (lookup_decides _ _).1 h) c.if-is_some.false,
  c.name_of.ensures,
)
