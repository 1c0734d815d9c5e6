-- What a formula's meaning speaks of. Assumes nothing.
use Rattle.std.proofs.Common.{ℕ, sym, subst, ⊎_elim}
use Rattle.logic.specs.Formulas as logic
use Rattle.logic.specs.Existential.{Uses, UsesOver}
use Rattle.formula.specs.declared.Formula.{Formula}
use Rattle.formula.specs.Nodes.{alpha_of}
use Rattle.formula.specs.Wholes.{AlphaIn, InRange, Meaning, meaning_of}
use Rattle.formula.proofs.WholeLaws.{meanings}

alpha_uses : (actions variables : ℕ) (α : logic.Alpha) → AlphaIn actions variables (alpha_of α) → UsesOver variables α
alpha_uses actions variables (logic.variable y) h = h
alpha_uses actions variables (logic.written c) h = tt

range_uses : (actions variables properties : ℕ) (f : logic.Formula) → InRange actions variables properties f → Uses variables f
range_uses a k p logic.truth h = tt
range_uses a k p (logic.property q) h = tt
range_uses a k p (logic.neg f) h = range_uses a k p f h
range_uses a k p (logic.or f g) h = (range_uses a k p f h.0, range_uses a k p g h.1)
range_uses a k p (logic.and f g) h = (range_uses a k p f h.0, range_uses a k p g h.1)
range_uses a k p (logic.one w α f) h = (alpha_uses a k α h.0, range_uses a k p f h.1)
range_uses a k p (logic.two w α f g) h = (alpha_uses a k α h.0, range_uses a k p f h.1, range_uses a k p g h.2)

-- every variable of a formula is one of those that its value keeps
pub meaning_uses : (v : Formula) → Uses (meaning_of v).variables (meaning_of v).formula
meaning_uses v =
    let P : Meaning → Type 0 = λ m. Uses m.variables m.formula in
    ⊎_elim
    (λ h. subst P (sym h.2) (range_uses v.actions v.variables.count v.properties h.0 h.1.range))
    (λ h. subst P (sym h.1) tt)
    (meanings.computed v)
