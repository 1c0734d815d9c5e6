-- The nodes of a formula give it back: read from the last to the first, each takes its parts from a stack.
use Rattle.std.proofs.Common.{◌≡◌, List, [], ◌∷◌, ◌++◌, sym, refl, ap, ◌∙◌}
use Rattle.std.proofs.lemmas.List.{append_assoc}
use Rattle.logic.specs.Formulas as logic
use Rattle.formula.specs.declared.Alpha.{Alpha}
use Rattle.formula.specs.declared.Alpha.TheVariants.{Variable, Written}
use Rattle.formula.specs.declared.Node.{Node}
use Rattle.formula.specs.Nodes.{one_word, two_word, alpha_of, flat}
use Rattle.formula.specs.Wholes.{one_back, two_back, alpha_back, on_one, on_two, built}

alpha_round_trip : (α : logic.Alpha) → alpha_back (alpha_of α) ≡ α
alpha_round_trip (logic.variable y) = refl
alpha_round_trip (logic.written c) = refl

pub alpha_there : (α : Alpha) → alpha_of (alpha_back α) ≡ α
alpha_there (Variable y) = refl
alpha_there (Written c) = refl

one_there : (w : logic.OnePart) → one_back (one_word w) ≡ w
one_there logic.ex = refl
one_there logic.eg = refl
one_there logic.ef = refl
one_there logic.ax = refl
one_there logic.ag = refl
one_there logic.af = refl
one_there logic.exw = refl
one_there logic.egw = refl
one_there logic.efw = refl
one_there logic.axw = refl
one_there logic.agw = refl
one_there logic.afw = refl

two_there : (w : logic.TwoParts) → two_back (two_word w) ≡ w
two_there logic.eu = refl
two_there logic.au = refl
two_there logic.euw = refl
two_there logic.auw = refl

-- By the formula: its parts stand behind its node, the second behind the first, so that they lie on top of the stack.
pub built_flat : (f : logic.Formula) (ns : List Node) → built (flat f ++ ns) ≡ f ∷ built ns
built_flat logic.truth ns = refl
built_flat (logic.property i) ns = refl
built_flat (logic.neg f) ns = ap (on_one logic.neg) (built_flat f ns)
built_flat (logic.or f g) ns =
    ap (on_two logic.or) (ap built (append_assoc (flat f) (flat g) ns) ∙ built_flat f (flat g ++ ns) ∙ ap (λ fs. f ∷ fs) (built_flat g ns))
built_flat (logic.and f g) ns =
    ap (on_two logic.and) (ap built (append_assoc (flat f) (flat g) ns) ∙ built_flat f (flat g ++ ns) ∙ ap (λ fs. f ∷ fs) (built_flat g ns))
built_flat (logic.one w α f) ns =
    ap (on_one (logic.one (one_back (one_word w)) (alpha_back (alpha_of α)))) (built_flat f ns)
    ∙ ap (λ v. logic.one v (alpha_back (alpha_of α)) f ∷ built ns) (one_there w)
    ∙ ap (λ β. logic.one w β f ∷ built ns) (alpha_round_trip α)
built_flat (logic.two w α f g) ns =
    ap (on_two (logic.two (two_back (two_word w)) (alpha_back (alpha_of α)))) (ap built (append_assoc (flat f) (flat g) ns) ∙ built_flat f (flat g ++ ns) ∙ ap (λ fs. f ∷ fs) (built_flat g ns))
    ∙ ap (λ v. logic.two v (alpha_back (alpha_of α)) f g ∷ built ns) (two_there w)
    ∙ ap (λ β. logic.two w β f g ∷ built ns) (alpha_round_trip α)

-- so formulas with the same nodes are the same
pub flat_injective : (f g : logic.Formula) → flat f ≡ flat g → f ≡ g
flat_injective f g same =
    let e : ◌≡◌ {A = List logic.Formula} (f ∷ []) (g ∷ []) = sym (built_flat f []) ∙ ap (λ ns. built (ns ++ [])) same ∙ built_flat g [] in
    cc
