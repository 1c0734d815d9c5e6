-- More actions never cost a formula of the existential part.
use Rattle.std.proofs.Common.{◌≡◌, ℕ, suc, ◌<◌, Bool, true, refl, inl, inr}
use mathlib.Core.Option.{Option, none, some}
use Rattle.logic.specs.Codes.{Includes}
use Rattle.logic.specs.Formulas.{Alpha, variable, written, Formula, one, two, ef, ax, ag, af, exw, efw, axw, agw, afw, au, euw, auw, OnePart, TwoParts}
use Rattle.logic.specs.Table.{Table, Step, Sound}
use Rattle.logic.specs.Paths.{Follows}
use Rattle.logic.specs.Core.{Core, truth, and, ex, egw, eu, unending, core, one_core, two_core}
use Rattle.logic.specs.Meaning.{actions_of, EX, EGw, EU, HoldsCore, Holds}
use Rattle.logic.specs.Existential.{Plain, Existential, ExistsOne, ExistsTwo, Uses, UsesOver}
use Rattle.logic.specs.Laws.{ExistentialGrows}
use Rattle.logic.proofs.Arcs.{among_more}
use Rattle.logic.proofs.Operators.{ex_from, ex_step, eu_now, eu_later, eu_least}

module _ (M : Table) (sound : Sound M) (χ ξ : ℕ → Bool) (more : (a : ℕ) → a < M.actions → χ a ≡ true → ξ a ≡ true) where
  step : (s t : ℕ) → Step M χ s t → Step M ξ s t
  step s t a = among_more M.states M.actions M.arcs χ ξ more s t sound a

  -- an infinite path stays a path; one that ends might not, for an arc may leave its last state now
  follows : (o p : Option ℕ) → (p ≡ none → ⊥) → Follows M χ o p → Follows M ξ o p
  follows none none k f = tt
  follows none (some t) k f = f
  follows (some s) none k f = absurd (k refl)
  follows (some s) (some t) k f = step s t f

  module _ (P R : ℕ → Type 0) (h : (s : ℕ) → P s → R s) where
    ex_grows : (s : ℕ) → EX M χ P s → EX M ξ R s
    ex_grows s x = let p = ex_step M χ P s x in ex_from M ξ R s p.0 (step s p.0 p.1) (h p.0 p.2)

    egw_grows : (s : ℕ) → EGw M χ P s → EGw M ξ R s
    egw_grows s x = record {
      path = record {
        at = x.path.at;
        starts = x.path.starts;
        goes = λ i. follows (x.path.at i) (x.path.at (suc i)) (x.infinite (suc i)) (x.path.goes i);
      };
      infinite = x.infinite;
      always = λ i t e. h t (x.always i t e);
    }

    eu_grows : (Q V : ℕ → Type 0) → ((s : ℕ) → Q s → V s) → (s : ℕ) → EU M χ P Q s → EU M ξ R V s
    eu_grows Q V k s x =
        eu_least M χ P Q (EU M ξ R V) (λ s q. eu_now M ξ R V s (k s q)) (λ s t p a y. eu_later M ξ R V s t (h s p) (step s t a) y) s x

-- a property is the same under every valuation
plain : (M : Table) (v w : ℕ) (f : Formula) → Plain f → (s : ℕ) → Holds M w f s → Holds M v f s
plain M v w Formula.truth e s x = tt
plain M v w (Formula.property p) e s x = x
plain M v w (Formula.neg f) e s x = absurd e
plain M v w (Formula.or f g) e s x = absurd e
plain M v w (Formula.and f g) e s x = absurd e
plain M v w (one u α f) e s x = absurd e
plain M v w (two u α f g) e s x = absurd e

module _ (M : Table) (sound : Sound M) (variables v w : ℕ) (includes : Includes M.actions variables w v) where
  more : (α : Alpha) → UsesOver variables α → (a : ℕ) → a < M.actions → actions_of M v α a ≡ true → actions_of M w α a ≡ true
  more (variable y) k a l e = includes y a k l e
  more (written c) k a l e = e

  abbrev Keeps : Core → Type 0
  Keeps f = (s : ℕ) → HoldsCore M v f s → HoldsCore M w f s

  and_keeps : (f g : Core) → Keeps f → Keeps g → Keeps (and f g)
  and_keeps f g a b s x = (a s x.0, b s x.1)

  truth_keeps : Keeps truth
  truth_keeps s x = tt

  module _ (α : Alpha) (k : UsesOver variables α) where
    ex_keeps : (f : Core) → Keeps f → Keeps (ex α f)
    ex_keeps f a s x = ex_grows M sound _ _ (more α k) (HoldsCore M v f) (HoldsCore M w f) a s x

    egw_keeps : (f : Core) → Keeps f → Keeps (egw α f)
    egw_keeps f a s x = egw_grows M sound _ _ (more α k) (HoldsCore M v f) (HoldsCore M w f) a s x

    eu_keeps : (f g : Core) → Keeps f → Keeps g → Keeps (eu α f g)
    eu_keeps f g a b s x =
        eu_grows M sound _ _ (more α k) (HoldsCore M v f) (HoldsCore M w f) a (HoldsCore M v g) (HoldsCore M w g) b s x

    unending_keeps : Keeps (unending α)
    unending_keeps = egw_keeps truth truth_keeps

    one_keeps : (u : OnePart) → ExistsOne u → (f : Core) → Keeps f → Keeps (one_core u α f)
    one_keeps OnePart.ex e f a = ex_keeps f a
    one_keeps exw e f a = ex_keeps (and f (unending α)) (and_keeps f (unending α) a unending_keeps)
    one_keeps OnePart.egw e f a = egw_keeps f a
    one_keeps ef e f a = eu_keeps truth f truth_keeps a
    one_keeps efw e f a = eu_keeps truth (and f (unending α)) truth_keeps (and_keeps f (unending α) a unending_keeps)
    one_keeps OnePart.eg e f a = absurd e
    one_keeps ax e f a = absurd e
    one_keeps ag e f a = absurd e
    one_keeps af e f a = absurd e
    one_keeps axw e f a = absurd e
    one_keeps agw e f a = absurd e
    one_keeps afw e f a = absurd e

    two_keeps : (u : TwoParts) → ExistsTwo u → (f g : Core) → Keeps f → Keeps g → Keeps (two_core u α f g)
    two_keeps TwoParts.eu e f g a b = eu_keeps f g a b
    two_keeps euw e f g a b = eu_keeps f (and g (unending α)) a (and_keeps g (unending α) b unending_keeps)
    two_keeps au e f g a b = absurd e
    two_keeps auw e f g a b = absurd e

  grows : (f : Formula) → Existential f → Uses variables f → Keeps (core f)
  grows Formula.truth e k s x = tt
  grows (Formula.property p) e k s x = x
  grows (Formula.neg f) e k s x = λ y. x (plain M v w f e s y)
  grows (Formula.or f g) e k s x = elim x [ inl a ↦ inl (grows f e.0 k.0 s a) | inr b ↦ inr (grows g e.1 k.1 s b) ]
  grows (Formula.and f g) e k s x = (grows f e.0 k.0 s x.0, grows g e.1 k.1 s x.1)
  grows (one u α f) e k s x = one_keeps α k.0 u e.0 (core f) (grows f e.1 k.1) s x
  grows (two u α f g) e k s x =
      two_keeps α k.0 u e.0 (core f) (core g) (grows f e.1 k.1) (grows g e.2 k.2) s x

pub existential_grows : ExistentialGrows
existential_grows M sound variables v w includes f e k s x = grows M sound variables v w includes f e k s x
