-- The words in terms of paths: e.. says that some path does so, a.. that every path does, and w that only infinite paths count.
--
--   Kind, Counts     which paths count: every path, or the infinite ones
--   Some, Every      some path from s that counts does so; every one does
--   Next             the path has a second state, and P holds there
--   IfNext           P holds at the second state, if there is one
--   Always           P holds at every state of the path
--   Sometime         P holds at some state of the path
--   Until            Q holds at some state of the path, and P at all before it
--   Meanings         what each derived word says
--
-- Assumes nothing.
use Rattle.std.specs.Prelude.{◌≡◌, ℕ, ◌<◌, Bool, ◌↔◌}
use Rattle.std.proofs.Math.Option.{some}
use Rattle.logic.specs.Formulas.{Alpha, Formula, one, two, ef, ax, ag, af, exw, efw, axw, agw, afw, au, euw, auw}
use Rattle.logic.specs.Table.{Table}
use Rattle.logic.specs.Paths.{Path, Infinite}
use Rattle.logic.specs.Meaning.{actions_of, Holds}

pub data Kind : Type 0 where
  any infinite : Kind

module _ (M : Table) (χ : ℕ → Bool) (s : ℕ) where
  abbrev pub Counts : Kind → Path M χ s → Type 0
  Counts any π = Unit {0}
  Counts infinite π = Infinite π

  pub record Some (k : Kind) (Does : Path M χ s → Type 0) : Type 0 where
    pub path : Path M χ s
    pub counts : Counts k path
    pub does : Does path

  abbrev pub Every : Kind → (Path M χ s → Type 0) → Type 0
  Every k Does = (π : Path M χ s) → Counts k π → Does π

  pub record Next (P : ℕ → Type 0) (π : Path M χ s) : Type 0 where
    pub state : ℕ
    pub second : π.at 1 ≡ some state
    pub there : P state

  abbrev pub IfNext : (ℕ → Type 0) → Path M χ s → Type 0
  IfNext P π = (t : ℕ) → π.at 1 ≡ some t → P t

  abbrev pub Always : (ℕ → Type 0) → Path M χ s → Type 0
  Always P π = (i t : ℕ) → π.at i ≡ some t → P t

  pub record Sometime (P : ℕ → Type 0) (π : Path M χ s) : Type 0 where
    pub index : ℕ
    pub state : ℕ
    pub stands : π.at index ≡ some state
    pub there : P state

  pub record Until (P Q : ℕ → Type 0) (π : Path M χ s) : Type 0 where
    pub index : ℕ
    pub state : ℕ
    pub stands : π.at index ≡ some state
    pub there : Q state
    pub before : (j t : ℕ) → j < index → π.at j ≡ some t → P t

pub record Meanings (M : Table) (v s : ℕ) (α : Alpha) (f g : Formula) : Type 0 where
  pub exw_means : Holds M v (one exw α f) s ↔ Some M (actions_of M v α) s infinite (Next M (actions_of M v α) s (Holds M v f))
  pub ef_means : Holds M v (one ef α f) s ↔ Some M (actions_of M v α) s any (Sometime M (actions_of M v α) s (Holds M v f))
  pub efw_means : Holds M v (one efw α f) s ↔ Some M (actions_of M v α) s infinite (Sometime M (actions_of M v α) s (Holds M v f))
  pub euw_means : Holds M v (two euw α f g) s
      ↔ Some M (actions_of M v α) s infinite (Until M (actions_of M v α) s (Holds M v f) (Holds M v g))
  pub ax_means : Holds M v (one ax α f) s ↔ Every M (actions_of M v α) s any (IfNext M (actions_of M v α) s (Holds M v f))
  pub axw_means : Holds M v (one axw α f) s ↔ Every M (actions_of M v α) s infinite (IfNext M (actions_of M v α) s (Holds M v f))
  pub ag_means : Holds M v (one ag α f) s ↔ Every M (actions_of M v α) s any (Always M (actions_of M v α) s (Holds M v f))
  pub agw_means : Holds M v (one agw α f) s ↔ Every M (actions_of M v α) s infinite (Always M (actions_of M v α) s (Holds M v f))
  pub af_means : Holds M v (one af α f) s ↔ Every M (actions_of M v α) s any (Sometime M (actions_of M v α) s (Holds M v f))
  pub afw_means : Holds M v (one afw α f) s ↔ Every M (actions_of M v α) s infinite (Sometime M (actions_of M v α) s (Holds M v f))
  pub au_means : Holds M v (two au α f g) s
      ↔ Every M (actions_of M v α) s any (Until M (actions_of M v α) s (Holds M v f) (Holds M v g))
  pub auw_means : Holds M v (two auw α f g) s
      ↔ Every M (actions_of M v α) s infinite (Until M (actions_of M v α) s (Holds M v f) (Holds M v g))
