-- The derived words say what their letters say.
use Rattle.std.proofs.Common.{◌≡◌, ℕ, zero, suc, ◌<◌, Bool, ◌⊎◌, sym, ◌∙◌, subst, inl, inr, not-suc-le-zero, arith}
use mathlib.Core.Option.{some, some-injective}
use Rattle.logic.specs.Formulas.{Alpha, Formula}
use Rattle.logic.specs.Table.{Table, Sound, Step}
use Rattle.logic.specs.Paths.{Path, Infinite}
use Rattle.logic.specs.Core.{Core, core, neg}
use Rattle.logic.specs.Meaning.{actions_of, EX, EG, EGw, EU, HoldsCore, Holds}
use Rattle.logic.specs.Words.{Kind, any, infinite, Some, Every, Next, Sometime, Until, Meanings}
use Rattle.logic.specs.Deciding.{has, decided}
use Rattle.logic.specs.Laws.{WordsMean}
use Rattle.logic.proofs.Walks.{before, before_infinite, rest, first_step, second}
use Rattle.logic.proofs.Operators.{eu_now, eu_later, eu_least}
use Rattle.logic.proofs.Chains.{always_rests, forever_rests}
use Rattle.logic.proofs.FixedPoints.{always_prefix, always_fixed, forever_prefix, forever_fixed}
use Rattle.logic.proofs.Deciding.{decided_decides, core_or_not}
use Rattle.logic.proofs.Settling.{Decided}
use Rattle.logic.proofs.Along.{First, every_next, every_always, every_first, every_until, not_both}

-- EX and EU over infinite paths
module _ (M : Table) (χ : ℕ → Bool) (P : ℕ → Type 0) where
  abbrev Unending : ℕ → Type 0
  Unending t = EGw M χ (λ u. Unit {0}) t

  exw_to : (s : ℕ) → EX M χ (λ t. P t × Unending t) s → Some M χ s infinite (Next M χ s P)
  exw_to s x =
      let a = first_step M χ x.path x.second in
      let y = x.there.1 in
      record {
        path = before M χ s x.state a y.path;
        counts = before_infinite M χ s x.state a y.path y.infinite;
        does = record { state = x.state; second = y.path.starts; there = x.there.0 };
      }

  exw_of : (s : ℕ) → Some M χ s infinite (Next M χ s P) → EX M χ (λ t. P t × Unending t) s
  exw_of s x = record {
    path = x.path;
    state = x.does.state;
    second = x.does.second;
    there = (
      x.does.there,
      record { path = rest M χ x.path x.does.second; infinite = λ i. x.counts (suc i); always = λ i t e. tt },
    );
  }

  module _ (Q : ℕ → Type 0) where
    abbrev Goes : ℕ → Type 0
    Goes s = Some M χ s infinite (Until M χ s P Q)

    now : (s : ℕ) → Q s × Unending s → Goes s
    now s q = record {
      path = q.1.path;
      counts = q.1.infinite;
      does = record { index = 0; state = s; stands = q.1.path.starts; there = q.0; before = λ j u b. absurd (not-suc-le-zero b) };
    }

    later : (s t : ℕ) → P s → Step M χ s t → Goes t → Goes s
    later s t p a x = record {
      path = before M χ s t a x.path;
      counts = before_infinite M χ s t a x.path x.counts;
      does = record { index = suc x.does.index; state = x.does.state; stands = x.does.stands; there = x.does.there; before = go };
    }
      where
        go : (j u : ℕ) → j < suc x.does.index → (before M χ s t a x.path).at j ≡ some u → P u
        go zero u b e = subst P (some-injective s u e) p
        go (suc j) u b e = x.does.before j u (omega arith) e

    euw_to : (s : ℕ) → EU M χ P (λ t. Q t × Unending t) s → Goes s
    euw_to = eu_least M χ P (λ t. Q t × Unending t) Goes now later

    euw_of : (s : ℕ) → Goes s → EU M χ P (λ t. Q t × Unending t) s
    euw_of s x = go x.does.index s x.path x.counts x.does.state x.does.stands x.does.there x.does.before
      where
        go : (i s : ℕ) (π : Path M χ s) → Infinite π → (t : ℕ) → π.at i ≡ some t → Q t → ((j u : ℕ) → j < i → π.at j ≡ some u → P u)
            → EU M χ P (λ t. Q t × Unending t) s
        go zero s π inf t e q ps =
            eu_now M χ P (λ t. Q t × Unending t) s (
              subst Q (sym (some-injective s t (sym π.starts ∙ e))) q,
              record { path = π; infinite = inf; always = λ i t e. tt },
            )
        go (suc i) s π inf t e q ps =
            elim (second M χ π) [
              | inl z ↦ absurd (inf 1 z)
              | inr p ↦ eu_later M χ P (λ t. Q t × Unending t) s p.0 (ps 0 s (omega arith) π.starts) (first_step M χ π p.1)
                  (go i p.0 (rest M χ π p.1) (λ i. inf (suc i)) t e q (λ j u b. ps (suc j) u (omega arith)))
            ]

-- between EU and the until of some path
module _ (M : Table) (χ : ℕ → Bool) (P Q : ℕ → Type 0) (s : ℕ) where
  eu_to : EU M χ P Q s → Some M χ s any (Until M χ s P Q)
  eu_to x = record {
    path = x.path;
    counts = tt;
    does = record { index = x.index; state = x.state; stands = x.stands; there = x.there; before = x.before };
  }

  eu_of : Some M χ s any (Until M χ s P Q) → EU M χ P Q s
  eu_of x = record {
    path = x.path;
    index = x.does.index;
    state = x.does.state;
    stands = x.does.stands;
    there = x.does.there;
    before = x.does.before;
  }

-- sometime is until, with nothing asked before
module _ (M : Table) (χ : ℕ → Bool) (s : ℕ) (k : Kind) (P : ℕ → Type 0) where
  sometime : Some M χ s k (Until M χ s (λ t. Unit {0}) P) → Some M χ s k (Sometime M χ s P)
  sometime x = record {
    path = x.path;
    counts = x.counts;
    does = record { index = x.does.index; state = x.does.state; stands = x.does.stands; there = x.does.there };
  }

  until : Some M χ s k (Sometime M χ s P) → Some M χ s k (Until M χ s (λ t. Unit {0}) P)
  until x = record {
    path = x.path;
    counts = x.counts;
    does = record { index = x.does.index; state = x.does.state; stands = x.does.stands; there = x.does.there; before = λ j t b e. tt };
  }

module _ (M : Table) (sound : Sound M) (v s : ℕ) (l : s < M.states) (α : Alpha) where
  known : (f : Core) (t : ℕ) → t < M.states → Decided (HoldsCore M v f t)
  known f t b = core_or_not M sound v t f b

  -- each path meets f among its first states, as many as the table has and one more: a path that avoids f so long puts s
  -- into the stage at which eg stands still
  af_first : (f : Core) → (EG M (actions_of M v α) (HoldsCore M v (neg f)) s → ⊥)
      → Every M (actions_of M v α) s any (First M (actions_of M v α) s (HoldsCore M v f))
  af_first f no_path =
      let χ = actions_of M v α in
      let d = decided_decides M sound v (neg f) in
      let rests = always_rests M.states M.actions M.arcs sound χ (has (decided M v (neg f))) in
      every_first M sound χ s l any (HoldsCore M v f) (known f) (suc M.states)
      (λ π c never. no_path ((always_fixed M sound χ _ _ d M.states rests s l).0
      (always_prefix M sound χ _ _ d M.states s l π (λ i t b e. never i (omega arith) t e))))

  afw_first : (f : Core) → (EGw M (actions_of M v α) (HoldsCore M v (neg f)) s → ⊥)
      → Every M (actions_of M v α) s infinite (First M (actions_of M v α) s (HoldsCore M v f))
  afw_first f no_path =
      let χ = actions_of M v α in
      let d = decided_decides M sound v (neg f) in
      let rests = forever_rests M.states M.actions M.arcs sound χ (has (decided M v (neg f))) in
      every_first M sound χ s l infinite (HoldsCore M v f) (known f) (suc M.states)
      (λ π c never. no_path ((forever_fixed M sound χ _ _ d M.states rests s l).0
      (forever_prefix M sound χ _ _ d M.states s l π c (λ i t b e. never i (omega arith) t e))))

  pub meanings : (f g : Formula) → Meanings M v s α f g
  meanings f g =
      let χ = actions_of M v α in
      let F = Holds M v f in
      let G = Holds M v g in
      let none_of = λ (P : ℕ → Type 0) (t : ℕ). P t → ⊥ in
      let neither = λ (t : ℕ). (F t ⊎ G t) → ⊥ in
      let all = λ (t : ℕ). Unit {0} in
      record {
        exw_means = (exw_to M χ F s, exw_of M χ F s);
        ef_means = (λ x. sometime M χ s any F (eu_to M χ all F s x), λ x. eu_of M χ all F s (until M χ s any F x));
        efw_means = (λ x. sometime M χ s infinite F (euw_to M χ all F s x), λ x. euw_of M χ all F s (until M χ s infinite F x));
        euw_means = (euw_to M χ F G s, euw_of M χ F G s);
        ax_means = (
          λ no_path. every_next M sound χ s l any F (known (core f))
              (λ x. no_path (record { path = x.path; state = x.does.state; second = x.does.second; there = x.does.there })),
          λ every x. x.there (every x.path tt x.state x.second),
        );
        axw_means = (
          λ no_path. every_next M sound χ s l infinite F (known (core f)) (λ x. no_path (exw_of M χ (none_of F) s x)),
          λ every x. let y = exw_to M χ (none_of F) s x in y.does.there (every y.path y.counts y.does.state y.does.second),
        );
        ag_means = (
          λ no_path. every_always M sound χ s l any F (known (core f))
              (λ x. no_path (eu_of M χ all (none_of F) s (until M χ s any (none_of F) x))),
          λ every x. x.there (every x.path tt x.index x.state x.stands),
        );
        agw_means = (
          λ no_path. every_always M sound χ s l infinite F (known (core f))
              (λ x. no_path (euw_of M χ all (none_of F) s (until M χ s infinite (none_of F) x))),
          λ every x. let y = euw_to M χ all (none_of F) s x in
              y.does.there (every y.path y.counts y.does.index y.does.state y.does.stands),
        );
        af_means = (
          λ no_path π c. (af_first (core f) no_path π c).when,
          λ every x. let y = every x.path tt in x.always y.index y.state y.stands y.there,
        );
        afw_means = (
          λ no_path π c. (afw_first (core f) no_path π c).when,
          λ every x. let y = every x.path x.infinite in x.always y.index y.state y.stands y.there,
        );
        au_means = (
          λ no_path. every_until M sound χ s l any G (known (core g)) F (known (core f))
              (λ x. no_path (inl (eu_of M χ (none_of G) neither s x))) (af_first (core g) (λ x. no_path (inr x))),
          λ every d. elim d [
            | inl x ↦ (let y = eu_to M χ (none_of G) neither s x in not_both M χ s F G y.path (every y.path tt) y.does)
            | inr x ↦ (let y = every x.path tt in x.always y.index y.state y.stands y.there)
          ],
        );
        auw_means = (
          λ no_path. every_until M sound χ s l infinite G (known (core g)) F (known (core f))
              (λ x. no_path (inl (euw_of M χ (none_of G) neither s x))) (afw_first (core g) (λ x. no_path (inr x))),
          λ every d. elim d [
            | inl x ↦ (let y = euw_to M χ (none_of G) neither s x in not_both M χ s F G y.path (every y.path y.counts) y.does)
            | inr x ↦ (let y = every x.path x.infinite in x.always y.index y.state y.stands y.there)
          ],
        );
      }

pub words_mean : WordsMean
words_mean M sound v s l α f g = meanings M sound v s l α f g
