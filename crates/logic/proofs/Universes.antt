-- The stages over a universe, by any tests that decide the parts at its codes: for evaluation, whose rows are such tests.
use Rattle.std.proofs.Common.{◌≡◌, ℕ, suc, Bool, true, false, not, ◌&&◌, ◌||◌, ◌↔◌, refl}
use Rattle.logic.specs.Formulas.{Alpha}
use Rattle.logic.specs.Table.{Table, Sound}
use Rattle.logic.specs.Core.{Core, truth, property, neg, or, and, ex, eg, egw, eu}
use Rattle.logic.specs.Meaning.{actions_of, HoldsCore}
use Rattle.logic.specs.Rounds.{stage, Still, Settles, FixedRounds}
use Rattle.logic.specs.Deciding.{steps_into, chain, ends, until_chain, forever_chain, always_chain}
use Rattle.logic.proofs.Counting.{Agree}
use Rattle.logic.proofs.Chains.{chain_agree, until_rests, forever_rests, always_rests}
use Rattle.logic.proofs.Settling.{settles_same}
use Rattle.logic.proofs.Deciding.{decides_by, neg_decides, or_decides, and_decides}
use Rattle.logic.proofs.FixedPoints.{Decides, agree_decided, decided_agree, ex_decides, until_decides, forever_decides, always_decides, until_fixed, forever_fixed, always_fixed}

-- F, a test on state and code, is true exactly where P holds, at the states of the table and the codes of the universe
abbrev pub Tells : Table → (ℕ → Bool) → (ℕ → ℕ → Bool) → (ℕ → ℕ → Type 0) → Type 0
Tells M U F P = (c : ℕ) → U c ≡ true → Decides M.states (λ s. F s c) (λ s. P s c)

-- two tests agree there
abbrev pub Alike : Table → (ℕ → Bool) → (ℕ → ℕ → Bool) → (ℕ → ℕ → Bool) → Type 0
Alike M U F G = (c : ℕ) → U c ≡ true → Agree M.states (λ s. F s c) (λ s. G s c)

-- a test that agrees with one that tells, tells
pub tells_by : (M : Table) (U : ℕ → Bool) (F G : ℕ → ℕ → Bool) (P : ℕ → ℕ → Type 0) → Alike M U F G → Tells M U G P → Tells M U F P
tells_by M U F G P e d c u = decides_by M.states (λ s. F s c) (λ s. G s c) (λ s. P s c) (e c u) (d c u)

-- the words without a fixed point
module _ (M : Table) (U : ℕ → Bool) where
  pub truth_tells : Tells M U (λ s c. true) (λ s c. HoldsCore M c truth s)
  truth_tells c u s l = (λ e. tt, λ x. refl)

  pub property_tells : (p : ℕ) → Tells M U (λ s c. M.label s p) (λ s c. HoldsCore M c (property p) s)
  property_tells p c u s l = (λ e. e, λ x. x)

  module _ (f : Core) (F : ℕ → ℕ → Bool) (df : Tells M U F (λ s c. HoldsCore M c f s)) where
    pub neg_tells : Tells M U (λ s c. not (F s c)) (λ s c. HoldsCore M c (neg f) s)
    neg_tells c u = neg_decides M.states (λ s. F s c) (HoldsCore M c f) (df c u)

    pub ex_tells : Sound M → (α : Alpha)
        → Tells M U (λ s c. steps_into M.arcs (actions_of M c α) (λ t. F t c) s) (λ s c. HoldsCore M c (ex α f) s)
    ex_tells sound α c u = ex_decides M sound (actions_of M c α) (λ s. F s c) (HoldsCore M c f) (df c u)

    module _ (g : Core) (G : ℕ → ℕ → Bool) (dg : Tells M U G (λ s c. HoldsCore M c g s)) where
      pub or_tells : Tells M U (λ s c. F s c || G s c) (λ s c. HoldsCore M c (or f g) s)
      or_tells c u = or_decides M.states (λ s. F s c) (λ s. G s c) (HoldsCore M c f) (HoldsCore M c g) (df c u) (dg c u)

      pub and_tells : Tells M U (λ s c. F s c && G s c) (λ s c. HoldsCore M c (and f g) s)
      and_tells c u = and_decides M.states (λ s. F s c) (λ s. G s c) (HoldsCore M c f) (HoldsCore M c g) (df c u) (dg c u)

-- one chain for all three fixed points, by tests on state and code: equal parts make equal chains
abbrev pub chain_test : Table → Alpha → (ℕ → ℕ → Bool) → (ℕ → ℕ → Bool) → (ℕ → ℕ → Bool) → ℕ → ℕ → ℕ → Bool
chain_test M α hold goal start i s c = chain M.arcs (actions_of M c α) (λ t. hold t c) (λ t. goal t c) (λ t. start t c) i s

pub chain_alike : (M : Table) → Sound M → (U : ℕ → Bool) (α : Alpha) (hold hold' goal goal' start start' : ℕ → ℕ → Bool)
    → Alike M U hold hold' → Alike M U goal goal' → Alike M U start start'
    → (i : ℕ) → Alike M U (chain_test M α hold goal start i) (chain_test M α hold' goal' start' i)
chain_alike M sound U α hold hold' goal goal' start start' h g e i c u =
    chain_agree M.states M.actions M.arcs sound (actions_of M c α) (λ t. hold t c) (λ t. hold' t c)
    (λ t. goal t c) (λ t. goal' t c) (λ t. start t c) (λ t. start' t c) (h c u) (g c u) (e c u) i

-- stage i by tests on state and code: chain_test with goal as its start; with an empty goal, and hold as its start; and with
-- the dead ends of hold as its goal, and hold as its start
module _ (M : Table) (α : Alpha) (F : ℕ → ℕ → Bool) where
  abbrev pub until_test : (ℕ → ℕ → Bool) → ℕ → ℕ → ℕ → Bool
  until_test G i s c = until_chain M.arcs (actions_of M c α) (λ t. F t c) (λ t. G t c) i s

  abbrev pub forever_test : ℕ → ℕ → ℕ → Bool
  forever_test i s c = forever_chain M.arcs (actions_of M c α) (λ t. F t c) i s

  abbrev pub always_test : ℕ → ℕ → ℕ → Bool
  always_test i s c = always_chain M.arcs (actions_of M c α) (λ t. F t c) i s

module _ (M : Table) (sound : Sound M) (U : ℕ → Bool) (α : Alpha) (f : Core) (F : ℕ → ℕ → Bool)
    (df : Tells M U F (λ s c. HoldsCore M c f s)) where
  -- egw
  pub forever_tells : (i : ℕ) → Tells M U (forever_test M α F i) (stage M (egw α f) i)
  forever_tells i c u = forever_decides M sound (actions_of M c α) (λ s. F s c) (HoldsCore M c f) (df c u) i

  pub forever_still : (i : ℕ) → Still M U (egw α f) i ↔ Alike M U (forever_test M α F i) (forever_test M α F (suc i))
  forever_still i = (
    λ still c u. agree_decided M.states _ _ _ _ (forever_tells i c u) (forever_tells (suc i) c u) (λ s l. still s c l u),
    λ alike s c l u. decided_agree M.states _ _ _ _ (forever_tells i c u) (forever_tells (suc i) c u) (alike c u) s l,
  )

  pub forever_rounds : (r : ℕ) → Settles (λ i. Alike M U (forever_test M α F i) (forever_test M α F (suc i))) r → FixedRounds M U (egw α f) r
  forever_rounds r h = settles_same _ (Still M U (egw α f)) (λ i. (forever_still i).1) (λ i. (forever_still i).0) r h

  pub forever_holds : (i : ℕ) → Alike M U (forever_test M α F i) (forever_test M α F (suc i))
      → Tells M U (forever_test M α F i) (λ s c. HoldsCore M c (egw α f) s)
  forever_holds i alike c u = forever_fixed M sound (actions_of M c α) (λ s. F s c) (HoldsCore M c f) (df c u) i (alike c u)

  -- eg
  pub always_tells : (i : ℕ) → Tells M U (always_test M α F i) (stage M (eg α f) i)
  always_tells i c u = always_decides M sound (actions_of M c α) (λ s. F s c) (HoldsCore M c f) (df c u) i

  pub always_still : (i : ℕ) → Still M U (eg α f) i ↔ Alike M U (always_test M α F i) (always_test M α F (suc i))
  always_still i = (
    λ still c u. agree_decided M.states _ _ _ _ (always_tells i c u) (always_tells (suc i) c u) (λ s l. still s c l u),
    λ alike s c l u. decided_agree M.states _ _ _ _ (always_tells i c u) (always_tells (suc i) c u) (alike c u) s l,
  )

  pub always_rounds : (r : ℕ) → Settles (λ i. Alike M U (always_test M α F i) (always_test M α F (suc i))) r → FixedRounds M U (eg α f) r
  always_rounds r h = settles_same _ (Still M U (eg α f)) (λ i. (always_still i).1) (λ i. (always_still i).0) r h

  pub always_holds : (i : ℕ) → Alike M U (always_test M α F i) (always_test M α F (suc i))
      → Tells M U (always_test M α F i) (λ s c. HoldsCore M c (eg α f) s)
  always_holds i alike c u = always_fixed M sound (actions_of M c α) (λ s. F s c) (HoldsCore M c f) (df c u) i (alike c u)

  -- eu
  module _ (g : Core) (G : ℕ → ℕ → Bool) (dg : Tells M U G (λ s c. HoldsCore M c g s)) where
    pub until_tells : (i : ℕ) → Tells M U (until_test M α F G i) (stage M (eu α f g) i)
    until_tells i c u =
        until_decides M sound (actions_of M c α) (λ s. F s c) (HoldsCore M c f) (df c u) (λ s. G s c) (HoldsCore M c g) (dg c u) i

    pub until_still : (i : ℕ) → Still M U (eu α f g) i ↔ Alike M U (until_test M α F G i) (until_test M α F G (suc i))
    until_still i = (
      λ still c u. agree_decided M.states _ _ _ _ (until_tells i c u) (until_tells (suc i) c u) (λ s l. still s c l u),
      λ alike s c l u. decided_agree M.states _ _ _ _ (until_tells i c u) (until_tells (suc i) c u) (alike c u) s l,
    )

    pub until_rounds : (r : ℕ) → Settles (λ i. Alike M U (until_test M α F G i) (until_test M α F G (suc i))) r → FixedRounds M U (eu α f g) r
    until_rounds r h = settles_same _ (Still M U (eu α f g)) (λ i. (until_still i).1) (λ i. (until_still i).0) r h

    pub until_holds : (i : ℕ) → Alike M U (until_test M α F G i) (until_test M α F G (suc i))
        → Tells M U (until_test M α F G i) (λ s c. HoldsCore M c (eu α f g) s)
    until_holds i alike c u =
        until_fixed M sound (actions_of M c α) (λ s. F s c) (HoldsCore M c f) (df c u) (λ s. G s c) (HoldsCore M c g) (dg c u) i (alike c u)

-- the stage `states` is the same as the next, at every code
module _ (M : Table) (sound : Sound M) (α : Alpha) (F : ℕ → ℕ → Bool) where
  pub forever_stands : (U : ℕ → Bool) → Alike M U (forever_test M α F M.states) (forever_test M α F (suc M.states))
  forever_stands U c u = forever_rests M.states M.actions M.arcs sound (actions_of M c α) (λ s. F s c)

  pub always_stands : (U : ℕ → Bool) → Alike M U (always_test M α F M.states) (always_test M α F (suc M.states))
  always_stands U c u = always_rests M.states M.actions M.arcs sound (actions_of M c α) (λ s. F s c)

  pub until_stands : (G : ℕ → ℕ → Bool) (U : ℕ → Bool) → Alike M U (until_test M α F G M.states) (until_test M α F G (suc M.states))
  until_stands G U c u = until_rests M.states M.actions M.arcs sound (actions_of M c α) (λ s. F s c) (λ s. G s c)

-- the three as the one chain
module _ (M : Table) (α : Alpha) (F : ℕ → ℕ → Bool) (i s c : ℕ) where
  pub until_is : (G : ℕ → ℕ → Bool) → until_test M α F G i s c ≡ chain_test M α F G G i s c
  until_is G = refl

  pub forever_is : forever_test M α F i s c ≡ chain_test M α F (λ s c. false) F i s c
  forever_is = refl

  pub always_is : always_test M α F i s c ≡ chain_test M α F (λ s c. ends M.arcs (actions_of M c α) (λ t. F t c) s) F i s c
  always_is = refl
