-- Searching along a path: the first state where something holds, and what follows where no path does otherwise.
use Rattle.std.proofs.Common.{◌≡◌, ℕ, zero, suc, ◌<◌, Bool, ◌⊎◌, sym, refl, ◌∙◌, subst, inl, inr, not-suc-le-zero, arith}
use mathlib.Core.Option.{Option, none, some, some-injective, none-ne-some}
use Rattle.std.proofs.lemmas.Bool.{cases_order}
use Rattle.logic.specs.Table.{Table, Sound}
use Rattle.logic.specs.Paths.{Path}
use Rattle.logic.specs.Words.{Kind, Counts, Some, Every, Next, IfNext, Always, Sometime, Until}
use Rattle.logic.proofs.Walks.{path_inside}
use Rattle.logic.proofs.Settling.{Decided}
use Rattle.logic.proofs.Counting.{one_more}

-- P holds at no state of the path among its first n
abbrev pub Never : (M : Table) (χ : ℕ → Bool) (s : ℕ) (P : ℕ → Type 0) → Path M χ s → ℕ → Type 0
Never M χ s P π n = (i : ℕ) → i < n → (t : ℕ) → π.at i ≡ some t → P t → ⊥

-- the first state of the path where P holds
pub record First (M : Table) (χ : ℕ → Bool) (s : ℕ) (P : ℕ → Type 0) (π : Path M χ s) : Type 0 where
  pub when : Sometime M χ s P π
  pub never : Never M χ s P π when.index

module _ (M : Table) (χ : ℕ → Bool) (s : ℕ) (P : ℕ → Type 0) (π : Path M χ s)
    (decide : (i t : ℕ) → π.at i ≡ some t → Decided (P t)) where
  here : (i : ℕ) → ((t : ℕ) × (π.at i ≡ some t) × P t) ⊎ ((t : ℕ) → π.at i ≡ some t → P t → ⊥)
  here i = go (π.at i) refl
    where
      go : (o : Option ℕ) → π.at i ≡ o → ((t : ℕ) × (π.at i ≡ some t) × P t) ⊎ ((t : ℕ) → π.at i ≡ some t → P t → ⊥)
      go none e = inr (λ t k p. none-ne-some t (sym e ∙ k))
      go (some t) e =
          elim (decide i t e) [
            | inl p ↦ inl (t, e, p)
            | inr n ↦ inr (λ u k p. n (subst P (some-injective u t (sym k ∙ e)) p))
          ]

  -- searched one state after another
  pub find : (n : ℕ) → First M χ s P π ⊎ Never M χ s P π n
  find zero = inr (λ i l. absurd (not-suc-le-zero l))
  find (suc n) =
      elim (find n) [
        | inl x ↦ inl x
        | inr never ↦ elim (here n) [
          | inl x ↦ inl (record { when = record { index = n; state = x.0; stands = x.1; there = x.2 }; never = never })
          | inr not_here ↦ inr (one_more (λ i. (t : ℕ) → π.at i ≡ some t → P t → ⊥) n never not_here)
        ]
      ]

-- from `no path does not` to `every path does`, where P can be decided on the states of the table
module _ (M : Table) (sound : Sound M) (χ : ℕ → Bool) (s : ℕ) (l : s < M.states) (k : Kind) (P : ℕ → Type 0)
    (decide : (t : ℕ) → t < M.states → Decided (P t)) where
  on : (π : Path M χ s) (i t : ℕ) → π.at i ≡ some t → Decided (P t)
  on π i t e = decide t (path_inside M χ sound i s l π t e)

  pub every_next : (Some M χ s k (Next M χ s (λ t. P t → ⊥)) → ⊥) → Every M χ s k (IfNext M χ s P)
  every_next no_path π c t e =
      elim (on π 1 t e) [
        | inl p ↦ p
        | inr n ↦ absurd (no_path (record { path = π; counts = c; does = record { state = t; second = e; there = n } }))
      ]

  pub every_always : (Some M χ s k (Sometime M χ s (λ t. P t → ⊥)) → ⊥) → Every M χ s k (Always M χ s P)
  every_always no_path π c i t e =
      elim (on π i t e) [
        | inl p ↦ p
        | inr n ↦ absurd (no_path (record { path = π; counts = c; does = record { index = i; state = t; stands = e; there = n } }))
      ]

  -- where no path that counts avoids P for n states, each meets P, and so has a first state where P holds
  pub every_first : (n : ℕ) → ((π : Path M χ s) → Counts M χ s k π → Never M χ s P π n → ⊥) → Every M χ s k (First M χ s P)
  every_first n no_path π c = elim (find M χ s P π (on π) n) [ inl x ↦ x | inr never ↦ absurd (no_path π c never) ]

  -- before that state R holds: otherwise P fails up to a state where both do
  pub every_until : (R : ℕ → Type 0) → ((t : ℕ) → t < M.states → Decided (R t))
      → (Some M χ s k (Until M χ s (λ t. P t → ⊥) (λ t. (R t ⊎ P t) → ⊥)) → ⊥)
      → Every M χ s k (First M χ s P) → Every M χ s k (Until M χ s R P)
  every_until R dec no_path firsts π c =
      let x = firsts π c in
      record { index = x.when.index; state = x.when.state; stands = x.when.stands; there = x.when.there; before = back x }
    where
      back : (x : First M χ s P π) (j u : ℕ) → j < x.when.index → π.at j ≡ some u → R u
      back x j u b e =
          elim (dec u (path_inside M χ sound j s l π u e)) [
            | inl r ↦ r
            | inr n ↦ absurd (no_path (record {
              path = π;
              counts = c;
              does = record {
                index = j;
                state = u;
                stands = e;
                there = λ d. elim d [ inl r ↦ n r | inr p ↦ x.never j b u e p ];
                before = λ m t q f. x.never m (omega arith) t f;
              };
            }))
          ]

-- a path cannot have Q after P and also fail Q until both fail
pub not_both : (M : Table) (χ : ℕ → Bool) (s : ℕ) (P Q : ℕ → Type 0) (π : Path M χ s) → Until M χ s P Q π
    → Until M χ s (λ t. Q t → ⊥) (λ t. (P t ⊎ Q t) → ⊥) π → ⊥
not_both M χ s P Q π y x =
    elim (cases_order y.index x.index) [
      | inl q ↦ x.there (inr (subst Q (some-injective y.state x.state (sym (subst (λ j. π.at j ≡ some y.state) q y.stands) ∙ x.stands)) y.there))
      | inr o ↦ elim o [
        | inl b ↦ x.before y.index y.state b y.stands y.there
        | inr b ↦ x.there (inl (y.before x.index x.state b x.stands))
      ]
    ]
