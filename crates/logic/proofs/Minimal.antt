-- Every listed code includes a minimal listed one.
use Rattle.std.proofs.Common.{◌≡◌, ℕ, zero, suc, ◌*◌, ◌^◌, ◌<◌, Bool, true, ◌⊎◌, inl, inr, not-suc-le-zero, arith}
use Rattle.std.proofs.lemmas.Bool.{cases_eq}
use Rattle.logic.specs.Codes.{gives, Includes, Bounded}
use Rattle.logic.specs.Formulas.{Formula}
use Rattle.logic.specs.Table.{Table, Sound}
use Rattle.logic.specs.Listing.{Listed, Minimal}
use Rattle.logic.specs.Laws.{ListedMinimal}
use Rattle.logic.proofs.Counting.{one_more}
use Rattle.logic.proofs.Deciding.{holds_or_not}
use Rattle.logic.proofs.Settling.{Decided, same_decided, if_decided, all_decided}
use Rattle.logic.proofs.Inclusion.{includes_le, includes_trans}

-- some number below n has P, or none has
pub some_below : (P : ℕ → Type 0) → ((c : ℕ) → Decided (P c)) → (n : ℕ) → ((c : ℕ) × (c < n) × P c) ⊎ ((c : ℕ) → c < n → P c → ⊥)
some_below P d zero = inr (λ c l. absurd (not-suc-le-zero l))
some_below P d (suc n) =
    elim (some_below P d n) [
      | inl x ↦ inl (x.0, omega (arith, x.1), x.2)
      | inr k ↦ elim (d n) [ inl p ↦ inl (n, omega arith, p) | inr q ↦ inr (one_more (λ c. P c → ⊥) n k q) ]
    ]

pub includes_decided : (actions variables w v : ℕ) → Decided (Includes actions variables w v)
includes_decided actions variables w v =
    elim (all_decided (λ y. (a : ℕ) → a < actions → gives actions v y a ≡ true → gives actions w y a ≡ true)
    (λ y. all_decided (λ a. gives actions v y a ≡ true → gives actions w y a ≡ true)
    (λ a. if_decided _ _ (same_decided (gives actions v y a) true) (same_decided (gives actions w y a) true)) actions) variables) [
      | inl h ↦ inl (λ y a k l e. h y k a l e)
      | inr n ↦ inr (λ h. n (λ y k a l e. h y a k l e))
    ]

module _ (M : Table) (sound : Sound M) (variables : ℕ) (U : ℕ → Bool) (small : Bounded U (2 ^ (M.actions * variables))) (f : Formula)
    (s : ℕ) (l : s < M.states) where
  pub listed_decided : (c : ℕ) → Decided (Listed M U f s c)
  listed_decided c =
      elim (same_decided (U c) true) [
        | inl u ↦ elim (holds_or_not M sound c s f l) [
          | inl h ↦ inl (record { inside = u; holds = h })
          | inr n ↦ inr (λ x. n x.holds)
        ]
        | inr n ↦ inr (λ x. n x.inside)
      ]

  -- a listed code that c includes
  abbrev Under : ℕ → ℕ → Type 0
  Under c v = Listed M U f s v × Includes M.actions variables c v

  under_decided : (c v : ℕ) → Decided (Under c v)
  under_decided c v =
      elim (listed_decided v) [
        | inl a ↦ elim (includes_decided M.actions variables c v) [ inl b ↦ inl (a, b) | inr n ↦ inr (λ x. n x.1) ]
        | inr n ↦ inr (λ x. n x.0)
      ]

  -- What c includes is no larger a number. So either some smaller listed code is included in c, and then a minimal one in
  -- that, or c is minimal.
  minimal_below : (n c : ℕ) → c < n → Listed M U f s c → (m : ℕ) × Minimal M variables U f s m × Includes M.actions variables c m
  minimal_below zero c k x = absurd (not-suc-le-zero k)
  minimal_below (suc n) c k x =
      elim (some_below (Under c) (under_decided c) c) [
        | inl v ↦ (
            let m = minimal_below n v.0 (omega (arith, v.1)) v.2.0 in
            (m.0, m.1, includes_trans M.actions variables c v.0 m.0 v.2.1 m.2))
        | inr none_under ↦ (
          c,
          record {
            listed = x;
            least = λ v y i. elim (cases_eq v c) [
              | inl e ↦ e
              | inr ne ↦ (
                  let le = includes_le M.actions variables c v (small v y.inside) i in
                  absurd (none_under v (omega arith) (y, i)))
            ];
          },
          λ y a p q e. e,
        )
      ]

pub listed_minimal : ListedMinimal
listed_minimal M sound variables U small f s l c x = minimal_below M sound variables U small f s l (suc c) c (omega arith) x
