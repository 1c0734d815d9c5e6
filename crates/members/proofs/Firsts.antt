-- The smallest member among the listed ones. Assumes nothing.
use Rattle.std.proofs.Common.{◌≡◌, ℕ, ◌<◌, Bool, true, false, List, length, Some, None, Option, sym, refl, ap, ◌∙◌, subst, ⊎_elim, slice_index, is_lt, Ordering, arith}
use Rattle.std.proofs.lemmas.Bool.{both_ways, cases_eq}
use Rattle.std.proofs.lemmas.Bool.Decides.{not_from_Decides}
use Rattle.std.specs.Option.{MatchOption, IsSomeAnd, IfSome, option_map}
use Rattle.std.specs.Ordering.{nat_cmp, ordering_then}
use Rattle.std.specs.Fn.{CalledAt}
use Rattle.std.specs.Iterator.{YieldsFirst}
use Rattle.std.specs.Iterator.Runs.{Run, WholeRun, AnyItem, NoKeyBeyond, CallKeepsClosure}
use Rattle.std.proofs.iter.Rest.{run_of_first}
use denote.Param.Members.{Mut}
use denote.Ref.{Bor}
use Rattle.members.specs.Numbers.{Lists}
use Rattle.members.specs.Order.{ones}
use Rattle.members.specs.Smallest.{Smallest, SmallestUnique}
use Rattle.members.proofs.Listing.{not_member}
use Rattle.members.proofs.Ordering.{before_orders, before_decided}

pub smallest_unique : SmallestUnique
smallest_unique m None None p q = refl
smallest_unique m None (Some d) p q = absurd (both_ways (m d) (p d) q.0)
smallest_unique m (Some c) None p q = absurd (both_ways (m c) (q c) p.0)
smallest_unique m (Some c) (Some d) p q =
    ⊎_elim
    (λ same. ap Some same)
    (λ other. absurd (before_orders.not_both c d (p.1 d q.0 (λ e. other (sym e))) (q.1 c p.0 other)))
    (cases_eq c d)

-- how a key, a code's ones and the code, is compared with another
abbrev pub by_key : ℕ × ℕ → ℕ × ℕ → Ordering
by_key j k = ordering_then (nat_cmp j.0 k.0) (nat_cmp j.1 k.1)

item_is : (o : Option ℕ) (x : ℕ) → option_map (λ y. y) o ≡ Some x → o ≡ Some x
item_is None x e = e
item_is (Some y) x e = e

-- a whole run gives each entry of the list at its place
module _ (cs : List ℕ) (p : Run {S = List ℕ} {A = ℕ} (YieldsFirst (λ rest. rest))) (from : p.from ≡ cs) (whole : p.whole ≡ true) where
  run_long : p.len ≡ length cs
  run_long = (run_of_first (λ rest. rest) p).1.1 whole ∙ ap length from

  run_at : (i : ℕ) → i < length cs → p.at i ≡ Some (slice_index cs i)
  run_at i low =
      item_is (p.at i) (slice_index cs i)
      ((run_of_first (λ rest. rest) p).1.2 i 0 (let long = run_long in omega arith) ∙ ap (λ l. Some (slice_index l i)) from)

-- the listed one whose key no other's precedes, as `min_by_key` finds it
pub smallest_listed : {F : Type 0} (m : ℕ → Bool) (cs : List ℕ) → Lists m cs → (g : Mut F (Bor ℕ × Unit {0}) (ℕ × ℕ)) (f : F) → CallKeepsClosure g f → ((c : ℕ) (k : ℕ × ℕ) → CalledAt g f c k f → k ≡ (ones c, c))
    → (o : Option ℕ)
    → WholeRun {S = List ℕ} {A = ℕ} (YieldsFirst (λ rest. rest)) cs (λ p. MatchOption o (p.len ≡ 0) (λ b. AnyItem p (λ x. x ≡ b) × NoKeyBeyond p g f is_lt by_key b))
    → Smallest m o
smallest_listed m cs lists g f keeps tells None run =
    let long = run_long cs run.0 run.1 run.2 in
    let none = run.3 in
    λ c. not_member (m c) (λ here. let w = lists.whole c here in let low = w.1 in absurd (omega arith))
smallest_listed {F} m cs lists g f keeps tells (Some b) run =
    let long = run_long cs run.0 run.1 run.2 in
    let place = run.3.0 in
    let within = place.1 in
    let low : place.0 < length cs = omega arith in
    let M : ℕ → Type 0 = λ x. m x ≡ true in
    let Is : Option ℕ → Type 0 = λ z. IsSomeAnd z (λ x. x ≡ b) in
    let here : m b ≡ true = subst M (subst Is (run_at cs run.0 run.1 run.2 place.0 low) place.2) (lists.sound place.0 low) in
    let key = run.3.1 keeps in (
      here,
      λ d has other.
          let w = lists.whole d has in
          let Has : ℕ → Type 0 = λ x. (j : ℕ × ℕ) × CalledAt g f x j f × (is_lt (by_key j key.0) ≡ false) in
          let Seen : Option ℕ → Type 0 = λ z. IfSome z Has in
          let seen = subst Has w.2 (subst Seen (run_at cs run.0 run.1 run.2 w.0 w.1) (key.2 w.0)) in
          let late : is_lt (by_key (ones d, d) (ones b, b)) ≡ false =
          ap (λ j. is_lt (by_key j (ones b, b))) (sym (tells d seen.0 seen.1)) ∙ ap (λ k. is_lt (by_key seen.0 k)) (sym (tells b key.0 key.1)) ∙ seen.2 in
          ⊎_elim
          (λ before. before)
          (λ before. absurd (not_from_Decides (is_lt (by_key (ones d, d) (ones b, b))) (before_decided d b) late before))
          (before_orders.either b d (λ same. other (sym same))),
    )
