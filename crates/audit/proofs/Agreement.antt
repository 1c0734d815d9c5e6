-- Two benches with one table and the same formula last accepted. Assumes nothing.
use Rattle.std.proofs.Common.{◌≡◌, ℕ, Bool, true, Some, Ok, Err, Result, ap, inl, inr, arith}
use Rattle.std.proofs.lemmas.Bool.{both_ways}
use Rattle.logic.specs.Table.{Table, Sound}
use Rattle.logic.specs.Listing.{Listed}
use Rattle.store.specs.Frames.{Frame, Lawful}
use Rattle.formula.specs.Wholes.{Meaning}
use Rattle.bench.specs.declared.fault.Fault.{Fault}
use Rattle.bench.specs.declared.fault.Fault.TheVariants.{Differ, TooFewSets, NothingJudged, NoSuchState, NotInUniverse, PlaceTooHigh}
use Rattle.bench.specs.declared.call.Call.TheVariants as call
use Rattle.bench.specs.declared.call.Answer.{Answer}
use Rattle.bench.specs.Ledger.{Applies, Says, holds_as}
use Rattle.bench.proofs.Ledger.{says_unique}

module _ (M : Table) (F G : Frame) (a : Meaning) (s c : ℕ) (here : F.universe c ≡ true) (there : G.universe c ≡ true) where
  -- a code of both universes is refused on both benches or on none
  applies_both : (n : Fault) → Applies M G (Some a) (call.Holds s c) n → Applies M F (Some a) (call.Holds s c) n
  applies_both Differ h = h
  applies_both TooFewSets h = h
  applies_both NothingJudged h = h
  applies_both NoSuchState h = h
  applies_both NotInUniverse h = absurd (both_ways (G.universe c) h there)
  applies_both PlaceTooHigh h = h

  listed_both : Listed M G.universe a.formula s c → Listed M F.universe a.formula s c
  listed_both h = record { inside = here; holds = h.holds }

module _ (M : Table) (F G : Frame) (a : Meaning) (s c : ℕ) (here : F.universe c ≡ true) (there : G.universe c ≡ true) where
  says_both : (b : Result Answer Fault) → Says M G (Some a) (call.Holds s c) b → Says M F (Some a) (call.Holds s c) b
  says_both b (inl h) =
      inl (
        h.0,
        record {
          applies = applies_both M F G a s c here there h.0 h.1.applies;
          first = λ m l k. h.1.first m l (applies_both M G F a s c there here m k);
        },
        h.2,
      )
  says_both b (inr h) =
      inr (
        (λ n k. h.0 n (applies_both M G F a s c there here n k)),
        (h.1.0, h.1.1, ((λ e. listed_both M F G a s c here there (h.1.2.0 e)), (λ l. h.1.2.1 (listed_both M G F a s c there here l)))),
      )

holds_same : (r q : Result Bool Fault) → holds_as r ≡ holds_as q → r ≡ q
holds_same (Ok x) (Ok y) h = let e : x ≡ y = cc in ap Ok e
holds_same (Ok x) (Err m) h = let z : ◌≡◌ {A = ℕ} 0 1 = cc in absurd (omega arith)
holds_same (Err n) (Ok y) h = let z : ◌≡◌ {A = ℕ} 0 1 = cc in absurd (omega arith)
holds_same (Err n) (Err m) h = let e : n ≡ m = cc in ap Err e

pub holds_agree : (M : Table) → Sound M → (F G : Frame) → Lawful F → (a : Meaning) (s c : ℕ) (r q : Result Bool Fault)
    → Says M F (Some a) (call.Holds s c) (holds_as r) → Says M G (Some a) (call.Holds s c) (holds_as q)
    → F.universe c ≡ true → G.universe c ≡ true → r ≡ q
holds_agree M sound F G lawful a s c r q one two here there =
    holds_same r q (says_unique M sound F lawful (Some a) (call.Holds s c) (holds_as r) (holds_as q) one (says_both M F G a s c here there (holds_as q) two))
