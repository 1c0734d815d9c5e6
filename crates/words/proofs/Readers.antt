-- A reader goes from word to word as the rules of a sheet say, or leaves off where they refuse a word.
use Rattle.std.proofs.Common.{◌≡◌, ℕ, ◌<◌, true, false, ◌⊎◌, List, Some, None, Ok, Err, Option, Result, sym, refl, ap, ◌∙◌, subst, inl, inr, arith}
use Rattle.std.specs.Option.{ok_or}
use Rattle.words.specs.declared.Fault.{Fault}
use Rattle.words.specs.declared.Letters.{Letters}
use Rattle.words.specs.declared.Reader.{Reader}
use Rattle.words.specs.declared.Word.{Word}
use Rattle.words.specs.Faults.{number, position}
use Rattle.words.specs.Words.{WordAt, Clean, bytes_of, named}
use Rattle.words.specs.Walks.{Rules, First, Fits, Walks, Leaves, WordRefused, Found, Reads}
use Rattle.words.specs.Readers.{Takes}
use Rattle.words.proofs.Words.{never_both}
use Rattle.words.proofs.Walks.{walks_one, walks_then, leaves_here, leaves_then}

pub ok_or_some : {T E : Type 0} (o : Option T) (e : E) (x : T) → Ok x ≡ ok_or o e → o ≡ Some x
ok_or_some None e x h = let z : ◌≡◌ {A = ℕ} 0 1 = cc in absurd (omega arith)
ok_or_some (Some y) e x h = cc

pub ok_or_none : {T E : Type 0} (o : Option T) (e f : E) → Err f ≡ ok_or o e → (o ≡ None) × (f ≡ e)
ok_or_none None e f h = (refl, cc)
ok_or_none (Some y) e f h = let z : ◌≡◌ {A = ℕ} 0 1 = cc in absurd (omega arith)

module _ {S : Type 0} (R : Rules S) (s : S) (r : Reader) (after : Reader) (due : R.over s ≡ false) where
  -- no word could be read
  pub no_word : (f : Fault) → Found r (Err f) after → Leaves R r.text.now s r.at (number f) (position f) after.at
  no_word f h = leaves_here R r.text.now s r.at (number f) (position f) after.at (record { due = due; fault = inl h })

  -- the word that was read fits, or it is refused
  pub word_goes : (w : Word) (t : S) → Found r (Ok w) after → Fits R s w.bytes.now → R.after s w.bytes.now ≡ t → Walks R r.text.now s r.at t after.at
  word_goes w t h fits goes = walks_one R r.text.now s r.at t after.at (record {
    due = due;
    start = w.start;
    word = h.0;
    clean = h.1;
    fits = subst (Fits R s) h.2 fits;
    goes = ap (R.after s) (sym h.2) ∙ goes;
  })

  pub word_stops : (w : Word) (n : ℕ) → Found r (Ok w) after → First (R.meets s w.bytes.now) n → Leaves R r.text.now s r.at n w.start after.at
  word_stops w n h first =
      leaves_here R r.text.now s r.at n w.start after.at (record { due = due; fault = inr (h.0, h.1, subst (λ b. First (R.meets s b) n) h.2 first) })

  -- an answer that rests on one word
  module _ {X : Type 0} (good : List ℕ → X → Type 0) (bad : List ℕ → ℕ → Type 0) (to : X → S) (fits : (w : List ℕ) (x : X) → good w x → Fits R s w × (R.after s w ≡ to x)) (first : (w : List ℕ) (n : ℕ) → bad w n → First (R.meets s w) n) where
    fault : (f : Fault) → (WordRefused r.text.now r.at (number f) (position f) × (after.at ≡ r.at)) ⊎ (WordAt r.text.now r.at (position f) after.at × Clean r.text.now (position f) after.at × bad (bytes_of r.text.now (position f) after.at) (number f)) → Leaves R r.text.now s r.at (number f) (position f) after.at
    fault f (inl h) = no_word f h
    fault f (inr h) =
        leaves_here R r.text.now s r.at (number f) (position f) after.at (record { due = due; fault = inr (h.0, h.1, first (bytes_of r.text.now (position f) after.at) (number f) h.2) })

    pub takes_reads : (result : Result X Fault) → Takes r good bad result after → Reads R s r result to after
    takes_reads (Ok x) h =
        let good = fits (bytes_of r.text.now h.0 after.at) x h.3 in
        walks_one R r.text.now s r.at (to x) after.at (record {
          due = due;
          start = h.0;
          word = h.1;
          clean = h.2;
          fits = good.0;
          goes = good.1;
        })
    takes_reads (Err f) h = fault f h

-- what a reader reads behind what it has read
module _ {S : Type 0} (R : Rules S) (s : S) (r : Reader) (u : S) (m : Reader) (same : m.text ≡ r.text) (walks : Walks R r.text.now s r.at u m.at) where
  pub walks_on : (t : S) (after : Reader) → Walks R m.text.now u m.at t after.at → Walks R r.text.now s r.at t after.at
  walks_on t after w =
      walks_then R r.text.now s r.at u m.at t after.at walks (subst (λ x. Walks R x.now u m.at t after.at) same w)

  pub leaves_on : (n at : ℕ) (after : Reader) → Leaves R m.text.now u m.at n at after.at → Leaves R r.text.now s r.at n at after.at
  leaves_on n at after h =
      leaves_then R r.text.now s r.at u m.at n at after.at walks (subst (λ x. Leaves R x.now u m.at n at after.at) same h)

  pub reads_on : {X : Type 0} (result : Result X Fault) (to : X → S) (after : Reader) → Reads R u m result to after → Reads R s r result to after
  reads_on (Ok x) to after h = walks_on (to x) after h
  reads_on (Err f) to after h = leaves_on (number f) (position f) after h

-- a word that is due as a name: it is plain, and not taken
module _ (k : Letters) (w : List ℕ) (Taken : Type 0) where
  abbrev pub NameMeets : ℕ → Type 0
  NameMeets n = ((n ≡ 5) × (named k w ≡ false)) ⊎ ((n ≡ 6) × Taken)

  pub name_fits : named k w ≡ true → (Taken → ⊥) → (n : ℕ) → NameMeets n → ⊥
  name_fits plain free n (inl h) = never_both (named k w) plain h.1
  name_fits plain free n (inr h) = free h.1

  pub name_bad : named k w ≡ false → First NameMeets 5
  name_bad h = record { met = inl (refl, h); least = below_five }
    where
      below_five : (m : ℕ) → m < 5 → NameMeets m → ⊥
      below_five m lt (inl a) = omega (arith, lt, a.0)
      below_five m lt (inr a) = omega (arith, lt, a.0)

  pub name_taken : named k w ≡ true → Taken → First NameMeets 6
  name_taken plain h = record { met = inr (refl, h); least = below_six }
    where
      below_six : (m : ℕ) → m < 6 → NameMeets m → ⊥
      below_six m lt (inl a) = never_both (named k w) plain a.1
      below_six m lt (inr a) = omega (arith, lt, a.0)
