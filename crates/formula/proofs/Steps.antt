-- One word read where it is due: it is refused, or goes on to the next point.
use Rattle.std.proofs.Common.{◌≡◌, ℕ, false, List, None, Err, Option, sym, subst, inl, inr}
use Rattle.std.specs.Option.{ok_or}
use Rattle.words.specs.declared.Fault.{Fault}
use Rattle.words.specs.Faults.{number, position}
use Rattle.words.specs.Words.{WordAt, Clean, bytes_of}
use Rattle.words.specs.Walks.{Rules, First, Fits, Walks, Halts, Leaves}
use Rattle.words.proofs.Walks.{Embeds, walks_one, walks_embed, leaves_here}
use Rattle.words.proofs.Readers.{ok_or_none}

module _ {S : Type 0} (R : Rules S) (text : List ℕ) (s : S) (p : ℕ) (due : R.over s ≡ false) (start end : ℕ) (found : WordAt text p start end × Clean text start end) where
  pub word_goes : (t : S) → Fits R s (bytes_of text start end) → R.after s (bytes_of text start end) ≡ t → Walks R text s p t end
  word_goes t fits goes =
      walks_one R text s p t end (record { due = due; start = start; word = found.0; clean = found.1; fits = fits; goes = goes })

  pub word_stops : (n : ℕ) → First (R.meets s (bytes_of text start end)) n → Leaves R text s p n start end
  word_stops n first = leaves_here R text s p n start end (record { due = due; fault = inr (found.0, found.1, first) })

-- a word that says nothing there is refused
module _ {S : Type 0} (R : Rules S) (text : List ℕ) (s : S) (p : ℕ) {X : Type 0} (o : Option X) (e f : Fault) (is : Err f ≡ ok_or o e) where
  pub stops_none : (end : ℕ) → (None ≡ o → Leaves R text s p (number e) (position e) end) → Leaves R text s p (number f) (position f) end
  stops_none end h =
      let none = ok_or_none o e f is in
      subst (λ g. Leaves R text s p (number g) (position g) end) (sym none.1) (h (sym none.0))

-- a reader that leaves off leaves off there too where the same words are due
module _ {S T : Type 0} (R : Rules S) (Q : Rules T) (φ : S → T) (text : List ℕ) (e : Embeds R Q φ text) where
  first_there : (s : S) (w : List ℕ) (n : ℕ) → R.over s ≡ false → First (R.meets s w) n → First (Q.meets (φ s) w) n
  first_there s w n due f = record { met = e.meets s w n due f.met; least = λ m lt h. f.least m lt (e.met s w m due h) }

  halts_there : (s : S) (p n at end : ℕ) → Halts R text s p n at end → Halts Q text (φ s) p n at end
  halts_there s p n at end h = record {
    due = e.due s h.due;
    fault = elim h.fault [
      | inl f ↦ inl f
      | inr f ↦ inr (f.0, f.1, first_there s (bytes_of text at end) n h.due f.2)
    ];
  }

  pub leaves_embed : (s : S) (p n at end : ℕ) → Leaves R text s p n at end → Leaves Q text (φ s) p n at end
  leaves_embed s p n at end h = record {
    last = φ h.last;
    from = h.from;
    walks = walks_embed R Q φ text e s p h.last h.from h.walks;
    halts = halts_there h.last h.from n at end h.halts;
  }
