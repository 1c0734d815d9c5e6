-- Walks compose, and lead to one end: there is one word that is due at each point, and it either fits or does not.
use Rattle.std.proofs.Common.{◌≡◌, ℕ, zero, suc, ◌<◌, true, false, ◌⊎◌, List, length, sym, refl, ap, ◌∙◌, subst, inl, inr, arith}
use Rattle.words.specs.Words.{WordAt, Clean, Foreign, Ends, bytes_of}
use Rattle.words.specs.Walks.{Rules, First, Fits, Step, Walk, Walks, Stops, WordRefused, Refused, Halts, Leaves}
use Rattle.words.proofs.Words.{word_unique, word_not_ends, clean_not_foreign, never_both}

pub first_unique : (P : ℕ → Type 0) (n m : ℕ) → First P n → First P m → n ≡ m
first_unique P n m a b =
    let h : n < m → ⊥ = λ lt. b.least n lt a.met in
    let k : m < n → ⊥ = λ lt. a.least m lt b.met in
    omega arith

module _ {S : Type 0} (R : Rules S) (text : List ℕ) where
  pub walks_none : (s : S) (p : ℕ) → Walks R text s p s p
  walks_none s p = record { words = 0; walk = (refl, refl) }

  pub walks_one : (s : S) (p : ℕ) (t : S) (q : ℕ) → Step R text s p t q → Walks R text s p t q
  walks_one s p t q st = record { words = 1; walk = (t, q, st, (refl, refl)) }

  walk_then : (n : ℕ) (s : S) (p : ℕ) (u : S) (m : ℕ) (t : S) (q : ℕ) → Walk R text n s p u m → Walks R text u m t q → Walks R text s p t q
  walk_then zero s p u m t q w v =
      subst (λ x. Walks R text x p t q) (sym w.0) (subst (λ x. Walks R text u x t q) (sym w.1) v)
  walk_then (suc n) s p u m t q w v =
      let rest = walk_then n w.0 w.1 u m t q w.3 v in
      record { words = suc rest.words; walk = (w.0, w.1, w.2, rest.walk) }

  pub walks_then : (s : S) (p : ℕ) (u : S) (m : ℕ) (t : S) (q : ℕ) → Walks R text s p u m → Walks R text u m t q → Walks R text s p t q
  walks_then s p u m t q w v = walk_then w.words s p u m t q w.walk v

  pub refused_here : (s : S) (p n at : ℕ) → Stops R text s p n at → Refused R text s p n at
  refused_here s p n at h = record { last = s; from = p; walks = walks_none s p; stops = h }

  pub refused_then : (s : S) (p : ℕ) (u : S) (m n at : ℕ) → Walks R text s p u m → Refused R text u m n at → Refused R text s p n at
  refused_then s p u m n at w h =
      record { last = h.last; from = h.from; walks = walks_then s p u m h.last h.from w h.walks; stops = h.stops }

  -- a reader that refuses: where it then stands does not matter to the refusal
  pub leaves_here : (s : S) (p n at end : ℕ) → Halts R text s p n at end → Leaves R text s p n at end
  leaves_here s p n at end h = record { last = s; from = p; walks = walks_none s p; halts = h }

  pub leaves_then : (s : S) (p : ℕ) (u : S) (m n at end : ℕ) → Walks R text s p u m → Leaves R text u m n at end → Leaves R text s p n at end
  leaves_then s p u m n at end w h =
      record { last = h.last; from = h.from; walks = walks_then s p u m h.last h.from w h.walks; halts = h.halts }

  pub stops_word : (s : S) (p n at : ℕ) → R.over s ≡ false → WordRefused text p n at → Stops R text s p n at
  stops_word s p n at due (inl h) = record { due = due; fault = inl h }
  stops_word s p n at due (inr h) = record { due = due; fault = inr (h.1.0, h.1.1, inl (h.0, h.1.2)) }

  pub stops_meets : (s : S) (p n at end : ℕ) → R.over s ≡ false → WordAt text p at end → Clean text at end → First (R.meets s (bytes_of text at end)) n → Stops R text s p n at
  stops_meets s p n at end due word clean first = record { due = due; fault = inr (end, word, inr (clean, first)) }

  halts_stops : (s : S) (p n at end : ℕ) → R.over s ≡ false → (WordRefused text p n at × (end ≡ p)) ⊎ (WordAt text p at end × Clean text at end × First (R.meets s (bytes_of text at end)) n) → Stops R text s p n at
  halts_stops s p n at end due (inl h) = stops_word s p n at due h.0
  halts_stops s p n at end due (inr h) = stops_meets s p n at end due h.0 h.1 h.2

  pub leaves_refused : (s : S) (p n at end : ℕ) → Leaves R text s p n at end → Refused R text s p n at
  leaves_refused s p n at end h =
      record { last = h.last; from = h.from; walks = h.walks; stops = halts_stops h.last h.from n at end h.halts.due h.halts.fault }

  -- one word is due at a point, so one point follows it
  step_unique : (s : S) (p : ℕ) (t : S) (q : ℕ) (t' : S) (q' : ℕ) → Step R text s p t q → Step R text s p t' q' → (t ≡ t') × (q ≡ q')
  step_unique s p t q t' q' a b =
      let same = word_unique text p a.start q b.start q' a.word b.word in
      (sym a.goes ∙ ap (λ x. R.after s (bytes_of text x q)) same.0 ∙ ap (λ x. R.after s (bytes_of text b.start x)) same.1 ∙ b.goes, same.1)

  -- the word that a step took, found again
  at_word : (s : S) (p : ℕ) (t : S) (q start end : ℕ) → (a : Step R text s p t q) → WordAt text p start end → Clean text start end × Fits R s (bytes_of text start end)
  at_word s p t q start end a word =
      let same = word_unique text p a.start q start end a.word word in (
        subst (λ x. Clean text start x) same.1 (subst (λ x. Clean text x q) same.0 a.clean),
        subst (λ x. Fits R s (bytes_of text start x)) same.1 (subst (λ x. Fits R s (bytes_of text x q)) same.0 a.fits),
      )

  abbrev Fault : S → ℕ → ℕ → ℕ → Type 0
  Fault s p n at =
      ((n ≡ 3) × (at ≡ length text) × Ends text p)
      ⊎ ((end : ℕ) × WordAt text p at end × (((n ≡ 2) × Foreign text at end) ⊎ (Clean text at end × First (R.meets s (bytes_of text at end)) n)))

  -- a word that fits is not refused
  step_not_fault : (s : S) (p : ℕ) (t : S) (q n at : ℕ) → Step R text s p t q → Fault s p n at → ⊥
  step_not_fault s p t q n at a (inl e) = word_not_ends text p a.start q a.word e.2
  step_not_fault s p t q n at a (inr (end, word, inl f)) = clean_not_foreign text at end (at_word s p t q at end a word).0 f.1
  step_not_fault s p t q n at a (inr (end, word, inr f)) = (at_word s p t q at end a word).1 n f.1.met

  -- a refusal of the word that is due has one number and one position
  fault_unique : (s : S) (p n at m at' : ℕ) → Fault s p n at → Fault s p m at' → (n ≡ m) × (at ≡ at')
  fault_unique s p n at m at' (inl a) (inl b) = (a.0 ∙ sym b.0, a.1 ∙ sym b.1)
  fault_unique s p n at m at' (inl a) (inr (e, w, b)) = absurd (word_not_ends text p at' e w a.2)
  fault_unique s p n at m at' (inr (e, w, a)) (inl b) = absurd (word_not_ends text p at e w b.2)
  fault_unique s p n at m at' (inr (e, w, inl a)) (inr (d, v, inl b)) = (a.0 ∙ sym b.0, (word_unique text p at e at' d w v).0)
  fault_unique s p n at m at' (inr (e, w, inl a)) (inr (d, v, inr b)) =
      let same = word_unique text p at e at' d w v in
      absurd (clean_not_foreign text at' d b.0 (subst (λ x. Foreign text at' x) same.1 (subst (λ x. Foreign text x e) same.0 a.1)))
  fault_unique s p n at m at' (inr (e, w, inr a)) (inr (d, v, inl b)) =
      let same = word_unique text p at e at' d w v in
      absurd (clean_not_foreign text at' d (subst (λ x. Clean text at' x) same.1 (subst (λ x. Clean text x e) same.0 a.0)) b.1)
  fault_unique s p n at m at' (inr (e, w, inr a)) (inr (d, v, inr b)) =
      let same = word_unique text p at e at' d w v in
      let a' : First (R.meets s (bytes_of text at' d)) n = subst (λ x. First (R.meets s (bytes_of text at' x)) n) same.1 (subst (λ x. First (R.meets s (bytes_of text x e)) n) same.0 a.1) in
      (first_unique (R.meets s (bytes_of text at' d)) n m a' b.1, same.0)

  -- where one walk ends, another that starts at the same point either has ended before or goes on from there
  abbrev Ended : S → ℕ → Type 0
  Ended s p = (t : S) (q : ℕ) → Step R text s p t q → ⊥

  over_ended : (s : S) (p : ℕ) → R.over s ≡ true → Ended s p
  over_ended s p h t q a = never_both (R.over s) h a.due

  stops_ended : (s : S) (p n at : ℕ) → Stops R text s p n at → Ended s p
  stops_ended s p n at h t q a = step_not_fault s p t q n at a h.fault

  ends_unique : (n m : ℕ) (s : S) (p : ℕ) (t : S) (q : ℕ) (t' : S) (q' : ℕ) → Walk R text n s p t q → Ended t q → Walk R text m s p t' q' → Ended t' q' → (t ≡ t') × (q ≡ q')
  ends_unique zero zero s p t q t' q' a _ b _ = (sym a.0 ∙ b.0, sym a.1 ∙ b.1)
  ends_unique zero (suc m) s p t q t' q' a ended b _ =
      absurd (ended b.0 b.1 (subst (λ x. Step R text x q b.0 b.1) a.0 (subst (λ x. Step R text s x b.0 b.1) a.1 b.2)))
  ends_unique (suc n) zero s p t q t' q' a _ b ended =
      absurd (ended a.0 a.1 (subst (λ x. Step R text x q' a.0 a.1) b.0 (subst (λ x. Step R text s x a.0 a.1) b.1 a.2)))
  ends_unique (suc n) (suc m) s p t q t' q' a ea b eb =
      let same = step_unique s p a.0 a.1 b.0 b.1 a.2 b.2 in
      let rest : Walk R text m a.0 a.1 t' q' = subst (λ x. Walk R text m x a.1 t' q') (sym same.0) (subst (λ x. Walk R text m b.0 x t' q') (sym same.1) b.3) in
      ends_unique n m a.0 a.1 t q t' q' a.3 ea rest eb

  -- a sheet has one reading
  pub walks_unique : (s : S) (p : ℕ) (t : S) (q : ℕ) (t' : S) (q' : ℕ) → Walks R text s p t q → R.over t ≡ true → Walks R text s p t' q' → R.over t' ≡ true → (t ≡ t') × (q ≡ q')
  walks_unique s p t q t' q' a ha b hb = ends_unique a.words b.words s p t q t' q' a.walk (over_ended t q ha) b.walk (over_ended t' q' hb)

  -- or one refusal
  pub refused_unique : (s : S) (p n at m at' : ℕ) → Refused R text s p n at → Refused R text s p m at' → (n ≡ m) × (at ≡ at')
  refused_unique s p n at m at' a b =
      let same = ends_unique a.walks.words b.walks.words s p a.last a.from b.last b.from a.walks.walk (stops_ended a.last a.from n at a.stops) b.walks.walk (stops_ended b.last b.from m at' b.stops) in
      fault_unique b.last b.from n at m at' (subst (λ x. Fault x b.from n at) same.0 (subst (λ x. Fault a.last x n at) same.1 a.stops.fault)) b.stops.fault

  -- and not both
  pub walks_not_refused : (s : S) (p : ℕ) (t : S) (q n at : ℕ) → Walks R text s p t q → R.over t ≡ true → Refused R text s p n at → ⊥
  walks_not_refused s p t q n at a h b =
      let same = ends_unique a.words b.walks.words s p t q b.last b.from a.walk (over_ended t q h) b.walks.walk (stops_ended b.last b.from n at b.stops) in
      never_both (R.over b.last) (ap R.over (sym same.0) ∙ h) b.stops.due

-- A map between the points of two kinds of sheets, where the same words are due: at each point from which a step is taken the
-- one sheet is over where the other is, the numbers that a word meets are the same, and the map goes along with each word.
module _ {S T : Type 0} (R : Rules S) (Q : Rules T) (φ : S → T) (text : List ℕ) where
  pub record Embeds : Type 0 where
    pub due : (s : S) → R.over s ≡ false → Q.over (φ s) ≡ false
    pub meets : (s : S) (w : List ℕ) (n : ℕ) → R.over s ≡ false → R.meets s w n → Q.meets (φ s) w n
    pub met : (s : S) (w : List ℕ) (n : ℕ) → R.over s ≡ false → Q.meets (φ s) w n → R.meets s w n
    pub goes : (s : S) (w : List ℕ) → R.over s ≡ false → Fits R s w → Q.after (φ s) w ≡ φ (R.after s w)

  module _ (e : Embeds) where
    step_embed : (s : S) (p : ℕ) (t : S) (q : ℕ) → Step R text s p t q → Step Q text (φ s) p (φ t) q
    step_embed s p t q a = record {
      due = e.due s a.due;
      start = a.start;
      word = a.word;
      clean = a.clean;
      fits = λ n h. a.fits n (e.met s _ n a.due h);
      goes = e.goes s _ a.due a.fits ∙ ap φ a.goes;
    }

    walk_embed : (n : ℕ) (s : S) (p : ℕ) (t : S) (q : ℕ) → Walk R text n s p t q → Walk Q text n (φ s) p (φ t) q
    walk_embed zero s p t q w = (ap φ w.0, w.1)
    walk_embed (suc n) s p t q w = (φ w.0, w.1, step_embed s p w.0 w.1 w.2, walk_embed n w.0 w.1 t q w.3)

    pub walks_embed : (s : S) (p : ℕ) (t : S) (q : ℕ) → Walks R text s p t q → Walks Q text (φ s) p (φ t) q
    walks_embed s p t q w = record { words = w.words; walk = walk_embed w.words s p t q w.walk }

    first_embed : (s : S) (w : List ℕ) (n : ℕ) → R.over s ≡ false → First (R.meets s w) n → First (Q.meets (φ s) w) n
    first_embed s w n due f = record { met = e.meets s w n due f.met; least = λ m lt h. f.least m lt (e.met s w m due h) }

    fault_embed : (s : S) (p n at : ℕ) → R.over s ≡ false → Fault R text s p n at → Fault Q text (φ s) p n at
    fault_embed s p n at due (inl h) = inl h
    fault_embed s p n at due (inr (end, word, inl h)) = inr (end, word, inl h)
    fault_embed s p n at due (inr (end, word, inr h)) = inr (end, word, inr (h.0, first_embed s _ n due h.1))

    pub refused_embed : (s : S) (p n at : ℕ) → Refused R text s p n at → Refused Q text (φ s) p n at
    refused_embed s p n at h = record {
      last = φ h.last;
      from = h.from;
      walks = walks_embed s p h.last h.from h.walks;
      stops = record { due = e.due h.last h.stops.due; fault = fault_embed h.last h.from n at h.stops.due h.stops.fault };
    }
