-- The rows of labels: what a cell says, and what a mark adds.
use Rattle.std.proofs.Common.{◌≡◌, ℕ, ◌<◌, Bool, true, false, ◌&&◌, ◌||◌, eqb, List, [], ◌∷◌, ◌++◌, map, length, get_or, set, Decides, sym, refl, ap, ◌∙◌, ⊎_elim, zero-add, arith}
use Rattle.std.specs.List.{range_with_len, ContainsAt as Has}
use Rattle.std.proofs.lemmas.List.FromFn.{length-map-range_with_len, get_or-map-range_with_len}
use Rattle.std.proofs.lemmas.List.{ext_get_or, length-set, get_or-set_same, get_or-set_other}
use Rattle.std.proofs.lemmas.Bool.{cases_eq}
use Rattle.std.proofs.lemmas.Bool.Decides.{nat_tests, Decides-and, Decides-eqb, Decides-like, Decides-by_or}
use Rattle.model.specs.Content.{Label}
use Rattle.model.specs.Values.{labelled, label_rows}

-- a list made from a function, written at one index
set_counted : {X : Type 0} (f g : ℕ → X) (n i : ℕ) (v : X) → i < n → v ≡ g i → ((k : ℕ) → (k ≡ i → ⊥) → f k ≡ g k) → set (map f (range_with_len 0 n)) i v ≡ map g (range_with_len 0 n)
set_counted f g n i v lt here other =
    let long = length-map-range_with_len f 0 n in
    ext_get_or v (set (map f (range_with_len 0 n)) i v) (map g (range_with_len 0 n)) (length-set (map f (range_with_len 0 n)) i v ∙ long ∙ sym (length-map-range_with_len g 0 n))
    (λ k h.
    let in_f : k < n = omega (arith, long, length-set (map f (range_with_len 0 n)) i v, h) in
    let room : i < length (map f (range_with_len 0 n)) = omega (arith, long, lt) in
    let right = get_or-map-range_with_len g 0 n k k v in_f (zero-add k) in
    ⊎_elim
    (λ (e : k ≡ i). ap (λ j. get_or (set (map f (range_with_len 0 n)) i v) j v) e ∙ get_or-set_same (map f (range_with_len 0 n)) i v v room ∙ here ∙ ap g (sym e) ∙ sym right)
    (λ (e : k ≡ i → ⊥). get_or-set_other (map f (range_with_len 0 n)) i k v v e ∙ get_or-map-range_with_len f 0 n k k v in_f (zero-add k) ∙ other k e ∙ sym right)
    (cases_eq k i))

-- one more label, asked of a state and a property
abbrev same_label : Label → ℕ → ℕ → Bool
same_label l s p = eqb l.state s && eqb l.property p

labelled_push : (ls : List Label) (l : Label) (s p : ℕ) → labelled (ls ++ l ∷ []) s p ≡ (labelled ls s p || same_label l s p)
labelled_push [] l s p = step (same_label l s p)
  where
    step : (b : Bool) → (b || false) ≡ (false || b)
    step true = refl
    step false = refl
labelled_push (x ∷ xs) l s p =
    ap (λ b. same_label x s p || b) (labelled_push xs l s p) ∙ step (same_label x s p) (labelled xs s p) (same_label l s p)
  where
    step : (a b c : Bool) → (a || (b || c)) ≡ ((a || b) || c)
    step true b c = refl
    step false b c = refl

other_state : (ls : List Label) (l : Label) (s p : ℕ) → (s ≡ l.state → ⊥) → labelled ls s p ≡ labelled (ls ++ l ∷ []) s p
other_state ls l s p ne = let e = labelled_push ls l s p in grind (arith, nat_tests, e)

other_property : (ls : List Label) (l : Label) (s p : ℕ) → (p ≡ l.property → ⊥) → labelled ls s p ≡ labelled (ls ++ l ∷ []) s p
other_property ls l s p ne = let e = labelled_push ls l s p in grind (arith, nat_tests, e)

this_label : (ls : List Label) (l : Label) → true ≡ labelled (ls ++ l ∷ []) l.state l.property
this_label ls l = let e = labelled_push ls l l.state l.property in grind (arith, nat_tests, e)

pub rows_cell : (ls : List Label) (s p : ℕ) → s < 64 → p < 16 → get_or (get_or (label_rows ls) s []) p false ≡ labelled ls s p
unfolding label_rows
rows_cell ls s p hs hp =
    ap (λ row. get_or row p false) (get_or-map-range_with_len (λ s. map (labelled ls s) (range_with_len 0 16)) 0 64 s s [] hs (zero-add s))
    ∙ get_or-map-range_with_len (labelled ls s) 0 16 p p false hp (zero-add p)

pub rows_long : (ls : List Label) → length (label_rows ls) ≡ 64
unfolding label_rows
rows_long ls = length-map-range_with_len (λ s. map (labelled ls s) (range_with_len 0 16)) 0 64

pub rows_width : (ls : List Label) (s : ℕ) → s < 64 → length (get_or (label_rows ls) s []) ≡ 16
unfolding label_rows
rows_width ls s hs =
    ap length (get_or-map-range_with_len (λ s. map (labelled ls s) (range_with_len 0 16)) 0 64 s s [] hs (zero-add s)) ∙ length-map-range_with_len (labelled ls s) 0 16

-- a mark in the rows is one more label
pub rows_mark : (ls : List Label) (l : Label) → l.state < 64 → l.property < 16 → set (label_rows ls) l.state (set (get_or (label_rows ls) l.state []) l.property true) ≡ label_rows (ls ++ l ∷ [])
unfolding label_rows
rows_mark ls l hs hp =
    let s = l.state in
    let p = l.property in
    let row : get_or (map (λ s. map (labelled ls s) (range_with_len 0 16)) (range_with_len 0 64)) s [] ≡ map (labelled ls s) (range_with_len 0 16) =
    get_or-map-range_with_len (λ s. map (labelled ls s) (range_with_len 0 16)) 0 64 s s [] hs (zero-add s) in
    set_counted (λ s. map (labelled ls s) (range_with_len 0 16)) (λ s. map (labelled (ls ++ l ∷ []) s) (range_with_len 0 16)) 64 s _ hs
    (ap (λ r. set r p true) row ∙ set_counted (labelled ls s) (labelled (ls ++ l ∷ []) s) 16 p true hp (this_label ls l) (λ q ne. other_property ls l s q ne))
    (λ k ne. λ i. map (λ q. other_state ls l k q ne i) (range_with_len 0 16))

pub rows_none : (rows : List (List Bool)) → rows ≡ map (λ s. map (λ p. false) (range_with_len 0 16)) (range_with_len 0 64) → rows ≡ label_rows []
unfolding label_rows
rows_none rows h = h

-- a cell says whether the label stands in the list
pub labelled_decides : (ls : List Label) (s p : ℕ) → Decides (labelled ls s p) (Has ls (record { state = s; property = p }))
labelled_decides ls s p =
    Decides-by_or (λ l. same_label l s p) (λ l. l ≡ record { state = s; property = p }) (λ xs. labelled xs s p)
    (λ l. Decides-like (same_label l s p) (λ h. λ i. record { state = h.0 i; property = h.1 i }) (λ h. (ap (λ x. x.state) h, ap (λ x. x.property) h)) (Decides-and (eqb l.state s) (eqb l.property p) (Decides-eqb l.state s) (Decides-eqb l.property p)))
    refl (λ _ _. refl) ls
