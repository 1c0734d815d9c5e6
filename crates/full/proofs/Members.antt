-- What rewritten bytes make of the sets.
use Rattle.std.proofs.Common.{◌≡◌, ℕ, ◌+◌, ◌-◌, ◌/◌, ◌%◌, ◌^◌, ◌<◌, ◌≤◌, Bool, true, false, cond, ◌&&◌, eqb, ltb, List, ◌++◌, length, get_or, take, drop, Some, None, Ok, Err, Option, sym, refl, ap, ◌∙◌, subst, inl, inr, ⊎_elim, zero-add, arith, get_or-take, get_or-drop}
use Rattle.std.proofs.Math.ListN.{get_or-append}
use Rattle.std.proofs.Math.Seq.{get_or-append_right}
use Rattle.std.proofs.lemmas.Bool.{cases_eq, cases_lt, lt-ltb, le-ltb, eq-eqb, ne_eqb, cond-true, cond-false, and_left, and_right, false≢true, true≢false}
use Rattle.logic.specs.Codes.{bit}
use Rattle.store.proofs.Refusals.{answers_ok}
use Rattle.store.specs.Calls.{Answers}
use Rattle.store.specs.declared.fault.Fault.{Fault}
use Rattle.store.specs.declared.shape.Shape.{Shape}
use Rattle.full.specs.Bytes.{width, start, bit_from, in_bytes, Rewritten}
use Rattle.full.specs.Passes.{Recoded}
use Rattle.full.specs.Stores.{shape_bits, full_frame, full_sets, Altered}
use Rattle.full.proofs.Splicing.{Spliced}
use Rattle.full.proofs.Widths.{code_within, sets_apart}

-- the bits of a part of the bytes
pub part_bits : (at k : ℕ) (bytes : List ℕ) (c : ℕ) → c / 8 < k → bit_from (take k (drop at bytes)) 0 c ≡ bit_from bytes at c
part_bits at k bytes c h =
    ap (λ b. bit b (c % 8)) (ap (λ p. get_or (take k (drop at bytes)) p 0) (zero-add (c / 8)) ∙ get_or-take k (drop at bytes) (c / 8) 0 h ∙ get_or-drop at bytes (c / 8) 0)

-- the bits of bytes that were cut in two
pub front_bits : (front back : List ℕ) (at c : ℕ) → at + c / 8 < length front → bit_from front at c ≡ bit_from (front ++ back) at c
front_bits front back at c h = ap (λ b. bit b (c % 8)) (sym (get_or-append front back 0 (at + c / 8) h))

pub back_bits : (front back : List ℕ) (at c : ℕ) → at ≡ length front → bit_from back 0 c ≡ bit_from (front ++ back) at c
back_bits front back at c cut =
    ap (λ b. bit b (c % 8)) (ap (λ p. get_or back p 0) (let e : 0 + c / 8 ≡ (at + c / 8) - length front = omega arith in e) ∙ sym (get_or-append_right front back (at + c / 8) 0 (omega arith)))

-- A set of which the bytes were altered and put back.
pub rewritten : (n : ℕ) (old new before part : List ℕ) (i at : ℕ) (S : ℕ → Bool) → at ≡ start n i → length part ≡ width n → Spliced old new part at
    → ((c : ℕ) → c / 8 < width n → bit_from before 0 c ≡ bit_from old at c) → Recoded n before part S
    → Rewritten n old new true i S
rewritten n old new before part i at S starts wide spliced was coded =
    let put : (c : ℕ) → c / 8 < width n → bit_from new (start n i) c ≡ bit_from part 0 c =
    λ c h. ap (λ a. bit_from new a c) (sym starts)
    ∙ ap (λ b. bit b (c % 8)) (spliced.inside (c / 8) (omega arith) ∙ ap (λ p. get_or part p 0) (sym (zero-add (c / 8)))) in
    record {
      long = spliced.long;
      refused = λ e. absurd (true≢false e);
      codes = λ _ c c<. put c (code_within n c c<) ∙ coded.codes c c<;
      spare = λ c ge lt. let h : c / 8 < width n = omega arith in
          put c h ∙ coded.spare c ge lt ∙ was c h ∙ ap (λ a. bit_from old a c) starts;
      others = λ p out. spliced.others p (⊎_elim (λ below. inl (omega arith)) (λ above. inr (omega arith)) out);
    }

-- a set that is altered by a call that leaves every bit as it was
pub unaltered : (n : ℕ) (bytes : List ℕ) (i : ℕ) (S : ℕ → Bool) → ((c : ℕ) → c < 2 ^ n → bit_from bytes (start n i) c ≡ S c) → Rewritten n bytes bytes true i S
unaltered n bytes i S is = record { long = refl; refused = λ _. refl; codes = λ _ c c<. is c c<; spare = λ c _ _. refl; others = λ p _. refl }

-- a call that is refused
pub untouched : (n : ℕ) (bytes : List ℕ) (i : ℕ) (S : ℕ → Bool) → Rewritten n bytes bytes false i S
untouched n bytes i S = record { long = refl; refused = λ _. refl; codes = λ e. absurd (false≢true e); spare = λ c _ _. refl; others = λ p _. refl }

-- a set that is there, by the bits from its start on
pub by_bits : (n : ℕ) (bytes : List ℕ) (i c : ℕ) → i < length bytes / width n → c < 2 ^ n → in_bytes n bytes i c ≡ bit_from bytes (start n i) c
by_bits n bytes i c inside c< =
    ap (λ t. (t && ltb c (2 ^ n)) && bit_from bytes (start n i) c) (lt-ltb i (length bytes / width n) inside)
    ∙ ap (λ t. t && bit_from bytes (start n i) c) (lt-ltb c (2 ^ n) c<)

pub no_code : (n : ℕ) (bytes : List ℕ) (j c : ℕ) → 2 ^ n ≤ c → in_bytes n bytes j c ≡ false
no_code n bytes j c ge = and_left _ _ (and_right (ltb j (length bytes / width n)) _ (le-ltb c (2 ^ n) ge))

both_false : (t p q : Bool) → p ≡ false → q ≡ false → cond t p q ≡ false
both_false t p q hp hq = grind arith

-- The sets after: for the set i by its bits, for another because its bytes are none of i's.
sets_after : (n : ℕ) (old new : List ℕ) (i : ℕ) (S : ℕ → Bool) → Rewritten n old new true i S → i < length old / width n
    → ((c : ℕ) → 2 ^ n ≤ c → S c ≡ false) → (j c : ℕ) → in_bytes n new j c ≡ cond (eqb j i) (S c) (in_bytes n old j c)
sets_after n old new i S have inside none j c =
    ⊎_elim
    (λ c<. ⊎_elim
    (λ e.
    let there : i < length new / width n = rw have.long inside in
    ap (λ k. in_bytes n new k c) e ∙ by_bits n new i c there c< ∙ have.codes refl c c< ∙ sym (cond-true (eqb j i) _ _ (eq-eqb j i e)))
    (λ ne.
    let byte = have.others (start n j + c / 8) (sets_apart i j (width n) (c / 8) ne (code_within n c c<)) in
    ap (λ l. (ltb j (l / width n) && ltb c (2 ^ n)) && bit_from new (start n j) c) have.long
    ∙ ap (λ b. (ltb j (length old / width n) && ltb c (2 ^ n)) && bit b (c % 8)) byte
    ∙ sym (cond-false (eqb j i) _ _ (ne_eqb j i ne)))
    (cases_eq j i))
    (λ ge. no_code n new j c ge ∙ sym (both_false (eqb j i) (S c) (in_bytes n old j c) (none c ge) (no_code n old j c ge)))
    (cases_lt c (2 ^ n))

frame_kept : (s : Shape) (old new : List ℕ) → length new ≡ length old → full_frame s new ≡ full_frame s old
frame_kept s old new long =
    ap (λ l. record { actions = (full_frame s old).actions; variables = (full_frame s old).variables; count = l / width (shape_bits s); universe = (full_frame s old).universe }) long

-- what a call that was not refused makes of the store
pub altered : (s : Shape) (old new : List ℕ) (o : Option Fault) (i : ℕ) (S : ℕ → Bool) → o ≡ None → Rewritten (shape_bits s) old new true i S
    → i < length old / width (shape_bits s) → ((c : ℕ) → 2 ^ shape_bits s ≤ c → S c ≡ false)
    → Altered s old new (Ok tt) o i S
altered s old new o i S free have inside none = record {
  sets = record {
    answer = answers_ok tt (λ _. Unit {0}) o free tt;
    kept = frame_kept s old new have.long;
    members = sets_after (shape_bits s) old new i S have inside none;
  };
  bytes = have;
}

-- what a call that was refused makes of it
pub refused : (s : Shape) (bytes : List ℕ) (e : Fault) (o : Option Fault) (i : ℕ) (S : ℕ → Bool) → o ≡ Some e → Altered s bytes bytes (Err e) o i S
refused s bytes e o i S is = record {
  sets = record {
    answer = (let P : Option Fault → Type 0 = λ v. Answers {X = Unit {0}} (Err e) v (λ _. Unit {0}) in subst P (sym is) refl);
    kept = refl;
    members = λ j c. refl;
  };
  bytes = untouched (shape_bits s) bytes i S;
}

-- two codes that are in no set make none
pub none_beyond : (on : Bool → Bool → Bool) (p q : Bool) → on false false ≡ false → p ≡ false → q ≡ false → on p q ≡ false
none_beyond on p q none hp hq = ap (λ t. on t q) hp ∙ ap (on false) hq ∙ none

-- what `start_of` finds
abbrev pub Found : Shape → ℕ → ℕ → ℕ → Type 0
Found s len i at = (i < len / width (shape_bits s)) × (at ≡ start (shape_bits s) i) × (at + width (shape_bits s) ≤ len)

pub found_bits : (s : Shape) (bytes : List ℕ) (i at c : ℕ) → Found s (length bytes) i at → c < 2 ^ shape_bits s → full_sets s bytes i c ≡ bit_from bytes at c
found_bits s bytes i at c found c< = by_bits (shape_bits s) bytes i c found.0 c< ∙ ap (λ a. bit_from bytes a c) (sym found.1)

-- the bytes of the set i, by themselves, have its codes
pub set_bits : (s : Shape) (bytes before : List ℕ) (i at c : ℕ) → Found s (length bytes) i at
    → ((d : ℕ) → d / 8 < width (shape_bits s) → bit_from before 0 d ≡ bit_from bytes at d) → c < 2 ^ shape_bits s → bit_from before 0 c ≡ full_sets s bytes i c
set_bits s bytes before i at c found was c< = was c (code_within (shape_bits s) c c<) ∙ sym (found_bits s bytes i at c found c<)

-- a call that altered the bytes of the set i
pub altered_part : (s : Shape) (old new before part : List ℕ) (i at : ℕ) (o : Option Fault) (R S : ℕ → Bool)
    → o ≡ None → Found s (length old) i at → length part ≡ width (shape_bits s) → Spliced old new part at
    → ((c : ℕ) → c / 8 < width (shape_bits s) → bit_from before 0 c ≡ bit_from old at c) → Recoded (shape_bits s) before part R
    → ((c : ℕ) → c < 2 ^ shape_bits s → R c ≡ S c) → ((c : ℕ) → 2 ^ shape_bits s ≤ c → S c ≡ false)
    → Altered s old new (Ok tt) o i S
altered_part s old new before part i at o R S free found wide spliced was coded is none =
    altered s old new o i S free
    (rewritten (shape_bits s) old new before part i at S found.1 wide spliced was
    (record { codes = λ c c<. coded.codes c c< ∙ is c c<; spare = coded.spare }))
    found.0 none
