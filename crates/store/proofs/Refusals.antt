-- When a call is not refused. Assumes nothing.
use Rattle.std.proofs.Common.{◌≡◌, ℕ, ◌<◌, ◌≤◌, Bool, true, false, cond, ltb, Some, None, Ok, Option, sym, refl, ◌∙◌, subst}
use Rattle.std.proofs.lemmas.Bool.{cond-true, lt-ltb, ltb-true, le-leb}
use Rattle.store.specs.declared.fault.Fault.{Fault}
use Rattle.store.specs.declared.fault.Fault.TheVariants.{NoSuchSet}
use Rattle.store.specs.Frames.{Frame, frame_bits, frame_codes}
use Rattle.store.specs.Calls.{Answers, one_set, two_sets, set_and_bit, set_and_code, set_and_start}

pub answers_ok : {X : Type 0} (x : X) (P : X → Type 0) (o : Option Fault) → o ≡ None → P x → Answers (Ok x) o P
answers_ok x P o e h = let Q : Option Fault → Type 0 = λ v. Answers (Ok x) v P in subst Q (sym e) h

pub ok_answers : {X : Type 0} (x : X) (P : X → Type 0) (o : Option Fault) → Answers (Ok x) o P → (o ≡ None) × P x
ok_answers x P None h = (refl, h)
ok_answers x P (Some e) h = absurd h

none_if : (b : Bool) (e : Fault) → cond b None (Some e) ≡ None → b ≡ true
none_if true e h = refl
none_if false e h = cc

-- a call on the set i that was not refused found it
pub found_set : {X : Type 0} (x : X) (P : X → Type 0) (f : Frame) (i : ℕ) → Answers (Ok x) (one_set f i) P → (i < f.count) × P x
found_set x P f i h =
    let e = ok_answers x P (one_set f i) h in (ltb-true i f.count (none_if (ltb i f.count) NoSuchSet e.0), e.1)

pub one_set_none : (f : Frame) (i : ℕ) → i < f.count → one_set f i ≡ None
one_set_none f i h = cond-true _ _ _ (lt-ltb i f.count h)

pub two_sets_none : (f : Frame) (i j : ℕ) → i < f.count → j < f.count → two_sets f i j ≡ None
two_sets_none f i j h k = cond-true _ _ _ (lt-ltb i f.count h) ∙ one_set_none f j k

pub set_and_bit_none : (f : Frame) (i b : ℕ) → i < f.count → b < frame_bits f → set_and_bit f i b ≡ None
set_and_bit_none f i b h k = cond-true _ _ _ (lt-ltb i f.count h) ∙ cond-true _ _ _ (lt-ltb b (frame_bits f) k)

pub set_and_code_none : (f : Frame) (i c : ℕ) → i < f.count → c < frame_codes f → set_and_code f i c ≡ None
set_and_code_none f i c h k = cond-true _ _ _ (lt-ltb i f.count h) ∙ cond-true _ _ _ (lt-ltb c (frame_codes f) k)

pub set_and_start_none : (f : Frame) (i c : ℕ) → i < f.count → c ≤ frame_codes f → set_and_start f i c ≡ None
set_and_start_none f i c h k = cond-true _ _ _ (lt-ltb i f.count h) ∙ cond-true _ _ _ (le-leb c (frame_codes f) k)
