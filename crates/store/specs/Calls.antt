-- What the calls of a store answer and do.
--
--   one_set         the refusal of a call on the set i, if any; two_sets on i and j, set_and_bit on i and the bit b,
--   two_sets        set_and_code on i and the code c, set_and_start on i and the place c from which it looks
--   set_and_bit
--   set_and_code
--   set_and_start
--   Answers         the call is refused by this fault, or there is none and its answer is as P says
--   SameMembers     two sets have the same members
--   Alters          a call that gives the set i the members `new` unless it is refused, and alters nothing else:
--                   f and m are frame and sets before, g and l after
--
-- Assumes nothing.
use Rattle.std.specs.Prelude.{◌≡◌, ℕ, Bool, cond, ◌&&◌, is_ok, Some, None, Ok, Err, Option, Result, ◌==◌, nat_le, nat_lt}
use Rattle.store.specs.declared.fault.Fault.{Fault}
use Rattle.store.specs.declared.fault.Fault.TheVariants.{NoSuchSet, NoSuchBit, CodeTooHigh}
use Rattle.store.specs.Frames.{Frame, frame_bits, frame_codes}

abbrev pub one_set : Frame → ℕ → Option Fault
one_set f i = cond (nat_lt i f.count) None (Some NoSuchSet)

abbrev pub two_sets : Frame → ℕ → ℕ → Option Fault
two_sets f i j = cond (nat_lt i f.count) (one_set f j) (Some NoSuchSet)

abbrev pub set_and_bit : Frame → ℕ → ℕ → Option Fault
set_and_bit f i b = cond (nat_lt i f.count) (cond (nat_lt b (frame_bits f)) None (Some NoSuchBit)) (Some NoSuchSet)

abbrev pub set_and_code : Frame → ℕ → ℕ → Option Fault
set_and_code f i c = cond (nat_lt i f.count) (cond (nat_lt c (frame_codes f)) None (Some CodeTooHigh)) (Some NoSuchSet)

-- one more than the highest code is a place to look from: there is nothing there
abbrev pub set_and_start : Frame → ℕ → ℕ → Option Fault
set_and_start f i c = cond (nat_lt i f.count) (cond (nat_le c (frame_codes f)) None (Some CodeTooHigh)) (Some NoSuchSet)

abbrev pub Answers : {X : Type 0} → Result X Fault → Option Fault → (X → Type 0) → Type 0
Answers (Ok x) None P = P x
Answers (Ok x) (Some e) P = ⊥
Answers (Err e) None P = ⊥
Answers (Err e) (Some f) P = e ≡ f

abbrev pub SameMembers : (ℕ → Bool) → (ℕ → Bool) → Type 0
SameMembers m l = (c : ℕ) → m c ≡ l c

pub record Alters (f g : Frame) (m l : ℕ → ℕ → Bool) (r : Result (Unit {0}) Fault) (o : Option Fault) (i : ℕ) (new : ℕ → Bool) : Type 0 where
  pub answer : Answers r o (λ _. Unit {0})
  pub kept : g ≡ f
  pub members : (j c : ℕ) → l j c ≡ cond (is_ok r && j == i) (new c) (m j c)
