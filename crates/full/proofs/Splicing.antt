-- A part of a list that is put back after it was altered.
use Rattle.std.proofs.Common.{◌≡◌, ℕ, ◌+◌, ◌-◌, ◌<◌, ◌≤◌, ◌⊎◌, List, ◌++◌, length, length-append, get_or, sym, ap, ◌∙◌, inr, ⊎_elim, arith, rules}
use borrow.Rule.Slice.PartMut.{put_mid}
use Rattle.std.proofs.Math.ListN.{get_or-append}
use Rattle.std.proofs.Math.Seq.{get_or-append_right}
use Rattle.std.proofs.lemmas.Bool.{cases_lt}
use Rattle.std.proofs.lemmas.List.{places}

pub record Spliced (old new part : List ℕ) (at : ℕ) : Type 0 where
  pub long : length new ≡ length old
  pub inside : (x : ℕ) → x < length part → get_or new (at + x) 0 ≡ get_or part x 0
  pub others : (k : ℕ) → (k < at) ⊎ (at + length part ≤ k) → get_or new k 0 ≡ get_or old k 0

pub spliced : (old part : List ℕ) (at k : ℕ) → length part ≡ k → at + k ≤ length old → Spliced old (put_mid at k old part) part at
spliced old part at k whole fits = record {
  long = search (rules, places);
  inside = λ x x<. search (rules, places);
  others = λ j out. ⊎_elim (λ below. search (rules, places)) (λ above. search (rules, places)) out;
}

-- the part lies in the front of a list that was cut in two
pub in_front : (front back new part : List ℕ) (at : ℕ) → at + length part ≤ length front → Spliced front new part at
    → Spliced (front ++ back) (new ++ back) part at
in_front front back new part at fits s = record {
  long = length-append new back ∙ ap (λ t. t + length back) s.long ∙ sym (length-append front back);
  inside = λ x x<. get_or-append new back 0 (at + x) (let h = s.long in omega arith) ∙ s.inside x x<;
  others = λ k out.
      ⊎_elim
      (λ low. get_or-append new back 0 k (let h = s.long in omega arith) ∙ s.others k out ∙ sym (get_or-append front back 0 k low))
      (λ high. get_or-append_right new back k 0 (let h = s.long in omega arith) ∙ ap (λ t. get_or back (k - t) 0) s.long
      ∙ sym (get_or-append_right front back k 0 high))
      (cases_lt k (length front));
}

-- the part begins the back
pub in_back : (front back new part : List ℕ) (at : ℕ) → at ≡ length front → Spliced back new part 0
    → Spliced (front ++ back) (front ++ new) part at
in_back front back new part at cut s = record {
  long = length-append front new ∙ ap (λ t. length front + t) s.long ∙ sym (length-append front back);
  inside = λ x x<.
      get_or-append_right front new (at + x) 0 (omega arith) ∙ ap (λ t. get_or new t 0) (let e : (at + x) - length front ≡ 0 + x = omega arith in e)
      ∙ s.inside x x<;
  others = λ k out.
      ⊎_elim
      (λ low. get_or-append front new 0 k low ∙ sym (get_or-append front back 0 k low))
      (λ high. get_or-append_right front new k 0 high
      ∙ s.others (k - length front) (⊎_elim (λ below. absurd (omega arith)) (λ above. let h : 0 + length part ≤ k - length front = omega arith in inr h) out)
      ∙ sym (get_or-append_right front back k 0 high))
      (cases_lt k (length front));
}
