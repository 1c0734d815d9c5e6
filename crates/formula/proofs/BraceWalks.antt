-- The words between the braces: one of them, and a whole set.
use Rattle.std.proofs.Common.{◌≡◌, ℕ, ◌^◌, ◌<◌, true, false, List, [], ◌∷◌, length, Some, None, sym, refl, ap, ◌∙◌, subst, arith}
use lib.Bits.{bit_or}
use Rattle.logic.specs.Codes.{bit}
use Rattle.words.specs.Words.{WordAt, Clean, bytes_of}
use Rattle.words.specs.Walks.{First, Walks, Leaves}
use Rattle.words.proofs.Words.{never_both}
use Rattle.formula.specs.declared.braces.BraceOrName.TheVariants.{Brace, Name}
use Rattle.formula.specs.Braces.{inside, closed, brace_word_of, brace_meets, brace_after, brace_rules, ActionsStand, BracesAt}
use Rattle.formula.proofs.Steps.{word_goes, word_stops}
use Rattle.words.proofs.Walks.{walks_then}
use Rattle.model.specs.Grammar.{Once}
use Rattle.formula.proofs.SetBits.{bit_none, with_all, Clear, clear_first, clear_more, code_is, some_code}

module _ (actions : List (List ℕ)) (text : List ℕ) (set p start end : ℕ) (found : WordAt text p start end × Clean text start end) where
  pub brace_unknown : None ≡ brace_word_of (bytes_of text start end) actions → Leaves (brace_rules actions) text (inside set) p 7 start end
  brace_unknown is =
      word_stops (brace_rules actions) text (inside set) p refl start end found 7
      (subst (λ o. First (brace_meets set o) 7) is (record { met = refl; least = λ m lt h. omega (arith, h) }))

  pub brace_empty : Some Brace ≡ brace_word_of (bytes_of text start end) actions → set ≡ 0 → Leaves (brace_rules actions) text (inside set) p 10 start end
  brace_empty is none =
      word_stops (brace_rules actions) text (inside set) p refl start end found 10
      (subst (λ o. First (brace_meets set o) 10) is (record { met = (refl, none); least = λ m lt h. omega (arith, h.0) }))

  pub brace_again : (a : ℕ) → Some (Name a) ≡ brace_word_of (bytes_of text start end) actions → bit set a ≡ true → Leaves (brace_rules actions) text (inside set) p 10 start end
  brace_again a is has =
      word_stops (brace_rules actions) text (inside set) p refl start end found 10
      (subst (λ o. First (brace_meets set o) 10) is (record { met = (refl, has); least = λ m lt h. omega (arith, h.0) }))

  pub brace_closes : Some Brace ≡ brace_word_of (bytes_of text start end) actions → (set ≡ 0 → ⊥) → Walks (brace_rules actions) text (inside set) p (closed set) end
  brace_closes is some =
      word_goes (brace_rules actions) text (inside set) p refl start end found (closed set)
      (λ n h. some (subst (λ o. brace_meets set o n) (sym is) h).1) (ap (brace_after set) (sym is))

  pub brace_more : (a : ℕ) → Some (Name a) ≡ brace_word_of (bytes_of text start end) actions → bit set a ≡ false → Walks (brace_rules actions) text (inside set) p (inside (bit_or set (2 ^ a))) end
  brace_more a is new =
      word_goes (brace_rules actions) text (inside set) p refl start end found (inside (bit_or set (2 ^ a)))
      (λ n h. never_both (bit set a) (subst (λ o. brace_meets set o n) (sym is) h).1 new) (ap (brace_after set) (sym is))

module _ (text : List ℕ) (actions : List (List ℕ)) where
  actions_walk : (xs : List ℕ) (set p q : ℕ) → ActionsStand text actions xs p q → Once xs → Clear set xs → (with_all set xs ≡ 0 → ⊥) → Walks (brace_rules actions) text (inside set) p (closed (with_all set xs)) q
  actions_walk [] set p q s once clear some =
      brace_closes actions text set p s.start q (s.word, s.clean) (sym (ap (λ w. brace_word_of w actions) s.bytes)) some
  actions_walk (a ∷ xs) set p q s once clear some =
      let first = s.2 in
      walks_then (brace_rules actions) text (inside set) p (inside (bit_or set (2 ^ a))) s.1 (closed (with_all (bit_or set (2 ^ a)) xs)) q
      (brace_more actions text set p first.start s.1 (first.word, first.clean) a (sym (ap (λ w. brace_word_of w actions) first.bytes ∙ s.3)) (clear_first set a xs clear))
      (actions_walk xs (bit_or set (2 ^ a)) s.1 q s.4 once.1 (clear_more set a xs once clear) some)

  not_none : (xs : List ℕ) → 0 < length xs → with_all 0 xs ≡ 0 → ⊥
  not_none [] some = absurd (omega arith)
  not_none (a ∷ xs) some = some_code a xs

  pub set_walks : (code p q : ℕ) → BracesAt text actions code p q → Walks (brace_rules actions) text (inside 0) p (closed code) q
  set_walks code p q s =
      subst (λ c. Walks (brace_rules actions) text (inside 0) p (closed c) q) (sym (code_is code s.listed s.bits))
      (actions_walk s.listed 0 p q s.stand s.once (λ b _. bit_none b) (not_none s.listed s.some))
