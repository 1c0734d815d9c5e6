-- What the display lists, and its rounds, by computing them.
use Rattle.std.proofs.Common.{◌≡◌, ℕ, ◌*◌, ◌^◌, ◌<◌, Bool, true, false, not, ◌&&◌, ◌||◌, eqb, ltb, List, [], ◌∷◌, sym, refl, subst, inl, inr, lit<}
use Rattle.std.proofs.lemmas.Bool.{and_parts, and_from, or_cases, eqb-true, ltb-true, false≢true, not-true, both_ways}
use Rattle.logic.specs.Codes.{valuation, inhabited, Bounded}
use Rattle.logic.specs.Formulas.{Formula}
use Rattle.logic.specs.Table.{Sound}
use Rattle.logic.specs.Core.{core}
use Rattle.logic.specs.Rounds.{Rounds}
use Rattle.logic.specs.Deciding.{has, decided}
use Rattle.logic.specs.Display.{display, OneOf, Lists, Takes, DisplayLists, DisplayRounds, DisplayWords}
use Rattle.logic.proofs.Deciding.{rounds_decide}
use Rattle.logic.proofs.Tested.{below, below_all}
use Rattle.logic.proofs.Counted.{rounds_count, rounds_counted}

pub sound : Sound display
sound = (
  record { from_inside = lit< tt; action_inside = lit< tt; to_inside = lit< tt },
  (
    record { from_inside = lit< tt; action_inside = lit< tt; to_inside = lit< tt },
    (record { from_inside = lit< tt; action_inside = lit< tt; to_inside = lit< tt }, tt),
  ),
)

-- the numbers of a list
abbrev pub each : List ℕ → (ℕ → Bool) → Bool
each [] F = true
each (x ∷ xs) F = F x && each xs F

pub each_one : (xs : List ℕ) (F : ℕ → Bool) → each xs F ≡ true → (c : ℕ) → OneOf xs c → F c ≡ true
each_one [] F e c h = absurd h
each_one (x ∷ xs) F e c (inl q) = subst (λ z. F z ≡ true) (sym q) (and_parts _ _ e).0
each_one (x ∷ xs) F e c (inr h) = each_one xs F (and_parts _ _ e).1 c h

abbrev pub one_of : List ℕ → ℕ → Bool
one_of [] c = false
one_of (x ∷ xs) c = eqb c x || one_of xs c

pub one_of_true : (xs : List ℕ) (c : ℕ) → one_of xs c ≡ true → OneOf xs c
one_of_true [] c e = absurd (false≢true e)
one_of_true (x ∷ xs) c e = elim (or_cases _ _ e) [ inl a ↦ inl (eqb-true c x a) | inr b ↦ inr (one_of_true xs c b) ]

-- the code is a valuation, and the rounds put the state into the formula's set
abbrev listed : ℕ → Formula → ℕ → ℕ → Bool
listed variables f s c = valuation 2 variables c && has (decided display c (core f)) s

-- the codes of the list are listed, and of all codes below 2^n no other is
lists : (variables : ℕ) (f : Formula) (s : ℕ) → s < 3 → (codes : List ℕ)
    → each codes (listed variables f s) ≡ true
    → below (2 ^ (2 * variables)) (λ c. not (listed variables f s c) || one_of codes c) ≡ true
    → Lists variables f s codes
lists variables f s l codes in_List no_other = record {
  exactly = λ c. (
    λ x. let small = ltb-true c (2 ^ (2 * variables)) (and_parts (ltb c (2 ^ (2 * variables))) (inhabited 2 variables c) x.inside).0 in
        elim (or_cases _ _ (below_all _ _ no_other c small)) [
          | inl a ↦ absurd (both_ways _ (not-true _ a) (and_from _ _ x.inside ((rounds_decide display sound c s f l).1 x.holds)))
          | inr b ↦ one_of_true codes c b
        ],
    λ h. let p = and_parts (valuation 2 variables c) (has (decided display c (core f)) s) (each_one codes (listed variables f s) in_List c h) in
        record { inside = p.0; holds = (rounds_decide display sound c s f l).0 p.1 },
  );
}

pub display_lists : DisplayLists
display_lists = record {
  ef_idle = lists _ _ _ (lit< tt) _ refl refl;
  ef_menu = lists _ _ _ (lit< tt) _ refl refl;
  af_idle = lists _ _ _ (lit< tt) _ refl refl;
  af_menu = lists _ _ _ (lit< tt) _ refl refl;
  afw_idle = lists _ _ _ (lit< tt) _ refl refl;
  eg_idle = lists _ _ _ (lit< tt) _ refl refl;
  egw_idle = lists _ _ _ (lit< tt) _ refl refl;
  ef_ag_idle = lists _ _ _ (lit< tt) _ refl refl;
}

small : (variables : ℕ) → Bounded (valuation 2 variables) (2 ^ (2 * variables))
small variables c u =
    ltb-true c (2 ^ (2 * variables)) (and_parts (ltb c (2 ^ (2 * variables))) (inhabited 2 variables c) u).0

takes : (variables : ℕ) (f : Formula) (r : ℕ)
    → rounds_count display (valuation 2 variables) (2 ^ (2 * variables)) f ≡ r → Takes variables f r
takes variables f r e = record {
  rounds = subst (Rounds display (valuation 2 variables) f) e
      (rounds_counted display sound (valuation 2 variables) (2 ^ (2 * variables)) (small variables) f);
}

pub display_rounds : DisplayRounds
display_rounds = record {
  ef_rounds = takes _ _ _ refl;
  af_rounds = takes _ _ _ refl;
  afw_rounds = takes _ _ _ refl;
  eg_rounds = takes _ _ _ refl;
  egw_rounds = takes _ _ _ refl;
  ef_ag_rounds = takes _ _ _ refl;
}

pub display_words : DisplayWords
display_words = record {
  ex_shows = record { lists = lists _ _ _ (lit< tt) _ refl refl; takes = takes _ _ _ refl };
  exw_shows = record { lists = lists _ _ _ (lit< tt) _ refl refl; takes = takes _ _ _ refl };
  ax_shows = record { lists = lists _ _ _ (lit< tt) _ refl refl; takes = takes _ _ _ refl };
  axw_shows = record { lists = lists _ _ _ (lit< tt) _ refl refl; takes = takes _ _ _ refl };
  efw_shows = record { lists = lists _ _ _ (lit< tt) _ refl refl; takes = takes _ _ _ refl };
  ag_shows = record { lists = lists _ _ _ (lit< tt) _ refl refl; takes = takes _ _ _ refl };
  agw_shows = record { lists = lists _ _ _ (lit< tt) _ refl refl; takes = takes _ _ _ refl };
  eu_shows = record { lists = lists _ _ _ (lit< tt) _ refl refl; takes = takes _ _ _ refl };
  euw_shows = record { lists = lists _ _ _ (lit< tt) _ refl refl; takes = takes _ _ _ refl };
  au_shows = record { lists = lists _ _ _ (lit< tt) _ refl refl; takes = takes _ _ _ refl };
  auw_shows = record { lists = lists _ _ _ (lit< tt) _ refl refl; takes = takes _ _ _ refl };
}
