-- A walk by the rules to the end of a sheet goes over a formula, and then over what is due behind it.
use Rattle.std.proofs.Common.{◌≡◌, ℕ, zero, suc, ◌^◌, ◌<◌, Bool, true, false, List, [], ◌∷◌, length, Some, None, codes, Option, sym, refl, ap, ◌∙◌, subst, arith}
use lib.Bits.{bit_or}
use Rattle.logic.specs.Codes.{bit}
use Rattle.logic.specs.Formulas as logic
use Rattle.words.specs.Words.{bytes_of}
use Rattle.words.specs.Walks.{Step, Walk}
use Rattle.words.proofs.Words.{never_both}
use Rattle.formula.specs.declared.Alpha.TheVariants as kept
use Rattle.formula.specs.declared.OnePart.{OnePart}
use Rattle.formula.specs.declared.OnePart.TheVariants.{Ex, Eg, Ef, Ax, Ag, Af, Exw, Egw, Efw, Axw, Agw, Afw}
use Rattle.formula.specs.declared.TwoParts.{TwoParts}
use Rattle.formula.specs.declared.TwoParts.TheVariants.{Eu, Au, Euw, Auw}
use Rattle.formula.specs.declared.Node.{Node}
use Rattle.formula.specs.declared.heads.Temporal.{Temporal}
use Rattle.formula.specs.declared.braces.BraceOrName.{BraceOrName}
use Rattle.formula.specs.declared.braces.BraceOrName.TheVariants.{Brace, Name}
use Rattle.formula.specs.Nodes.{one_word, two_word, alpha_of}
use Rattle.formula.specs.Braces.{inside, brace_word_of, brace_meets, brace_after, Stands, ActionsStand}
use Rattle.formula.specs.Rules.{Point, alpha_word_of, node_of, put, in_braces, over, alpha_meets, alpha_after, formula_rules}
use Rattle.formula.specs.Reading.{due_alpha}
use Rattle.formula.specs.Wholes.{one_back, two_back}
use Rattle.model.specs.Grammar.{Once}
use Rattle.formula.specs.Grammar.{AlphaAt}
use Rattle.formula.proofs.HeadWords.{brace_is}
use Rattle.formula.proofs.SetBits.{with_all, Clear, clear_back, once_more, bits_are}

-- the logic's words for those that are kept, and back
pub one_round_trip : (w : OnePart) → one_word (one_back w) ≡ w
one_round_trip Ex = refl
one_round_trip Eg = refl
one_round_trip Ef = refl
one_round_trip Ax = refl
one_round_trip Ag = refl
one_round_trip Af = refl
one_round_trip Exw = refl
one_round_trip Egw = refl
one_round_trip Efw = refl
one_round_trip Axw = refl
one_round_trip Agw = refl
one_round_trip Afw = refl

pub two_round_trip : (w : TwoParts) → two_word (two_back w) ≡ w
two_round_trip Eu = refl
two_round_trip Au = refl
two_round_trip Euw = refl
two_round_trip Auw = refl

pub not_true : (b : Bool) → (b ≡ true → ⊥) → b ≡ false
not_true true h = absurd (h refl)
not_true false h = refl

module _ (text : List ℕ) (actions properties : List (List ℕ)) (T : Point) (q : ℕ) (done : over T.due ≡ true) where
  abbrev pub Rest : ℕ → Point → ℕ → Type 0
  Rest n s p = Walk (formula_rules actions properties) text n s p T q

  -- where a word is due, the walk goes on
  pub stuck : (s : Point) → over s.due ≡ false → s ≡ T → ⊥
  stuck s due is = never_both (over s.due) (ap (λ x. over x.due) is ∙ done) due

  pub the_word : (s : Point) (p : ℕ) (u : Point) (m : ℕ) (w : List ℕ) (a : Step (formula_rules actions properties) text s p u m) → bytes_of text a.start m ≡ w → Stands text p w m
  the_word s p u m w a is = record { start = a.start; word = a.word; clean = a.clean; bytes = is }

  module _ (t : Temporal) (ds : List ℕ) (names : List (List ℕ)) (before : List Node) where
    record InBraces (n set p : ℕ) : Type 0 where
      listed : List ℕ
      end : ℕ
      left : ℕ
      less : left < n
      stand : ActionsStand text actions listed p end
      once : Once listed
      clear : Clear set listed
      some : with_all set listed ≡ 0 → ⊥
      rest : Rest left (put (node_of t (kept.Written (with_all set listed))) ds names before) end

    -- By the length of the walk: each word up to `}` fits, so it names an action that the set does not have. The actions so
    -- far and those to come share nothing, and the code that is closed with is the set with all of them.
    split_braces : (n set p : ℕ) → Rest n (in_braces t ds names before (inside set)) p → InBraces n set p
    split_braces zero set p w = absurd (stuck (in_braces t ds names before (inside set)) refl w.0)
    split_braces (suc n) set p w = by (split_braces n) (brace_word_of (bytes_of text w.2.start w.1) actions) refl
      where
        by : ((set p : ℕ) → Rest n (in_braces t ds names before (inside set)) p → InBraces n set p) → (o : Option BraceOrName) → brace_word_of (bytes_of text w.2.start w.1) actions ≡ o → InBraces (suc n) set p
        by more (Some Brace) is = record {
          listed = [];
          end = w.1;
          left = n;
          less = omega arith;
          stand = the_word (in_braces t ds names before (inside set)) p w.0 w.1 (codes "}") w.2 (brace_is (codes "}") _ actions is);
          once = tt;
          clear = λ b h. absurd (let z : ◌≡◌ {A = ℕ} 0 1 = cc in omega arith);
          some = λ z. w.2.fits 10 (subst (λ o. brace_meets set o 10) (sym is) (refl, z));
          rest = subst (λ u. Rest n u w.1) (sym w.2.goes ∙ ap (λ o. in_braces t ds names before (brace_after set o)) is) w.3;
        }
        by more (Some (Name b)) is =
            let new : bit set b ≡ false = not_true (bit set b) (λ h. w.2.fits 10 (subst (λ o. brace_meets set o 10) (sym is) (refl, h))) in
            let r = more (bit_or set (2 ^ b)) w.1 (subst (λ u. Rest n u w.1) (sym w.2.goes ∙ ap (λ o. in_braces t ds names before (brace_after set o)) is) w.3) in
            record {
              listed = b ∷ r.listed;
              end = r.end;
              left = r.left;
              less = omega (arith, r.less);
              stand = (bytes_of text w.2.start w.1, w.1, the_word (in_braces t ds names before (inside set)) p w.0 w.1 (bytes_of text w.2.start w.1) w.2 refl, is, r.stand);
              once = once_more set b r.listed r.once r.clear;
              clear = clear_back set b r.listed new r.clear;
              some = r.some;
              rest = r.rest;
            }
        by more None is = absurd (w.2.fits 7 (subst (λ o. brace_meets set o 7) (sym is) refl))

    pub record Spoken (n p : ℕ) : Type 0 where
      pub alpha : logic.Alpha
      pub end : ℕ
      pub left : ℕ
      pub less : left < n
      pub stand : AlphaAt text actions properties names alpha p end
      pub rest : Rest left (put (node_of t (alpha_of alpha)) ds names before) end

    listed_some : (xs : List ℕ) → (with_all 0 xs ≡ 0 → ⊥) → 0 < length xs
    listed_some [] h = absurd (h refl)
    listed_some (x ∷ xs) h = omega arith

    pub split_alpha : (n p : ℕ) → Rest n (due_alpha t ds names before) p → Spoken n p
    split_alpha zero p w = absurd (stuck (due_alpha t ds names before) refl w.0)
    split_alpha (suc n) p w = by (alpha_word_of (bytes_of text w.2.start w.1) names) refl
      where
        by : (o : Option BraceOrName) → alpha_word_of (bytes_of text w.2.start w.1) names ≡ o → Spoken (suc n) p
        by (Some Brace) is =
            let r = split_braces n 0 w.1 (subst (λ u. Rest n u w.1) (sym w.2.goes ∙ ap (λ o. alpha_after o t ds (due_alpha t ds names before)) is) w.3) in
            record {
              alpha = logic.written (with_all 0 r.listed);
              end = r.end;
              left = r.left;
              less = omega (arith, r.less);
              stand = (
                w.1,
                the_word (due_alpha t ds names before) p w.0 w.1 (codes "{") w.2 (brace_is (codes "{") _ names is),
                record { listed = r.listed; some = listed_some r.listed r.some; once = r.once; stand = r.stand; bits = bits_are r.listed },
              );
              rest = r.rest;
            }
        by (Some (Name y)) is = record {
          alpha = logic.variable y;
          end = w.1;
          left = n;
          less = omega arith;
          stand = (bytes_of text w.2.start w.1, the_word (due_alpha t ds names before) p w.0 w.1 (bytes_of text w.2.start w.1) w.2 refl, is);
          rest = subst (λ u. Rest n u w.1) (sym w.2.goes ∙ ap (λ o. alpha_after o t ds (due_alpha t ds names before)) is) w.3;
        }
        by None is = absurd (w.2.fits 7 (subst (λ o. alpha_meets o 7) (sym is) refl))
