-- The questions to a set of codes, answered from a test that says which codes the set has. Assumes nothing.
use Rattle.std.proofs.Common.{◌≡◌, ℕ, ◌<◌, Bool, true, Some, None, Decides, Option, sym, ◌∙◌}
use Rattle.std.proofs.lemmas.Bool.Decides.{not_from_Decides}
use Rattle.store.specs.Least.{Least}
use Rattle.members.specs.Numbers.{number}
use Rattle.members.specs.Smallest.{Smallest}
use Rattle.members.specs.Minimal.{Minimal, LeastMinimal}
use Rattle.members.proofs.Counting.{number_says}
use Rattle.bench.specs.Questions.{First, Many, Fewest, Alone}

module _ (m : ℕ → Bool) (P : ℕ → Type 0) (says : (c : ℕ) → Decides (m c) (P c)) where
  pub first_from : (p : ℕ) (o : Option ℕ) → Least m p o → First P p o
  first_from p None h = λ c l t. not_from_Decides (m c) (says c) (h c l) t
  first_from p (Some c) h = (h.0, (says c).0 h.1, (λ d l k t. not_from_Decides (m d) (says d) (h.2 d l k) t))

  pub fewest_from : (o : Option ℕ) → Smallest m o → Fewest P o
  fewest_from None h = λ c t. not_from_Decides (m c) (says c) (h c) t
  fewest_from (Some c) h = ((says c).0 h.0, (λ d t apart. h.1 d ((says d).1 t) apart))

  pub many_from : (n top : ℕ) → ((c : ℕ) → m c ≡ true → c < top) → n ≡ number m top → Many P n
  many_from n top small e =
      let all = number_says m top small in
      let cs = all.1.0 in
      let h = all.1.1 in
      record {
        codes = cs;
        names = record {
          ascending = h.ascending;
          sound = λ k l. (says _).0 (h.sound k l);
          whole = λ c t. h.whole c ((says c).1 t);
        };
        counts = e ∙ sym (all.0 cs h);
      }

  alone_from : (actions variables c : ℕ) → Minimal actions variables m c → Alone actions variables P c
  alone_from actions variables c h = record {
    inside = (says c).0 h.member;
    no_other = λ d t includes. h.no_other d ((says d).1 t) includes;
  }

  alone_back : (actions variables c : ℕ) → Alone actions variables P c → Minimal actions variables m c
  alone_back actions variables c h = record {
    member = (says c).1 h.inside;
    no_other = λ d t includes. h.no_other d ((says d).0 t) includes;
  }

  pub least_from : (actions variables p : ℕ) (o : Option ℕ) → LeastMinimal actions variables m p o → First (Alone actions variables P) p o
  least_from actions variables p None h = λ c l t. h c l (alone_back actions variables c t)
  least_from actions variables p (Some c) h =
      (h.0, alone_from actions variables c h.1, (λ d l k t. h.2 d l k (alone_back actions variables d t)))
