-- From an evaluated formula to its report. Assumes nothing.
use Rattle.std.proofs.Common.{◌≡◌, ℕ, ◌<◌, ◌≤◌, Bool, true, List, length, Ok, Err, Result, sym, refl, ap, ◌∙◌, add-mul, arith, MatchResult}
use Rattle.std.proofs.lemmas.Nat.{mul-le}
use Rattle.logic.specs.Formulas.{Formula, truth, property, neg, or, and, one, two, nodes}
use Rattle.logic.specs.Table.{Table}
use Rattle.logic.specs.Listing.{Listed}
use Rattle.store.specs.Frames.{Frame, frame_codes}
use Rattle.evaluate.specs.Layout.{universe_set, result_set, sets_needed}
use Rattle.evaluate.specs.Evaluation.{Evaluated}
use Rattle.report.specs.Formulas.{FormulaReport}
use Rattle.report.specs.Listings.{below}
use Rattle.report.specs.Texts.{report_text}
use Rattle.report.proofs.Listing.{below_names}

pub cases_to : {X E : Type 0} (r : Result X E) (P Q : X → Type 0) → ((x : X) → P x → Q x) → MatchResult r P (λ _. ⊥) → MatchResult r Q (λ _. ⊥)
cases_to (Ok x) P Q to h = to x h
cases_to (Err e) P Q to h = h

pub some_nodes : (f : Formula) → 1 ≤ nodes f
some_nodes truth = omega arith
some_nodes (property p) = omega arith
some_nodes (neg f) = omega arith
some_nodes (or f g) = omega arith
some_nodes (and f g) = omega arith
some_nodes (one w α f) = omega arith
some_nodes (two w α f g) = omega arith

-- the sets that are asked for have the result of the first state among them
pub result_inside : (n states count set : ℕ) → 1 ≤ n → 1 ≤ states → sets_needed n states ≤ count → set ≡ result_set states 0 → set < count
result_inside n states count set some first enough is =
    omega (arith, add-mul n 6 states, mul-le 1 states n states some (omega arith))

pub evaluated_report :
    (f g : Frame) (m l : ℕ → ℕ → Bool) (M : Table) (φ : Formula) (r set : ℕ) (actions variables : List (List ℕ))
    → Evaluated f g m l M φ r → ((j c : ℕ) → l j c ≡ true → c < frame_codes g) → 0 < M.states → set ≡ result_set M.states 0
    → FormulaReport M f.universe actions variables φ (report_text actions variables (below (l set) (frame_codes g)) (length (below (l universe_set) (frame_codes g))) r)
evaluated_report f g m l M φ r set actions variables e coded some is =
    let here : (c : ℕ) → l set c ≡ l (result_set M.states 0) c = λ c. ap (λ j. l j c) is in
    record {
      listed = below (l set) (frame_codes g);
      lists = below_names (l set) (frame_codes g) (Listed M f.universe φ 0) (coded set)
          (λ c h. let w = (e.results 0 c some).0 (sym (here c) ∙ h) in record { inside = w.0; holds = w.1 })
          (λ c h. here c ∙ (e.results 0 c some).1 (h.inside, h.holds));
      codes = below (l universe_set) (frame_codes g);
      all = below_names (l universe_set) (frame_codes g) (λ c. f.universe c ≡ true) (coded universe_set) (λ c h. sym (e.universe c) ∙ h) (λ c h. e.universe c ∙ h);
      rounds = r;
      takes = e.rounds;
      says = refl;
    }
