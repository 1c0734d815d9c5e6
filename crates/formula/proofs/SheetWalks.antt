-- A formula sheet is walked over by the rules, and a walk to its end goes over a formula sheet.
use Rattle.std.proofs.Common.{◌≡◌, ℕ, zero, suc, ◌*◌, ◌≤◌, Bool, true, false, List, [], ◌∷◌, ◌++◌, length, Some, None, Option, sym, refl, ap, ◌∙◌, subst, inl, inr, arith}
use Rattle.std.specs.List.{ContainsAt as Has}
use Rattle.std.proofs.lemmas.List.{append_assoc, append-nil}
use Rattle.std.proofs.lemmas.Bool.{cases_lt}
use Rattle.words.specs.declared.Letters.TheVariants.{Upper}
use Rattle.words.specs.Faults.{text_limit}
use Rattle.words.specs.Words.{bytes_of, counted, named, name_bytes, name_from}
use Rattle.words.specs.Walks.{Walks}
use Rattle.words.proofs.Words.{never_both, kept_whole}
use Rattle.words.proofs.Walks.{walks_then}
use Rattle.model.specs.Grammar.{Once}
use Rattle.model.proofs.Onces.{once_push, once_new}
use Rattle.formula.specs.declared.Node.{Node}
use Rattle.formula.specs.Nodes.{flat}
use Rattle.formula.specs.Rules.{Point, over, count_meets, count_after, formula_rules, formula_start}
use Rattle.formula.specs.Reading.{due_parts}
use Rattle.formula.specs.VariablesReading.{to_name, due_name}
use Rattle.formula.specs.Grammar.{Spells}
use Rattle.formula.specs.Sheets.{Content, NamesStand, FormulaSheet}
use Rattle.formula.proofs.NameWalks.{named_short, count_goes, name_goes}
use Rattle.formula.proofs.GrammarWalks.{formula_walks}
use Rattle.formula.proofs.GrammarSplits.{Rest, stuck, the_word}
use Rattle.formula.proofs.FormulaSplits.{split_formula}
use Rattle.formula.specs.Braces.{Stands}

not_false : (b : Bool) → (b ≡ false → ⊥) → b ≡ true
not_false true h = refl
not_false false h = absurd (h refl)

module _ (text : List ℕ) (actions properties : List (List ℕ)) where
  names_walk : (ws names : List (List ℕ)) (p q : ℕ) → NamesStand text ws p q → Once (names ++ ws) → Walks (formula_rules actions properties) text (to_name (length ws) names) p (due_parts (1 ∷ []) (names ++ ws) []) q
  names_walk [] names p q s once =
      record { words = 0; walk = (ap (λ ws. due_parts (1 ∷ []) ws []) (sym (append-nil names)), s) }
  names_walk (w ∷ ws) names p q s once =
      let m = s.0 in
      let first = s.1 in
      let k = length ws in
      let same : bytes_of text first.start m ≡ w = first.bytes in
      let good : named Upper (bytes_of text first.start m) ≡ true = ap (named Upper) same ∙ s.2 in
      let fresh : Has names (bytes_of text first.start m) → ⊥ = λ h. once_new names w ws once (subst (λ v. Has names v) same h) in
      let step = name_goes actions properties text p first.start m (first.word, first.clean) k names good fresh (name_from (bytes_of text first.start m)) refl in
      let bytes : name_bytes (name_from (bytes_of text first.start m)) ≡ w = kept_whole (bytes_of text first.start m) (named_short Upper (bytes_of text first.start m) good) ∙ same in
      let goes = subst (λ v. Walks (formula_rules actions properties) text (due_name k names) p (to_name k (names ++ v ∷ [])) m) bytes step in
      walks_then (formula_rules actions properties) text (due_name k names) p (to_name k (names ++ w ∷ [])) m (due_parts (1 ∷ []) (names ++ (w ∷ ws)) []) q goes
      (subst (λ vs. Walks (formula_rules actions properties) text (to_name k (names ++ w ∷ [])) m (due_parts (1 ∷ []) vs []) q) (append_assoc names (w ∷ []) ws) (names_walk ws (names ++ w ∷ []) m q s.3 (subst Once (sym (append_assoc names (w ∷ []) ws)) once)))

  pub sheet_walks : (c : Content) (end : ℕ) → FormulaSheet text actions properties c end → Walks (formula_rules actions properties) text formula_start 0 (due_parts [] c.names (flat c.formula)) end
  sheet_walks c end s =
      let first = s.count_stands in
      walks_then (formula_rules actions properties) text formula_start 0 (to_name (length c.names) []) s.names_from (due_parts [] c.names (flat c.formula)) end
      (count_goes actions properties text 0 first.start s.names_from (first.word, first.clean) (length c.names) (sym (ap (λ w. counted w 0 4) first.bytes ∙ s.counts)) s.bits)
      (walks_then (formula_rules actions properties) text (to_name (length c.names) []) s.names_from (due_parts (1 ∷ []) c.names []) s.formula_from (due_parts [] c.names (flat c.formula)) end
      (names_walk c.names [] s.names_from s.formula_from s.names_stand s.once)
      (formula_walks text actions properties c.names c.formula 1 [] [] s.formula_from end s.spelled (omega (arith, s.deep)) (omega (arith, s.many))))

  module _ (T : Point) (q : ℕ) (done : over T.due ≡ true) where
    record NamesSplit (k : ℕ) (names : List (List ℕ)) (p : ℕ) : Type 0 where
      given : List (List ℕ)
      many : length given ≡ k
      end : ℕ
      left : ℕ
      stand : NamesStand text given p end
      once : Once names → Once (names ++ given)
      rest : Rest text actions properties T q done left (due_parts (1 ∷ []) (names ++ given) []) end

    -- By how many names are to come: each word that is due fits, so it is a plain name that is new.
    split_names : (k n : ℕ) (names : List (List ℕ)) (p : ℕ) → Rest text actions properties T q done n (to_name k names) p → NamesSplit k names p
    split_names zero n names p w = record {
      given = [];
      many = refl;
      end = p;
      left = n;
      stand = refl;
      once = subst Once (sym (append-nil names));
      rest = subst (λ ws. Rest text actions properties T q done n (due_parts (1 ∷ []) ws []) p) (sym (append-nil names)) w;
    }
    split_names (suc k) zero names p w = absurd (stuck text actions properties T q done (due_name k names) refl w.0)
    split_names (suc k) (suc n) names p w =
        let a = w.2 in
        let word = bytes_of text a.start w.1 in
        let r = split_names k n (names ++ word ∷ []) w.1 (subst (λ u. Rest text actions properties T q done n u w.1) (sym a.goes) w.3) in
        record {
          given = word ∷ r.given;
          many = ap suc r.many;
          end = r.end;
          left = r.left;
          stand = (
            w.1,
            the_word text actions properties T q done (due_name k names) p w.0 w.1 word a refl,
            not_false (named Upper word) (λ bad. a.fits 5 (inl (refl, bad))),
            r.stand,
          );
          once = λ h. subst Once (append_assoc names (word ∷ []) r.given) (r.once (once_push names word h (λ old. a.fits 6 (inr (refl, old)))));
          rest = subst (λ ws. Rest text actions properties T q done r.left (due_parts (1 ∷ []) ws []) r.end) (append_assoc names (word ∷ []) r.given) r.rest;
        }

    -- where nothing is due, the walk has come to its end
    ended : (n : ℕ) (names : List (List ℕ)) (ns : List Node) (p : ℕ) → Rest text actions properties T q done n (due_parts [] names ns) p → (due_parts [] names ns ≡ T) × (p ≡ q)
    ended zero names ns p w = w
    ended (suc n) names ns p w = absurd (never_both true refl w.2.due)

    pub record Found : Type 0 where
      pub content : Content
      pub sheet : FormulaSheet text actions properties content q
      pub point : T ≡ due_parts [] content.names (flat content.formula)

    found_from : length text ≤ text_limit → (n m : ℕ) (w : List ℕ) (k : ℕ) → Stands text 0 w m → counted w 0 4 ≡ Some k → length actions * k ≤ 12 → Rest text actions properties T q done n (to_name k []) m → Found
    found_from short n m w k s is few rest =
        let given = split_names k n [] m rest in
        let f = split_formula text actions properties T q done given.given given.left 1 [] [] given.end given.rest in
        let e = ended f.left given.given (flat f.formula) f.end f.rest in
        record {
          content = record { names = given.given; formula = f.formula };
          sheet = record {
            short = short;
            count = w;
            counts = is ∙ ap Some (sym given.many);
            bits = subst (λ j. length actions * j ≤ 12) (sym given.many) few;
            names_from = m;
            count_stands = s;
            formula_from = given.end;
            names_stand = given.stand;
            once = given.once tt;
            spelled = subst (λ x. Spells text actions properties given.given f.formula given.end x) e.1 f.spelled;
            deep = omega (arith, f.deep);
            many = omega (arith, f.many);
          };
          point = sym e.0;
        }

    sheet_found : length text ≤ text_limit → (n : ℕ) → Rest text actions properties T q done n formula_start 0 → Found
    sheet_found short zero w = absurd (stuck text actions properties T q done formula_start refl w.0)
    sheet_found short (suc n) w = by (counted (bytes_of text w.2.start w.1) 0 4) refl
      where
        by : (o : Option ℕ) → counted (bytes_of text w.2.start w.1) 0 4 ≡ o → Found
        by None is = absurd (w.2.fits 4 (subst (λ o. count_meets (length actions) o 4) (sym is) refl))
        by (Some k) is =
            let few : length actions * k ≤ 12 = elim (cases_lt 12 (length actions * k)) [ inl l ↦ absurd (w.2.fits 9 (subst (λ o. count_meets (length actions) o 9) (sym is) (refl, l))) | inr l ↦ l ] in
            found_from short n w.1 (bytes_of text w.2.start w.1) k (the_word text actions properties T q done formula_start 0 w.0 w.1 (bytes_of text w.2.start w.1) w.2 refl) is few
            (subst (λ u. Rest text actions properties T q done n u w.1) (sym w.2.goes ∙ ap (λ o. count_after o formula_start) is) w.3)

    pub sheet_splits : length text ≤ text_limit → Walks (formula_rules actions properties) text formula_start 0 T q → Found
    sheet_splits short w = sheet_found short w.words w.walk
