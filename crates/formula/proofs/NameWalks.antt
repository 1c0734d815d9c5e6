-- The words in front of the formula: the count of variables and their names.
use Rattle.std.proofs.Common.{◌≡◌, ℕ, suc, ◌+◌, ◌-◌, ◌*◌, ◌<◌, ◌≤◌, true, List, [], ◌∷◌, ◌++◌, map, length, take, set, Some, None, Ok, Err, Result, sym, refl, ap, ◌∙◌, subst, inl, inr, arith}
use Rattle.std.specs.List.{ContainsAt as Has}
use Rattle.std.proofs.lemmas.List.{take_more_set, map_push}
use Rattle.std.proofs.lemmas.Bool.{and_parts, leb-true}
use Rattle.words.specs.declared.Letters.{Letters}
use Rattle.words.specs.declared.Letters.TheVariants.{Upper}
use Rattle.words.specs.declared.Name.{Name}
use Rattle.words.specs.Words.{WordAt, Clean, bytes_of, counted, named, name_bytes, name_from, listed}
use Rattle.words.specs.declared.NameList.{NameList}
use Rattle.words.specs.declared.Reader.{Reader}
use Rattle.words.specs.Walks.{First, Walks, Leaves, Found, Reads}
use Rattle.words.proofs.Words.{kept_whole}
use Rattle.words.proofs.Readers as words
use Rattle.words.proofs.Readers.{walks_on, leaves_on, name_fits, name_bad, name_taken}
use Rattle.words.specs.declared.Fault.{Fault}
use Rattle.words.specs.declared.Word.{Word}
use Rattle.words.specs.Faults.{number, position}
use Rattle.words.specs.Readers.{NewName}
use Rattle.formula.proofs.Padding.{padded_long, padded_push}
use Rattle.model.specs.Values.{padded, blank_name}
use Rattle.formula.specs.Rules.{count_meets, count_after, formula_rules, formula_start}
use Rattle.model.specs.declared.vocabulary.Vocabulary.{Vocabulary}
use Rattle.formula.specs.Reading.{rules_of}
use Rattle.formula.specs.VariablesReading.{to_name, due_name}
use Rattle.formula.proofs.Steps.{word_goes, word_stops}

-- a name has at most eight bytes
pub named_short : (k : Letters) (w : List ℕ) → named k w ≡ true → length w ≤ 8
named_short k w h = leb-true (length w) 8 (and_parts _ _ (and_parts _ _ h).1).0

module _ (actions properties : List (List ℕ)) (text : List ℕ) (p start end : ℕ) (found : WordAt text p start end × Clean text start end) where
  pub count_bad : None ≡ counted (bytes_of text start end) 0 4 → Leaves (formula_rules actions properties) text formula_start p 4 start end
  count_bad is =
      word_stops (formula_rules actions properties) text formula_start p refl start end found 4
      (subst (λ o. First (count_meets (length actions) o) 4) is (record { met = refl; least = λ m lt h. omega (arith, h) }))

  pub count_many : (k : ℕ) → Some k ≡ counted (bytes_of text start end) 0 4 → 12 < length actions * k → Leaves (formula_rules actions properties) text formula_start p 9 start end
  count_many k is many =
      word_stops (formula_rules actions properties) text formula_start p refl start end found 9
      (subst (λ o. First (count_meets (length actions) o) 9) is (record { met = (refl, many); least = λ m lt h. omega (arith, h.0) }))

  pub count_goes : (k : ℕ) → Some k ≡ counted (bytes_of text start end) 0 4 → length actions * k ≤ 12 → Walks (formula_rules actions properties) text formula_start p (to_name k []) end
  count_goes k is few =
      word_goes (formula_rules actions properties) text formula_start p refl start end found (to_name k [])
      (λ n m. let h = subst (λ o. count_meets (length actions) o n) (sym is) m in omega (arith, h.1)) (ap (λ o. count_after o formula_start) (sym is))

  pub name_goes : (k : ℕ) (taken : List (List ℕ)) → named Upper (bytes_of text start end) ≡ true → (Has taken (bytes_of text start end) → ⊥) → (n : Name) → n ≡ name_from (bytes_of text start end) → Walks (formula_rules actions properties) text (due_name k taken) p (to_name k (taken ++ name_bytes n ∷ [])) end
  name_goes k taken good new n is =
      word_goes (formula_rules actions properties) text (due_name k taken) p refl start end found (to_name k (taken ++ name_bytes n ∷ []))
      (name_fits Upper (bytes_of text start end) (Has taken (bytes_of text start end)) good new)
      (ap (λ w. to_name k (taken ++ w ∷ [])) (sym (ap name_bytes is ∙ kept_whole (bytes_of text start end) (named_short Upper (bytes_of text start end) good))))

-- a word that is due as a name
module _ (actions properties : List (List ℕ)) (r after : Reader) (w : Word) (found : Found r (Ok w) after) (k : ℕ) (taken : List (List ℕ)) where
  pub name_reads : (result : Result Name Fault) → NewName Upper taken w result → Reads (formula_rules actions properties) (due_name k taken) r result (λ n. to_name k (taken ++ name_bytes n ∷ [])) after
  name_reads (Ok n) h =
      words.word_goes (formula_rules actions properties) (due_name k taken) r after refl w (to_name k (taken ++ name_bytes n ∷ [])) found
      (name_fits Upper w.bytes.now (Has taken w.bytes.now) h.0 h.1)
      (ap (λ b. to_name k (taken ++ b ∷ [])) (sym (ap name_bytes h.2 ∙ kept_whole w.bytes.now (named_short Upper w.bytes.now h.0))))
  name_reads (Err f) (inl h) =
      subst (λ g. Leaves (formula_rules actions properties) r.text.now (due_name k taken) r.at (number g) (position g) after.at) (sym h.0)
      (words.word_stops (formula_rules actions properties) (due_name k taken) r after refl w 5 found (name_bad Upper w.bytes.now (Has taken w.bytes.now) h.1))
  name_reads (Err f) (inr h) =
      subst (λ g. Leaves (formula_rules actions properties) r.text.now (due_name k taken) r.at (number g) (position g) after.at) (sym h.0)
      (words.word_stops (formula_rules actions properties) (due_name k taken) r after refl w 6 found (name_taken Upper w.bytes.now (Has taken w.bytes.now) h.1 h.2))

module _ (v : Vocabulary) (r : Reader) where
  -- where so many of the names have been read
  pub record NamesSoFar (count i : ℕ) (x : NameList 4) (m : Reader) : Type 0 where
    pub few : count ≤ 4
    pub given : x.count ≡ i
    pub blank : x.names ≡ padded 4 blank_name (take x.count x.names)
    pub kept : map name_from (listed x) ≡ take x.count x.names
    pub same : m.text ≡ r.text
    pub walked : Walks (rules_of v) r.text.now formula_start r.at (to_name (count - i) (listed x)) m.at

  module _ (count i : ℕ) (x : NameList 4) (m : Reader) (far : NamesSoFar count i x m) where
    module _ (lt : i < count) (taken : List Name) (are : taken ≡ take x.count x.names) where
      -- the next name is due
      here : Walks (rules_of v) r.text.now formula_start r.at (due_name (count - (i + 1)) (map name_bytes taken)) m.at
      here =
          let down : count - i ≡ suc (count - (i + 1)) = omega arith in
          rw are (subst (λ k. Walks (rules_of v) r.text.now formula_start r.at (to_name k (listed x)) m.at) down far.walked)

      pub names_fail : (n at : ℕ) (after : Reader) → ((actions properties : List (List ℕ)) (k : ℕ) → Leaves (formula_rules actions properties) m.text.now (due_name k (map name_bytes taken)) m.at n at after.at) → Leaves (rules_of v) r.text.now formula_start r.at n at after.at
      names_fail n at after fails =
          leaves_on (rules_of v) formula_start r (due_name (count - (i + 1)) (map name_bytes taken)) m far.same here n at after (fails (listed v.actions) (listed v.properties) (count - (i + 1)))

      pub names_more : (n : Name) (after : Reader) → name_from (name_bytes n) ≡ n → after.text ≡ m.text → ((actions properties : List (List ℕ)) (k : ℕ) → Walks (formula_rules actions properties) m.text.now (due_name k (map name_bytes taken)) m.at (to_name k (map name_bytes taken ++ name_bytes n ∷ [])) after.at) → NamesSoFar count (i + 1) (record { names = set x.names x.count n; count = x.count + 1 }) after
      names_more n after kept same goes =
          let long = padded_long 4 blank_name x.names x.count far.blank (omega (arith, far.few, far.given)) in
          let next : take (x.count + 1) (set x.names x.count n) ≡ take x.count x.names ++ n ∷ [] = take_more_set x.names x.count n (omega (arith, far.few, far.given, long)) in
          let seen : map name_bytes taken ++ name_bytes n ∷ [] ≡ map name_bytes (take (x.count + 1) (set x.names x.count n)) =
          ap (λ ns. map name_bytes ns ++ name_bytes n ∷ []) are ∙ sym (map_push name_bytes (take x.count x.names) n) ∙ ap (map name_bytes) (sym next) in
          record {
            few = far.few;
            given = ap (λ k. k + 1) far.given;
            blank = padded_push 4 blank_name x.names x.count far.blank n (omega (arith, far.few, far.given));
            kept = ap (map name_from) (sym seen ∙ ap (λ ns. map name_bytes ns ++ name_bytes n ∷ []) are) ∙ map_push name_from (listed x) (name_bytes n) ∙ ap (λ ns. ns ++ name_from (name_bytes n) ∷ []) far.kept ∙ ap (λ m. take x.count x.names ++ m ∷ []) kept ∙ sym next;
            same = same ∙ far.same;
            walked = subst (λ ws. Walks (rules_of v) r.text.now formula_start r.at (to_name (count - (i + 1)) ws) after.at) seen
                (walks_on (rules_of v) formula_start r (due_name (count - (i + 1)) (map name_bytes taken)) m far.same here (to_name (count - (i + 1)) (map name_bytes taken ++ name_bytes n ∷ [])) after (goes (listed v.actions) (listed v.properties) (count - (i + 1))));
          }
