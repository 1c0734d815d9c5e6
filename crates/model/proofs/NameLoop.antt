-- What the loop over names keeps: the walk from the section's count to the word that is due, and what is written.
use Rattle.std.proofs.Common.{◌≡◌, ℕ, suc, ◌+◌, ◌-◌, ◌<◌, ◌≤◌, ltb, cond, List, [], ◌∷◌, ◌++◌, map, length, take, set, replicate, sym, ap, ◌∙◌, subst, arith}
use native.Mathlib.Nat.{sub-zero}
use Rattle.std.proofs.lemmas.Bool.{cond-true, lt-ltb}
use Rattle.std.proofs.lemmas.List.{length-set, length-map, length-take, length-replicate, take_more_set, map_push}
use Rattle.words.specs.declared.Name.{Name}
use Rattle.words.specs.declared.NameList.{NameList}
use Rattle.words.specs.declared.Reader.{Reader}
use Rattle.words.specs.Words.{name_bytes, name_from, listed}
use Rattle.words.specs.Walks.{Walks, Leaves}
use Rattle.words.proofs.Readers.{walks_on, leaves_on}
use Rattle.model.specs.declared.names.Names.{Names}
use Rattle.model.specs.Content.{Content, names, most, names_of}
use Rattle.model.specs.Rules.{count, name, at, due_names, with_names, model_rules}
use Rattle.model.specs.Values.{padded, blank_name}
use Rattle.model.proofs.Cells.{padded_more}
use Rattle.model.proofs.Steps.{names_given, names_again}

-- i of n names are read
pub record NamesSoFar (kind : Names) (cells n i : ℕ) (list : NameList cells) (before now : Reader) : Type 0 where
  pub few : n ≤ most (names kind)
  pub same : now.text ≡ before.text
  pub counts : list.count ≡ i
  pub long : length list.names ≡ cells
  pub kept : list.names ≡ padded cells blank_name (map name_from (listed list))
  pub walks : (c : Content) → Walks model_rules before.text.now (at (count (names kind)) (with_names kind c [])) before.at (at (due_names kind (n - i)) (with_names kind c (listed list))) now.at

module _ (kind : Names) (cells : ℕ) (room : most (names kind) ≤ cells) (n : ℕ) (before : Reader) where
  pub names_none : (now : Reader) (list : NameList cells) → list.names ≡ replicate cells blank_name → list.count ≡ 0 → n ≤ most (names kind) → now.text ≡ before.text → ((c : Content) → Walks model_rules before.text.now (at (count (names kind)) c) before.at (at (due_names kind n) c) now.at) → NamesSoFar kind cells n 0 list before now
  names_none now list blank none few same h =
      let empty : listed list ≡ [] = ap (λ k. map name_bytes (take k list.names)) none in
      record {
        few = few;
        same = same;
        counts = none;
        long = ap length blank ∙ length-replicate cells blank_name;
        kept = blank ∙ ap (λ k. replicate k blank_name) (sym (sub-zero cells)) ∙ ap (λ ws. padded cells blank_name (map name_from ws)) (sym empty);
        walks = λ c.
            subst (λ ws. Walks model_rules before.text.now (at (count (names kind)) (with_names kind c [])) before.at (at (due_names kind (n - 0)) (with_names kind c ws)) now.at) (sym empty)
            (subst (λ k. Walks model_rules before.text.now (at (count (names kind)) (with_names kind c [])) before.at (at (due_names kind k) (with_names kind c [])) now.at) (sym (sub-zero n)) (h (with_names kind c [])));
      }

  module _ (i : ℕ) (list : NameList cells) (now : Reader) (so_far : NamesSoFar kind cells n i list before now) where
    few_cells : list.count ≤ length list.names → length (listed list) ≡ list.count
    few_cells le = length-map (take list.count list.names) name_bytes ∙ omega (arith, length-take list.count list.names, le)

    module _ (lt : i < n) (seen : List Name) (is_seen : seen ≡ take list.count list.names) where
      -- the walk, with the name that is due named
      due : (c : Content) → Walks model_rules before.text.now (at (count (names kind)) (with_names kind c [])) before.at (at (name kind (n - (i + 1))) (with_names kind c (listed list))) now.at
      due c =
          let step : n - i ≡ suc (n - (i + 1)) = omega arith in
          subst (λ k. Walks model_rules before.text.now (at (count (names kind)) (with_names kind c [])) before.at (at (due_names kind k) (with_names kind c (listed list))) now.at) step (so_far.walks c)

      same_given : (c : Content) → names_of (with_names kind c (listed list)) kind ≡ map name_bytes seen
      same_given c = names_given kind c (listed list) ∙ ap (map name_bytes) (sym is_seen)

      inside : list.count < length list.names
      inside = omega (arith, so_far.counts, so_far.long, so_far.few, room)

      pub names_fail : (f place : ℕ) (after : Reader) → ((c : Content) (m : ℕ) → names_of c kind ≡ map name_bytes seen → Leaves model_rules now.text.now (at (name kind m) c) now.at f place after.at) → (c : Content) → Leaves model_rules before.text.now (at (count (names kind)) (with_names kind c [])) before.at f place after.at
      names_fail f place after h c =
          leaves_on model_rules (at (count (names kind)) (with_names kind c [])) before (at (name kind (n - (i + 1))) (with_names kind c (listed list))) now so_far.same (due c) f place after (h (with_names kind c (listed list)) (n - (i + 1)) (same_given c))

      module _ (x : Name) (whole : x ≡ name_from (name_bytes x)) (next : NameList cells) (is_names : next.names ≡ set list.names list.count x) (is_count : next.count ≡ cond (ltb list.count cells) (list.count + 1) list.count) where
        one_more : next.count ≡ list.count + 1
        one_more = is_count ∙ cond-true _ _ _ (lt-ltb list.count cells (omega (arith, inside, so_far.long)))

        more : listed next ≡ listed list ++ name_bytes x ∷ []
        more =
            (λ k. map name_bytes (take (one_more k) (is_names k)))
            ∙ ap (map name_bytes) (take_more_set list.names list.count x inside)
            ∙ map_push name_bytes (take list.count list.names) x

        many : length (map name_from (listed list)) ≡ list.count
        many = length-map (listed list) name_from ∙ few_cells (omega (arith, inside))

        kept_more : next.names ≡ padded cells blank_name (map name_from (listed next))
        kept_more =
            is_names
            ∙ ap (λ k. set list.names k x) (sym many)
            ∙ ap (λ xs. set xs (length (map name_from (listed list))) x) so_far.kept
            ∙ padded_more cells blank_name (map name_from (listed list)) x (omega (arith, many, inside, so_far.long))
            ∙ ap (λ y. padded cells blank_name (map name_from (listed list) ++ y ∷ [])) whole
            ∙ ap (padded cells blank_name) (sym (map_push name_from (listed list) (name_bytes x)))
            ∙ ap (λ ws. padded cells blank_name (map name_from ws)) (sym more)

        pub names_more : (after : Reader) → after.text ≡ now.text → ((c : Content) (m : ℕ) → names_of c kind ≡ map name_bytes seen → Walks model_rules now.text.now (at (name kind m) c) now.at (at (due_names kind m) (with_names kind c (names_of c kind ++ name_bytes x ∷ []))) after.at) → NamesSoFar kind cells n (i + 1) next before after
        names_more after same h = record {
          few = so_far.few;
          same = same ∙ so_far.same;
          counts = one_more ∙ ap (λ k. k + 1) so_far.counts;
          long = ap length is_names ∙ length-set list.names list.count x ∙ so_far.long;
          kept = kept_more;
          walks = λ c.
              let d = with_names kind c (listed list) in
              let e : with_names kind d (names_of d kind ++ name_bytes x ∷ []) ≡ with_names kind c (listed next) =
              names_again kind c (listed list) _ ∙ ap (λ ws. with_names kind c (ws ++ name_bytes x ∷ [])) (names_given kind c (listed list)) ∙ ap (with_names kind c) (sym more) in
              subst (λ f. Walks model_rules before.text.now (at (count (names kind)) (with_names kind c [])) before.at (at (due_names kind (n - (i + 1))) f) after.at) e
              (walks_on model_rules (at (count (names kind)) (with_names kind c [])) before (at (name kind (n - (i + 1))) d) now so_far.same (due c) _ after (h d (n - (i + 1)) (same_given c)));
        }
