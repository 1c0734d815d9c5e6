-- A walk to the end of a sheet, from where a formula is due, goes over one formula first.
use Rattle.std.proofs.Common.{◌≡◌, ℕ, zero, suc, ◌+◌, ◌<◌, ◌≤◌, true, List, [], ◌∷◌, ◌++◌, length, Some, None, Option, sym, refl, ap, ◌∙◌, subst, inl, inr, arith, length-append}
use Rattle.std.proofs.lemmas.List.{append_assoc, length_push}
use Rattle.std.proofs.lemmas.Bool.{cases_lt}
use Rattle.logic.specs.Formulas as logic
use Rattle.words.specs.Words.{bytes_of}
use Rattle.words.specs.Walks.{Step}
use Rattle.formula.specs.declared.Node.{Node}
use Rattle.formula.specs.declared.Node.TheVariants as nodes
use Rattle.formula.specs.declared.heads.Temporal.TheVariants as temporal
use Rattle.formula.specs.declared.heads.Head.{Head}
use Rattle.formula.specs.declared.heads.Head.TheVariants as heads
use Rattle.formula.specs.Nodes.{alpha_of, flat}
use Rattle.formula.specs.Heads.{spelled_one, spelled_two, head_of}
use Rattle.formula.specs.Rules.{Point, begun, over, head_meets, head_after, formula_rules}
use Rattle.formula.specs.Reading.{due_parts}
use Rattle.formula.specs.Wholes.{one_back, two_back}
use Rattle.formula.specs.Grammar.{Spells}
use Rattle.formula.proofs.GrammarWalks.{length_flat}
use Rattle.formula.proofs.GrammarSplits.{one_round_trip, two_round_trip, Rest, stuck, the_word, split_alpha}
use Rattle.formula.proofs.HeadWords.{Is, head_is}
use Rattle.formula.specs.Braces.{Stands}

module _ (text : List ℕ) (actions properties : List (List ℕ)) (T : Point) (q : ℕ) (done : over T.due ≡ true) (names : List (List ℕ)) where
  pub record Split (n d : ℕ) (ds : List ℕ) (before : List Node) (p : ℕ) : Type 0 where
    pub formula : logic.Formula
    pub end : ℕ
    pub left : ℕ
    pub less : left < n
    pub spelled : Spells text actions properties names formula p end
    pub deep : d + logic.depth formula ≤ 13
    pub many : length before + logic.nodes formula ≤ 64
    pub rest : Rest text actions properties T q done left (due_parts ds names (before ++ flat formula)) end

  -- what is left behind a node and its part, or its two parts
  after_one : (left : ℕ) (ds : List ℕ) (before : List Node) (node : Node) (xs : List Node) (end : ℕ) → Rest text actions properties T q done left (due_parts ds names ((before ++ node ∷ []) ++ xs)) end → Rest text actions properties T q done left (due_parts ds names (before ++ (node ∷ xs))) end
  after_one left ds before node xs end w = subst (λ ns. Rest text actions properties T q done left (due_parts ds names ns) end) (append_assoc before (node ∷ []) xs) w

  after_two : (left : ℕ) (ds : List ℕ) (before : List Node) (node : Node) (xs ys : List Node) (end : ℕ) → Rest text actions properties T q done left (due_parts ds names (((before ++ node ∷ []) ++ xs) ++ ys)) end → Rest text actions properties T q done left (due_parts ds names (before ++ (node ∷ (xs ++ ys)))) end
  after_two left ds before node xs ys end w =
      subst (λ ns. Rest text actions properties T q done left (due_parts ds names ns) end) (append_assoc (before ++ node ∷ []) xs ys ∙ append_assoc before (node ∷ []) (xs ++ ys)) w

  -- formulas over shorter walks
  abbrev Shorter : ℕ → Type 0
  Shorter k = (n : ℕ) → n ≤ k → (d : ℕ) (ds : List ℕ) (before : List Node) (p : ℕ) → Rest text actions properties T q done n (due_parts (d ∷ ds) names before) p → Split n d ds before p

  two_of : (k n : ℕ) → n ≤ k → Shorter k → (d : ℕ) (ds : List ℕ) (before : List Node) (m : ℕ) (node : Node) → Rest text actions properties T q done n (due_parts ((d + 1) ∷ (d + 1) ∷ ds) names (before ++ node ∷ [])) m → (f : Split n (d + 1) ((d + 1) ∷ ds) (before ++ node ∷ []) m) × Split f.left (d + 1) ds ((before ++ node ∷ []) ++ flat f.formula) f.end
  two_of k n le shorter d ds before m node w =
      let f = shorter n le (d + 1) ((d + 1) ∷ ds) (before ++ node ∷ []) m w in
      (f, shorter f.left (omega (arith, f.less)) (d + 1) ds ((before ++ node ∷ []) ++ flat f.formula) f.end f.rest)

  by_head : (k n : ℕ) → n ≤ k → Shorter k → (d : ℕ) (ds : List ℕ) (before : List Node) (p m : ℕ) (w : List ℕ) → Stands text p w m → d ≤ 12 → length before < 64 → (h : Head) → Is properties w h → Rest text actions properties T q done n (begun h d ds names before) m → Split (suc n) d ds before p
  by_head k n le shorter d ds before p m w s low few (heads.Plain nodes.True) is r = record {
    formula = logic.truth;
    end = m;
    left = n;
    less = omega arith;
    spelled = subst (λ v. Stands text p v m) is s;
    deep = omega arith;
    many = omega arith;
    rest = r;
  }
  by_head k n le shorter d ds before p m w s low few (heads.Plain (nodes.Property i)) is r = record {
    formula = logic.property i;
    end = m;
    left = n;
    less = omega arith;
    spelled = (w, s, is);
    deep = omega arith;
    many = omega arith;
    rest = r;
  }
  by_head k n le shorter d ds before p m w s low few (heads.Plain nodes.Not) is r =
      let f = shorter n le (d + 1) ds (before ++ nodes.Not ∷ []) m r in
      let more = length_push before nodes.Not in
      record {
        formula = logic.neg f.formula;
        end = f.end;
        left = f.left;
        less = omega (arith, f.less);
        spelled = (m, subst (λ v. Stands text p v m) is s, f.spelled);
        deep = omega (arith, f.deep);
        many = omega (arith, f.many);
        rest = after_one f.left ds before nodes.Not (flat f.formula) f.end f.rest;
      }
  by_head k n le shorter d ds before p m w s low few (heads.Plain nodes.Or) is r =
      let two = two_of k n le shorter d ds before m nodes.Or r in
      let f = two.0 in
      let g = two.1 in
      let more = length_push before nodes.Or in
      let more2 = length-append (before ++ nodes.Or ∷ []) (flat f.formula) in
      let long = length_flat f.formula in
      record {
        formula = logic.or f.formula g.formula;
        end = g.end;
        left = g.left;
        less = omega (arith, f.less, g.less);
        spelled = (m, subst (λ v. Stands text p v m) is s, (f.end, f.spelled, g.spelled));
        deep = omega (arith, f.deep, g.deep);
        many = omega (arith, f.many, g.many);
        rest = after_two g.left ds before nodes.Or (flat f.formula) (flat g.formula) g.end g.rest;
      }
  by_head k n le shorter d ds before p m w s low few (heads.Plain nodes.And) is r =
      let two = two_of k n le shorter d ds before m nodes.And r in
      let f = two.0 in
      let g = two.1 in
      let more = length_push before nodes.And in
      let more2 = length-append (before ++ nodes.And ∷ []) (flat f.formula) in
      let long = length_flat f.formula in
      record {
        formula = logic.and f.formula g.formula;
        end = g.end;
        left = g.left;
        less = omega (arith, f.less, g.less);
        spelled = (m, subst (λ v. Stands text p v m) is s, (f.end, f.spelled, g.spelled));
        deep = omega (arith, f.deep, g.deep);
        many = omega (arith, f.many, g.many);
        rest = after_two g.left ds before nodes.And (flat f.formula) (flat g.formula) g.end g.rest;
      }
  by_head k n le shorter d ds before p m w s low few (heads.Plain (nodes.One u α)) is r = absurd is
  by_head k n le shorter d ds before p m w s low few (heads.Plain (nodes.Two u α)) is r = absurd is
  by_head k n le shorter d ds before p m w s low few (heads.Temporal (temporal.One u)) is r =
      let α = split_alpha text actions properties T q done (temporal.One u) ((d + 1) ∷ ds) names before n m r in
      let node = nodes.One u (alpha_of α.alpha) in
      let f = shorter α.left (omega (arith, α.less)) (d + 1) ds (before ++ node ∷ []) α.end α.rest in
      let more = length_push before node in
      record {
        formula = logic.one (one_back u) α.alpha f.formula;
        end = f.end;
        left = f.left;
        less = omega (arith, f.less, α.less);
        spelled = (m, subst (λ v. Stands text p v m) (is ∙ ap spelled_one (sym (one_round_trip u))) s, (α.end, α.stand, f.spelled));
        deep = omega (arith, f.deep);
        many = omega (arith, f.many);
        rest = subst (λ v. Rest text actions properties T q done f.left (due_parts ds names (before ++ (nodes.One v (alpha_of α.alpha) ∷ flat f.formula))) f.end) (sym (one_round_trip u)) (after_one f.left ds before node (flat f.formula) f.end f.rest);
      }
  by_head k n le shorter d ds before p m w s low few (heads.Temporal (temporal.Two u)) is r =
      let α = split_alpha text actions properties T q done (temporal.Two u) ((d + 1) ∷ (d + 1) ∷ ds) names before n m r in
      let node = nodes.Two u (alpha_of α.alpha) in
      let two = two_of k α.left (omega (arith, α.less)) shorter d ds before α.end node α.rest in
      let f = two.0 in
      let g = two.1 in
      let more = length_push before node in
      let more2 = length-append (before ++ node ∷ []) (flat f.formula) in
      let long = length_flat f.formula in
      record {
        formula = logic.two (two_back u) α.alpha f.formula g.formula;
        end = g.end;
        left = g.left;
        less = omega (arith, f.less, g.less, α.less);
        spelled = (m, subst (λ v. Stands text p v m) (is ∙ ap spelled_two (sym (two_round_trip u))) s, (α.end, α.stand, (f.end, f.spelled, g.spelled)));
        deep = omega (arith, f.deep, g.deep);
        many = omega (arith, f.many, g.many);
        rest = subst (λ v. Rest text actions properties T q done g.left (due_parts ds names (before ++ (nodes.Two v (alpha_of α.alpha) ∷ (flat f.formula ++ flat g.formula)))) g.end) (sym (two_round_trip u)) (after_two g.left ds before node (flat f.formula) (flat g.formula) g.end g.rest);
      }

  by_word : (k n : ℕ) → n ≤ k → Shorter k → (d : ℕ) (ds : List ℕ) (before : List Node) (p : ℕ) → (u : Point) (m : ℕ) (a : Step (formula_rules actions properties) text (due_parts (d ∷ ds) names before) p u m) → Rest text actions properties T q done n u m → (o : Option Head) → head_of (bytes_of text a.start m) properties ≡ o → Split (suc n) d ds before p
  by_word k n le shorter d ds before p u m a r None is = absurd (a.fits 7 (subst (λ o. head_meets d (length before) o 7) (sym is) (inl refl)))
  by_word k n le shorter d ds before p u m a r (Some h) is =
      let low : d ≤ 12 = elim (cases_lt 12 d) [ inl l ↦ absurd (a.fits 11 (subst (λ o. head_meets d (length before) o 11) (sym is) (inl (refl, l)))) | inr l ↦ l ] in
      let few : length before < 64 = elim (cases_lt (length before) 64) [ inl l ↦ l | inr l ↦ absurd (a.fits 12 (subst (λ o. head_meets d (length before) o 12) (sym is) (inr (refl, l)))) ] in
      by_head k n le shorter d ds before p m (bytes_of text a.start m) (the_word text actions properties T q done (due_parts (d ∷ ds) names before) p u m (bytes_of text a.start m) a refl) low few h (head_is properties (bytes_of text a.start m) h is)
      (subst (λ v. Rest text actions properties T q done n v m) (sym a.goes ∙ ap (λ o. head_after o d ds (due_parts (d ∷ ds) names before)) is) r)

  -- By the length of the walk. The word that is due says what the formula is: it fits, so it names something, stands at most
  -- twelve deep and is at most the 64th node. Behind it (and what a temporal word speaks over) stand its parts, and the walk
  -- from there is shorter. The nodes that a walk has added are those of the formulas that it went over.
  split_within : (k : ℕ) → Shorter k
  split_within k zero le d ds before p w = absurd (stuck text actions properties T q done (due_parts (d ∷ ds) names before) refl w.0)
  split_within zero (suc n) le d ds before p w = absurd (omega arith)
  split_within (suc k) (suc n) le d ds before p w =
      by_word k n (omega arith) (split_within k) d ds before p w.0 w.1 w.2 w.3 (head_of (bytes_of text w.2.start w.1) properties) refl

  pub split_formula : (n d : ℕ) (ds : List ℕ) (before : List Node) (p : ℕ) → Rest text actions properties T q done n (due_parts (d ∷ ds) names before) p → Split n d ds before p
  split_formula n d ds before p w = split_within n n (omega arith) d ds before p w
