-- The words of one node of a formula.
use Rattle.std.proofs.Common.{◌≡◌, ℕ, ◌<◌, ◌≤◌, true, false, List, ◌∷◌, length, Some, None, Option, sym, refl, ap, ◌∙◌, subst, inl, inr, arith}
use Rattle.words.specs.Words.{WordAt, Clean, bytes_of}
use Rattle.words.specs.Walks.{First, Walks, Leaves}
use Rattle.words.proofs.Walks.{Embeds, walks_embed}
use Rattle.formula.specs.declared.Alpha.{Alpha}
use Rattle.formula.specs.declared.Alpha.TheVariants as alphas
use Rattle.formula.specs.declared.Node.{Node}
use Rattle.formula.specs.declared.heads.Temporal.{Temporal}
use Rattle.formula.specs.declared.heads.Temporal.TheVariants as temporal
use Rattle.formula.specs.declared.heads.Head.{Head}
use Rattle.formula.specs.declared.braces.BraceOrName.TheVariants.{Brace, Name}
use Rattle.formula.specs.Nodes.{arity}
use Rattle.formula.specs.Heads.{head_of}
use Rattle.formula.specs.Braces.{Braces, inside, closed, brace_rules, brace_over}
use Rattle.formula.specs.Rules.{alpha_word_of, node_of, temporal_parts, below, put, begun, in_braces, head_meets, head_after, alpha_meets, alpha_after, over, formula_rules}
use Rattle.formula.specs.Reading.{due_parts, due_alpha}
use Rattle.formula.proofs.Steps.{word_goes, word_stops, leaves_embed}

pub same_parts : (t : Temporal) (α : Alpha) → arity (node_of t α) ≡ temporal_parts t
same_parts (temporal.One w) α = refl
same_parts (temporal.Two w) α = refl

module _ (actions properties names : List (List ℕ)) (text : List ℕ) (before : List Node) (p start end : ℕ) (found : WordAt text p start end × Clean text start end) where
  module _ (d : ℕ) (ds : List ℕ) where
    first_head : (o : Option Head) → o ≡ head_of (bytes_of text start end) properties → (n : ℕ) → First (head_meets d (length before) o) n → Leaves (formula_rules actions properties) text (due_parts (d ∷ ds) names before) p n start end
    first_head o is n first =
        word_stops (formula_rules actions properties) text (due_parts (d ∷ ds) names before) p refl start end found n
        (subst (λ o. First (head_meets d (length before) o) n) is first)

    pub head_unknown : None ≡ head_of (bytes_of text start end) properties → Leaves (formula_rules actions properties) text (due_parts (d ∷ ds) names before) p 7 start end
    head_unknown is = first_head None is 7 (record { met = inl refl; least = below_seven })
      where
        below_seven : (m : ℕ) → m < 7 → head_meets d (length before) None m → ⊥
        below_seven m lt (inl h) = omega arith
        below_seven m lt (inr (inl h)) = omega arith
        below_seven m lt (inr (inr h)) = omega arith

    pub head_deep : (h : Head) → Some h ≡ head_of (bytes_of text start end) properties → 12 < d → Leaves (formula_rules actions properties) text (due_parts (d ∷ ds) names before) p 11 start end
    head_deep h is deep = first_head (Some h) is 11 (record { met = inl (refl, deep); least = below_eleven })
      where
        below_eleven : (m : ℕ) → m < 11 → head_meets d (length before) (Some h) m → ⊥
        below_eleven m lt (inl h) = omega arith
        below_eleven m lt (inr h) = omega arith

    pub head_many : (h : Head) → Some h ≡ head_of (bytes_of text start end) properties → d ≤ 12 → 64 ≤ length before → Leaves (formula_rules actions properties) text (due_parts (d ∷ ds) names before) p 12 start end
    head_many h is flat many = first_head (Some h) is 12 (record { met = inr (refl, many); least = below_twelve })
      where
        below_twelve : (m : ℕ) → m < 12 → head_meets d (length before) (Some h) m → ⊥
        below_twelve m lt (inl h) = omega arith
        below_twelve m lt (inr h) = omega arith

    fits_head : (h : Head) → d ≤ 12 → length before < 64 → (n : ℕ) → head_meets d (length before) (Some h) n → ⊥
    fits_head h flat few n (inl m) = omega arith
    fits_head h flat few n (inr m) = omega arith

    pub head_goes : (h : Head) → Some h ≡ head_of (bytes_of text start end) properties → d ≤ 12 → length before < 64 → Walks (formula_rules actions properties) text (due_parts (d ∷ ds) names before) p (begun h d ds names before) end
    head_goes h is flat few =
        word_goes (formula_rules actions properties) text (due_parts (d ∷ ds) names before) p refl start end found (begun h d ds names before)
        (λ n m. fits_head h flat few n (subst (λ o. head_meets d (length before) o n) (sym is) m)) (ap (λ o. head_after o d ds (due_parts (d ∷ ds) names before)) (sym is))

  module _ (t : Temporal) (ds : List ℕ) where
    pub alpha_unknown : None ≡ alpha_word_of (bytes_of text start end) names → Leaves (formula_rules actions properties) text (due_alpha t ds names before) p 7 start end
    alpha_unknown is =
        word_stops (formula_rules actions properties) text (due_alpha t ds names before) p refl start end found 7
        (subst (λ o. First (alpha_meets o) 7) is (record { met = refl; least = λ m lt h. omega (arith, h) }))

    pub alpha_variable : (y : ℕ) → Some (Name y) ≡ alpha_word_of (bytes_of text start end) names → Walks (formula_rules actions properties) text (due_alpha t ds names before) p (put (node_of t (alphas.Variable y)) ds names before) end
    alpha_variable y is =
        word_goes (formula_rules actions properties) text (due_alpha t ds names before) p refl start end found (put (node_of t (alphas.Variable y)) ds names before)
        (λ n m. subst (λ o. alpha_meets o n) (sym is) m) (ap (λ o. alpha_after o t ds (due_alpha t ds names before)) (sym is))

    pub alpha_opens : Some Brace ≡ alpha_word_of (bytes_of text start end) names → Walks (formula_rules actions properties) text (due_alpha t ds names before) p (in_braces t ds names before (inside 0)) end
    alpha_opens is =
        word_goes (formula_rules actions properties) text (due_alpha t ds names before) p refl start end found (in_braces t ds names before (inside 0))
        (λ n m. subst (λ o. alpha_meets o n) (sym is) m) (ap (λ o. alpha_after o t ds (due_alpha t ds names before)) (sym is))

-- The words between braces are the same there and inside a formula.
module _ (actions properties names : List (List ℕ)) (text : List ℕ) (before : List Node) (t : Temporal) (ds : List ℕ) where
  never : (A : Type 0) → true ≡ false → A
  never A h = let z : ◌≡◌ {A = ℕ} 0 1 = cc in absurd (omega arith)

  due_there : (b : Braces) → brace_over b ≡ false → over (in_braces t ds names before b).due ≡ false
  due_there (inside set) h = refl
  due_there (closed set) h = never _ h

  meets_there : (b : Braces) (w : List ℕ) (n : ℕ) → brace_over b ≡ false → (brace_rules actions).meets b w n → (formula_rules actions properties).meets (in_braces t ds names before b) w n
  meets_there (inside set) w n h m = m
  meets_there (closed set) w n h m = never _ h

  met_there : (b : Braces) (w : List ℕ) (n : ℕ) → brace_over b ≡ false → (formula_rules actions properties).meets (in_braces t ds names before b) w n → (brace_rules actions).meets b w n
  met_there (inside set) w n h m = m
  met_there (closed set) w n h m = never _ h

  goes_there : (b : Braces) (w : List ℕ) → brace_over b ≡ false → (formula_rules actions properties).after (in_braces t ds names before b) w ≡ in_braces t ds names before ((brace_rules actions).after b w)
  goes_there (inside set) w h = refl
  goes_there (closed set) w h = never _ h

  embeds : Embeds (brace_rules actions) (formula_rules actions properties) (in_braces t ds names before) text
  embeds = record { due = due_there; meets = meets_there; met = met_there; goes = λ b w h f. goes_there b w h }

  pub braces_walk : (b : Braces) (p : ℕ) (c : Braces) (q : ℕ) → Walks (brace_rules actions) text b p c q → Walks (formula_rules actions properties) text (in_braces t ds names before b) p (in_braces t ds names before c) q
  braces_walk = walks_embed (brace_rules actions) (formula_rules actions properties) (in_braces t ds names before) text embeds

  pub braces_leave : (b : Braces) (p n at end : ℕ) → Leaves (brace_rules actions) text b p n at end → Leaves (formula_rules actions properties) text (in_braces t ds names before b) p n at end
  braces_leave = leaves_embed (brace_rules actions) (formula_rules actions properties) (in_braces t ds names before) text embeds

-- the point behind a temporal word and what it speaks over, by its node
pub placed : (t : Temporal) (α : Alpha) (n : Node) → n ≡ node_of t α → (d : ℕ) (ds : List ℕ) (names : List (List ℕ)) (before : List Node) → put (node_of t α) (below (temporal_parts t) d ds) names before ≡ put n (below (arity n) d ds) names before
placed t α n is d ds names before =
    ap (λ k. put (node_of t α) (below k d ds) names before) (sym (same_parts t α)) ∙ ap (λ m. put m (below (arity m) d ds) names before) (sym is)
