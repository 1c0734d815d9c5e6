-- A value means one thing, and what was read is whole.
use Rattle.std.proofs.Common.{◌≡◌, ℕ, zero, suc, ◌+◌, ◌-◌, ◌^◌, ◌<◌, ltb, List, [], ◌∷◌, length, replicate, Some, None, codes, Decides, Option, sym, refl, ap, ◌∙◌, subst, inl, inr, arith}
use lib.Bits.{bit_or, or_lt}
use Rattle.std.specs.Str.{bytes_eq}
use Rattle.std.proofs.lemmas.Nat.{pow_below, pow_pos}
use Rattle.std.proofs.lemmas.List.{append-nil, take_at}
use Rattle.std.proofs.lemmas.Bool.{cases_Bool, cond-true, cond-false, and_parts, and_from, leb-true, le-leb, lt-ltb, eqb-true, eq-eqb}
use Rattle.std.proofs.lemmas.Bool.Decides.{Decides-ltb, Decides-and}
use Rattle.logic.specs.Formulas as logic
use Rattle.words.specs.Words.{lookup}
use Rattle.words.proofs.Words.{never_both}
use Rattle.words.proofs.Lookups.{lookup_is}
use Rattle.formula.specs.declared.Formula.{Formula}
use Rattle.formula.specs.declared.Alpha.{Alpha}
use Rattle.formula.specs.declared.Alpha.TheVariants as kept
use Rattle.formula.specs.declared.Node.{Node}
use Rattle.formula.specs.declared.Node.TheVariants.{True, Property, Not, Or, And, One, Two}
use Rattle.formula.specs.declared.braces.BraceOrName.{BraceOrName}
use Rattle.formula.specs.declared.braces.BraceOrName.TheVariants.{Brace, Name}
use Rattle.formula.specs.Nodes.{alpha_of, arity, flat}
use Rattle.formula.specs.Braces.{name_word_of, brace_or_name_of, ActionsStand}
use Rattle.formula.specs.Grammar.{AlphaAt, Spells}
use Rattle.formula.specs.Wholes.{AlphaIn, NodeIn, InRange, Whole, SomeWhole, Meaning, blank_meaning, with_numbers, Means, built, alpha_in, node_in, covers, is_whole, first_of, meaning_of, Meanings, ReadWhole}
use Rattle.formula.proofs.Flats.{flat_injective, built_flat}
use Rattle.formula.proofs.GrammarWalks.{length_flat}
use Rattle.formula.proofs.SetBits.{with_all, code_is, some_code}
use Rattle.formula.proofs.Trees.{Trees, trees_down, trees_up, trees_none, trees_over, trees_ended, one_tree}
use Rattle.formula.proofs.WholeLoops.{counted_nodes, whole_tree}

-- a value is whole by one formula
once : (v : Formula) (f g : logic.Formula) → Whole v f → Whole v g → f ≡ g
once v f g a b = flat_injective f g (sym a.nodes ∙ b.nodes)

alpha_decides : (actions variables : ℕ) (α : Alpha) → Decides (alpha_in actions variables α) (AlphaIn actions variables α)
alpha_decides actions variables (kept.Variable y) = Decides-ltb y variables
alpha_decides actions variables (kept.Written c) = Decides-and (ltb 0 c) (ltb c (2 ^ actions)) (Decides-ltb 0 c) (Decides-ltb c (2 ^ actions))

node_decides : (actions variables properties : ℕ) (n : Node) → Decides (node_in actions variables properties n) (NodeIn actions variables properties n)
node_decides actions variables properties True = (λ _. tt, λ _. refl)
node_decides actions variables properties (Property p) = Decides-ltb p properties
node_decides actions variables properties Not = (λ _. tt, λ _. refl)
node_decides actions variables properties Or = (λ _. tt, λ _. refl)
node_decides actions variables properties And = (λ _. tt, λ _. refl)
node_decides actions variables properties (One w α) = alpha_decides actions variables α
node_decides actions variables properties (Two w α) = alpha_decides actions variables α

-- nodes are those of so many formulas exactly if the walk over them says so
covers_decides : (a v p : ℕ) (ns : List Node) (k : ℕ) → Decides (covers a v p k ns) (Trees a v p k ns)
covers_decides a v p [] k =
    (λ e. subst (λ j. Trees a v p j []) (sym (eqb-true k 0 e)) (trees_none a v p), λ t. eq-eqb k 0 (trees_ended a v p k t))
covers_decides a v p (n ∷ ns) zero =
    (λ e. absurd (let z : ◌≡◌ {A = ℕ} 0 1 = cc in omega arith), λ t. absurd (trees_over a v p n ns t))
covers_decides a v p (n ∷ ns) (suc k) =
    let less : suc k - 1 ≡ k = omega arith in
    let here = node_decides a v p n in
    let rest = subst (λ j. Decides (covers a v p (j + arity n) ns) (Trees a v p (k + arity n) ns)) (sym less) (covers_decides a v p ns (k + arity n)) in (
      λ e. (let both = and_parts _ _ (and_parts _ _ e).1 in trees_up a v p k n ns (record { here = here.0 both.0; parts = rest.0 both.1 })),
      λ t. (let parts = trees_down a v p k n ns t in and_from _ _ (lt-ltb 0 (suc k) (omega arith)) (and_from _ _ (here.1 parts.here) (rest.1 parts.parts))),
    )

tested : (v : Formula) → Decides (is_whole v) (SomeWhole v)
tested v =
    let walk = covers_decides v.actions v.variables.count v.properties (counted_nodes v) 1 in (
      λ e. (let both = and_parts _ _ e in let f = one_tree v.actions v.variables.count v.properties (counted_nodes v) (walk.0 both.1) in (f.0, record { many = leb-true _ _ both.0; nodes = f.1; range = f.2 })),
      λ w. and_from _ _ (le-leb _ _ w.1.many) (walk.1 (whole_tree v w)),
    )

-- the nodes of a whole value give its formula
built_whole : (v : Formula) (f : logic.Formula) → Whole v f → first_of (built (counted_nodes v)) ≡ f
built_whole v f w = ap (λ ns. first_of (built ns)) (w.nodes ∙ sym (append-nil (flat f))) ∙ ap first_of (built_flat f [])

computed : (v : Formula) → Means v (meaning_of v)
computed v =
    elim (cases_Bool (is_whole v)) [
      | inl e ↦ (let w = (tested v).0 e in inl (w.0, w.1, cond-true _ _ _ e ∙ ap (with_numbers v) (built_whole v w.0 w.1)))
      | inr e ↦ inr (λ f w. never_both (is_whole v) ((tested v).1 (f, w)) e, cond-false _ _ _ e)
    ]

one_meaning : (v : Formula) (m n : Meaning) → Means v m → Means v n → m ≡ n
one_meaning v m n (inl (f, whole, is)) (inl (g, other, js)) = is ∙ ap (with_numbers v) (once v f g whole other) ∙ sym js
one_meaning v m n (inl (f, whole, is)) (inr (none, js)) = absurd (none f whole)
one_meaning v m n (inr (none, is)) (inl (g, other, js)) = absurd (none g other)
one_meaning v m n (inr (none, is)) (inr (also, js)) = is ∙ sym js

pub meanings : Meanings
meanings = record { once = once; tested = tested; computed = computed; unique = λ v m h. one_meaning v m (meaning_of v) h (computed v) }

pub meaning_whole : (v : Formula) (f : logic.Formula) → Whole v f → meaning_of v ≡ with_numbers v f
meaning_whole v f w = one_meaning v (meaning_of v) (with_numbers v f) (computed v) (inl (f, w, refl))

pub meaning_blank : (v : Formula) → (SomeWhole v → ⊥) → meaning_of v ≡ blank_meaning
meaning_blank v none = one_meaning v (meaning_of v) blank_meaning (computed v) (inr (λ f w. none (f, w), refl))

-- the number of a name is below how many there are
name_below : (brace w : List ℕ) (names : List (List ℕ)) (i : ℕ) → brace_or_name_of brace w names ≡ Some (Name i) → i < length names
name_below brace w names i is =
    elim (cases_Bool (bytes_eq w brace)) [
      | inl e ↦ absurd (let h : ◌≡◌ {A = Option BraceOrName} (Some Brace) (Some (Name i)) = sym (cond-true _ _ _ e) ∙ is in let z : ◌≡◌ {A = ℕ} 0 1 = cc in omega arith)
      | inr e ↦ by (lookup w names) refl (sym (cond-false _ _ _ e) ∙ is)
    ]
  where
    by : (o : Option ℕ) → lookup w names ≡ o → name_word_of o ≡ Some (Name i) → i < length names
    by None e h = absurd (let z : ◌≡◌ {A = ℕ} 0 1 = cc in omega arith)
    by (Some j) e h = let same : j ≡ i = cc in subst (λ x. x < length names) same (lookup_is w names j e).0

module _ (text : List ℕ) (actions properties variables : List (List ℕ)) where
  set_below : (xs : List ℕ) (set p q : ℕ) → ActionsStand text actions xs p q → set < 2 ^ length actions → with_all set xs < 2 ^ length actions
  set_below [] set p q s low = low
  set_below (a ∷ xs) set p q s low =
      set_below xs (bit_or set (2 ^ a)) s.1 q s.4 (or_lt (length actions) set (2 ^ a) low (pow_below a (length actions) (name_below (codes "}") s.0 actions a s.3)))

  some_set : (xs : List ℕ) → 0 < length xs → 0 < with_all 0 xs
  some_set [] some = absurd (omega arith)
  some_set (a ∷ xs) some = let h = some_code a xs in omega arith

  alpha_inside : (α : logic.Alpha) (p q : ℕ) → AlphaAt text actions properties variables α p q → AlphaIn (length actions) (length variables) (alpha_of α)
  alpha_inside (logic.variable y) p q s = name_below (codes "{") s.0 variables y s.2
  alpha_inside (logic.written c) p q s =
      let b = s.2 in
      let is = code_is c b.listed b.bits in
      subst (λ x. (0 < x) × (x < 2 ^ length actions)) (sym is) (some_set b.listed b.some, set_below b.listed 0 s.0 q b.stand (pow_pos (length actions)))

  spelled_inside : (f : logic.Formula) (p q : ℕ) → Spells text actions properties variables f p q → InRange (length actions) (length variables) (length properties) f
  spelled_inside logic.truth p q s = tt
  spelled_inside (logic.property i) p q s = (lookup_is s.0 properties i s.2.named).0
  spelled_inside (logic.neg f) p q s = spelled_inside f s.0 q s.2
  spelled_inside (logic.or f g) p q s = (spelled_inside f s.0 s.2.0 s.2.1, spelled_inside g s.2.0 q s.2.2)
  spelled_inside (logic.and f g) p q s = (spelled_inside f s.0 s.2.0 s.2.1, spelled_inside g s.2.0 q s.2.2)
  spelled_inside (logic.one w α f) p q s = (alpha_inside α s.0 s.2.0 s.2.1, spelled_inside f s.2.0 q s.2.2)
  spelled_inside (logic.two w α f g) p q s =
      (alpha_inside α s.0 s.2.0 s.2.1, spelled_inside f s.2.0 s.2.2.0 s.2.2.1, spelled_inside g s.2.2.0 q s.2.2.2)

pub read_whole : ReadWhole
read_whole text actions properties c end s = record {
  many = s.many;
  nodes = take_at (flat c.formula) (replicate (64 - length (flat c.formula)) True) (logic.nodes c.formula) (length_flat c.formula);
  range = spelled_inside text actions properties c.names c.formula s.formula_from end s.spelled;
}
