-- A word that is read as a reserved word, a property, an action or a variable is spelled so.
use Rattle.std.proofs.Common.{◌≡◌, ℕ, List, [], ◌∷◌, Some, None, codes, Option, sym, refl, ap, ◌∙◌, subst, inl, inr, arith}
use Rattle.std.specs.Str.{bytes_eq}
use Rattle.std.proofs.lemmas.Slice.Eq.{bytes_eq-Decides}
use Rattle.std.proofs.lemmas.Bool.{cases_Bool, cond-true, cond-false}
use Rattle.words.specs.Words.{lookup}
use Rattle.formula.specs.declared.Node.TheVariants as nodes
use Rattle.formula.specs.declared.heads.Head.{Head}
use Rattle.formula.specs.declared.heads.Head.TheVariants as heads
use Rattle.formula.specs.declared.braces.BraceOrName.TheVariants.{Brace}
use Rattle.formula.specs.Heads.{spelled, among, either, plain_heads, exists_heads, always_heads, reserved_head_of, property_head_of, head_of}
use Rattle.formula.specs.Braces.{name_word_of, brace_or_name_of}
use Rattle.formula.specs.Grammar.{Names}

-- a head that is a word by itself
abbrev Reserved : Head → Type 0
Reserved (heads.Plain nodes.True) = Unit {0}
Reserved (heads.Plain (nodes.Property i)) = ⊥
Reserved (heads.Plain nodes.Not) = Unit {0}
Reserved (heads.Plain nodes.Or) = Unit {0}
Reserved (heads.Plain nodes.And) = Unit {0}
Reserved (heads.Plain (nodes.One w α)) = ⊥
Reserved (heads.Plain (nodes.Two w α)) = ⊥
Reserved (heads.Temporal t) = Unit {0}

abbrev AllReserved : List Head → Type 0
AllReserved [] = Unit {0}
AllReserved (h ∷ hs) = Reserved h × AllReserved hs

never : (A : Type 0) {X : Type 0} (x : X) → ◌≡◌ {A = Option X} None (Some x) → A
never A x h = let z : ◌≡◌ {A = ℕ} 0 1 = cc in absurd (omega arith)

among_is : (hs : List Head) → AllReserved hs → (w : List ℕ) (h : Head) → among hs w ≡ Some h → Reserved h × (w ≡ spelled h)
among_is [] all w h is = never _ h is
among_is (k ∷ hs) all w h is =
    elim (cases_Bool (bytes_eq w (spelled k))) [
      | inl e ↦ (let same : k ≡ h = (let z : Some k ≡ Some h = sym (cond-true _ _ _ e) ∙ is in cc) in (subst Reserved same all.0, (bytes_eq-Decides w (spelled k)).0 e ∙ ap spelled same))
      | inr e ↦ among_is hs all.1 w h (sym (cond-false _ _ _ e) ∙ is)
    ]

reserved_is : (w : List ℕ) (h : Head) → reserved_head_of w ≡ Some h → Reserved h × (w ≡ spelled h)
reserved_is w h is = first (among plain_heads w) refl is
  where
    second : (o : Option Head) → among exists_heads w ≡ o → either o (among always_heads w) ≡ Some h → Reserved h × (w ≡ spelled h)
    second None e is = among_is always_heads (tt, (tt, (tt, (tt, (tt, (tt, (tt, (tt, tt)))))))) w h is
    second (Some k) e is = among_is exists_heads (tt, (tt, (tt, (tt, (tt, (tt, (tt, (tt, tt)))))))) w h (e ∙ is)

    first : (o : Option Head) → among plain_heads w ≡ o → either o (either (among exists_heads w) (among always_heads w)) ≡ Some h → Reserved h × (w ≡ spelled h)
    first None e is = second (among exists_heads w) refl is
    first (Some k) e is = among_is plain_heads (tt, (tt, (tt, (tt, tt)))) w h (e ∙ is)

-- what a word that begins a formula is
abbrev pub Is : List (List ℕ) → List ℕ → Head → Type 0
Is properties w (heads.Plain nodes.True) = w ≡ codes "true"
Is properties w (heads.Plain (nodes.Property i)) = Names properties w i
Is properties w (heads.Plain nodes.Not) = w ≡ codes "not"
Is properties w (heads.Plain nodes.Or) = w ≡ codes "or"
Is properties w (heads.Plain nodes.And) = w ≡ codes "and"
Is properties w (heads.Plain (nodes.One u α)) = ⊥
Is properties w (heads.Plain (nodes.Two u α)) = ⊥
Is properties w (heads.Temporal t) = w ≡ spelled (heads.Temporal t)

reserved_so : (properties : List (List ℕ)) (w : List ℕ) (h : Head) → Reserved h × (w ≡ spelled h) → Is properties w h
reserved_so properties w (heads.Plain nodes.True) r = r.1
reserved_so properties w (heads.Plain (nodes.Property i)) r = absurd r.0
reserved_so properties w (heads.Plain nodes.Not) r = r.1
reserved_so properties w (heads.Plain nodes.Or) r = r.1
reserved_so properties w (heads.Plain nodes.And) r = r.1
reserved_so properties w (heads.Plain (nodes.One u α)) r = absurd r.0
reserved_so properties w (heads.Plain (nodes.Two u α)) r = absurd r.0
reserved_so properties w (heads.Temporal t) r = r.1

property_so : (properties : List (List ℕ)) (w : List ℕ) → reserved_head_of w ≡ None → (h : Head) (o : Option ℕ) → lookup w properties ≡ o → property_head_of o ≡ Some h → Is properties w h
property_so properties w free h None e is = never _ h is
property_so properties w free h (Some i) e is =
    let same : heads.Plain (nodes.Property i) ≡ h = cc in
    subst (Is properties w) same (record { free = free; named = e })

pub head_is : (properties : List (List ℕ)) (w : List ℕ) (h : Head) → head_of w properties ≡ Some h → Is properties w h
head_is properties w h is = by (reserved_head_of w) refl is
  where
    by : (o : Option Head) → reserved_head_of w ≡ o → either o (property_head_of (lookup w properties)) ≡ Some h → Is properties w h
    by None e is = property_so properties w e h (lookup w properties) refl is
    by (Some k) e is = reserved_so properties w h (reserved_is w h (e ∙ is))

-- the brace alone is read as one
pub brace_is : (brace w : List ℕ) (names : List (List ℕ)) → brace_or_name_of brace w names ≡ Some Brace → w ≡ brace
brace_is brace w names is =
    elim (cases_Bool (bytes_eq w brace)) [
      | inl e ↦ (bytes_eq-Decides w brace).0 e
      | inr e ↦ absurd (no_brace (lookup w names) (sym (cond-false _ _ _ e) ∙ is))
    ]
  where
    no_brace : (o : Option ℕ) → name_word_of o ≡ Some Brace → ⊥
    no_brace None h = let z : ◌≡◌ {A = ℕ} 0 1 = cc in omega arith
    no_brace (Some i) h = let z : ◌≡◌ {A = ℕ} 0 1 = cc in omega arith
