-- What the words of a sheet have said so far, at each point of a walk, and how one more word adds to it.
use Rattle.std.proofs.Common.{◌≡◌, ℕ, zero, suc, ◌+◌, ◌<◌, List, [], ◌∷◌, ◌++◌, map, length, get_or, Some, None, Option, sym, refl, ap, ◌∙◌, subst, arith}
use Rattle.std.specs.List.{flat_map, AllByRecursion}
use Rattle.std.proofs.lemmas.List.{length_push, map_push, flat_map_more}
use Rattle.logic.specs.Table.{Arc, Fits}
use Rattle.model.specs.declared.names.Names.{Names}
use Rattle.model.specs.declared.names.Names.TheVariants.{States, Actions, Properties}
use Rattle.model.specs.Content.{Content, Label, Section, names, labels, arcs, names_of}
use Rattle.model.specs.Rules.{Due, Point, count, name, label_state, label_property, arc_from, arc_action, arc_to, nothing, behind, due_names, due_labels, due_arcs, with_names, with_labels, with_arcs}
use Rattle.model.specs.Grammar.{Item, number, word, Spells, label_items, arc_items, Once, Given}

-- a section of which so many are left to come
abbrev pub part : Names → Content → ℕ → List Item
part k c left = number (names k) (length (names_of c k) + left) ∷ map word (names_of c k)

abbrev pub label_part : Content → ℕ → List Item
label_part c left = number labels (length c.labels + left) ∷ flat_map (label_items c) c.labels

abbrev pub arc_part : Content → ℕ → List Item
arc_part c left = number arcs (length c.arcs + left) ∷ flat_map (arc_items c) c.arcs

-- what stands before a section of names, before the labels, before the arcs
abbrev pub before : Names → Content → List Item
before States c = []
before Actions c = part States c 0
before Properties c = part States c 0 ++ part Actions c 0

abbrev pub names_part : Content → List Item
names_part c = before Properties c ++ part Properties c 0

abbrev pub labels_part : Content → List Item
labels_part c = names_part c ++ label_part c 0

abbrev pub state_word : Content → ℕ → List Item
state_word c s = word (get_or c.states s []) ∷ []

abbrev pub action_word : Content → ℕ → List Item
action_word c a = word (get_or c.actions a []) ∷ []

abbrev pub so_far : Due → Content → List Item
so_far (count (names k)) c = before k c
so_far (count labels) c = names_part c
so_far (count arcs) c = labels_part c
so_far (name k m) c = before k c ++ part k c (suc m)
so_far (label_state m) c = names_part c ++ label_part c (suc m)
so_far (label_property m s) c = (names_part c ++ label_part c (suc m)) ++ state_word c s
so_far (arc_from m) c = labels_part c ++ arc_part c (suc m)
so_far (arc_action m s) c = (labels_part c ++ arc_part c (suc m)) ++ state_word c s
so_far (arc_to m s a) c = ((labels_part c ++ arc_part c (suc m)) ++ state_word c s) ++ action_word c a
so_far nothing c = labels_part c ++ arc_part c 0

-- nothing has been read from a section on
abbrev pub fresh : Section → Content → Type 0
fresh arcs c = c.arcs ≡ []
fresh labels c = (c.labels ≡ []) × (c.arcs ≡ [])
fresh (names Properties) c = (c.properties ≡ []) × ((c.labels ≡ []) × (c.arcs ≡ []))
fresh (names Actions) c = (c.actions ≡ []) × ((c.properties ≡ []) × ((c.labels ≡ []) × (c.arcs ≡ [])))
fresh (names States) c = (c.states ≡ []) × ((c.actions ≡ []) × ((c.properties ≡ []) × ((c.labels ≡ []) × (c.arcs ≡ []))))

abbrev pub waits : Due → Content → Type 0
waits (count k) c = fresh k c
waits (name k m) c = fresh (behind k) c
waits (label_state m) c = c.arcs ≡ []
waits (label_property m s) c = (c.arcs ≡ []) × (s < length c.states)
waits (arc_from m) c = Unit {0}
waits (arc_action m s) c = s < length c.states
waits (arc_to m s a) c = (s < length c.states) × (a < length c.actions)
waits nothing c = Unit {0}

pub record Sound (c : Content) : Type 0 where
  pub given : (k : Names) → Given k (names_of c k)
  pub labels_inside : AllByRecursion (λ l. (l.state < length c.states) × (l.property < length c.properties)) c.labels
  pub labels_once : Once c.labels
  pub arcs_inside : AllByRecursion (Fits (length c.states) (length c.actions)) c.arcs
  pub arcs_once : Once c.arcs

pub record Told (text : List ℕ) (s : Point) (p : ℕ) : Type 0 where
  pub spells : Spells text 0 (so_far s.due s.content) p
  pub waiting : waits s.due s.content
  pub sound : Sound s.content

pub on_option : {X R : Type 0} (o : Option X) → ((x : X) → o ≡ Some x → R) → (o ≡ None → R) → R
on_option (Some x) f g = f x refl
on_option None f g = g refl

-- the words at a point, by how many are left
pub names_so_far : (k : Names) (n : ℕ) (c : Content) → so_far (due_names k n) c ≡ before k c ++ part k c n
names_so_far States zero c = refl
names_so_far Actions zero c = refl
names_so_far Properties zero c = refl
names_so_far k (suc n) c = refl

pub labels_so_far : (n : ℕ) (c : Content) → so_far (due_labels n) c ≡ names_part c ++ label_part c n
labels_so_far zero c = refl
labels_so_far (suc n) c = refl

pub arcs_so_far : (n : ℕ) (c : Content) → so_far (due_arcs n) c ≡ labels_part c ++ arc_part c n
arcs_so_far zero c = refl
arcs_so_far (suc n) c = refl

pub names_wait : (k : Names) (n : ℕ) (c : Content) → fresh (behind k) c → waits (due_names k n) c
names_wait k zero c h = h
names_wait k (suc n) c h = h

pub labels_wait : (n : ℕ) (c : Content) → c.arcs ≡ [] → waits (due_labels n) c
labels_wait zero c h = h
labels_wait (suc n) c h = h

pub arcs_wait : (n : ℕ) (c : Content) → waits (due_arcs n) c
arcs_wait zero c = tt
arcs_wait (suc n) c = tt

pub fresh_names : (k : Names) (c : Content) → fresh (names k) c → (names_of c k ≡ []) × fresh (behind k) c
fresh_names States c h = h
fresh_names Actions c h = h
fresh_names Properties c h = h

pub fresh_tail : (k : Names) (c : Content) → fresh (behind k) c → (c.labels ≡ []) × (c.arcs ≡ [])
fresh_tail States c h = h.1.1
fresh_tail Actions c h = h.1
fresh_tail Properties c h = h

-- another list of names for a section
pub before_with : (k : Names) (c : Content) (ws : List (List ℕ)) → before k (with_names k c ws) ≡ before k c
before_with States c ws = refl
before_with Actions c ws = refl
before_with Properties c ws = refl

pub part_with : (k : Names) (c : Content) (ws : List (List ℕ)) (n : ℕ) → part k (with_names k c ws) n ≡ number (names k) (length ws + n) ∷ map word ws
part_with States c ws n = refl
part_with Actions c ws n = refl
part_with Properties c ws n = refl

pub fresh_with : (k : Names) (c : Content) (ws : List (List ℕ)) → fresh (behind k) c → fresh (behind k) (with_names k c ws)
fresh_with States c ws h = h
fresh_with Actions c ws h = h
fresh_with Properties c ws h = h

pub given_with : (k : Names) (c : Content) (ws : List (List ℕ)) → ((j : Names) → Given j (names_of c j)) → Given k ws → (j : Names) → Given j (names_of (with_names k c ws) j)
given_with States c ws all g States = g
given_with States c ws all g Actions = all Actions
given_with States c ws all g Properties = all Properties
given_with Actions c ws all g States = all States
given_with Actions c ws all g Actions = g
given_with Actions c ws all g Properties = all Properties
given_with Properties c ws all g States = all States
given_with Properties c ws all g Actions = all Actions
given_with Properties c ws all g Properties = g

-- another content with the same names
pub same_given : (c c' : Content) → c.states ≡ c'.states → c.actions ≡ c'.actions → c.properties ≡ c'.properties → ((j : Names) → Given j (names_of c j)) → (j : Names) → Given j (names_of c' j)
same_given c c' s a p all States = subst (Given States) s (all States)
same_given c c' s a p all Actions = subst (Given Actions) a (all Actions)
same_given c c' s a p all Properties = subst (Given Properties) p (all Properties)

pub all_none : {X : Type 0} (P : X → Type 0) (xs : List X) → xs ≡ [] → AllByRecursion P xs
all_none P xs e = subst (AllByRecursion P) (sym e) tt

pub once_none : {X : Type 0} (xs : List X) → xs ≡ [] → Once xs
once_none xs e = subst Once (sym e) tt

pub sound_with : (k : Names) (c : Content) (ws : List (List ℕ)) → Sound c → c.labels ≡ [] → c.arcs ≡ [] → Given k ws → Sound (with_names k c ws)
sound_with States c ws s l e g =
    record { given = given_with States c ws s.given g; labels_inside = all_none _ c.labels l; labels_once = s.labels_once; arcs_inside = all_none _ c.arcs e; arcs_once = s.arcs_once }
sound_with Actions c ws s l e g =
    record { given = given_with Actions c ws s.given g; labels_inside = all_none _ c.labels l; labels_once = s.labels_once; arcs_inside = all_none _ c.arcs e; arcs_once = s.arcs_once }
sound_with Properties c ws s l e g =
    record { given = given_with Properties c ws s.given g; labels_inside = all_none _ c.labels l; labels_once = s.labels_once; arcs_inside = all_none _ c.arcs e; arcs_once = s.arcs_once }

-- one more name, label or arc, and one fewer to come
pub part_more : (k : Names) (c : Content) (w : List ℕ) (m : ℕ) → part k (with_names k c (names_of c k ++ w ∷ [])) m ≡ part k c (suc m) ++ word w ∷ []
part_more k c w m =
    let ws = names_of c k in
    let many : length (ws ++ w ∷ []) + m ≡ length ws + suc m = omega (arith, length_push ws w) in
    part_with k c (ws ++ w ∷ []) m
    ∙ ap (λ n. number (names k) n ∷ map word (ws ++ w ∷ [])) many
    ∙ ap (λ is. number (names k) (length ws + suc m) ∷ is) (map_push word ws w)

pub label_part_more : (c : Content) (l : Label) (m : ℕ) → label_part (with_labels c (c.labels ++ l ∷ [])) m ≡ label_part c (suc m) ++ label_items c l
label_part_more c l m =
    let ls = c.labels in
    let many : length (ls ++ l ∷ []) + m ≡ length ls + suc m = omega (arith, length_push ls l) in
    ap (λ n. number labels n ∷ flat_map (label_items c) (ls ++ l ∷ [])) many
    ∙ ap (λ is. number labels (length ls + suc m) ∷ is) (sym (flat_map_more (label_items c) [] ls l))

pub arc_part_more : (c : Content) (e : Arc) (m : ℕ) → arc_part (with_arcs c (c.arcs ++ e ∷ [])) m ≡ arc_part c (suc m) ++ arc_items c e
arc_part_more c e m =
    let es = c.arcs in
    let many : length (es ++ e ∷ []) + m ≡ length es + suc m = omega (arith, length_push es e) in
    ap (λ n. number arcs n ∷ flat_map (arc_items c) (es ++ e ∷ [])) many
    ∙ ap (λ is. number arcs (length es + suc m) ∷ is) (sym (flat_map_more (arc_items c) [] es e))
