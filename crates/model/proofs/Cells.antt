-- Cells behind a list: blank ones up to a fixed number.
use Rattle.std.proofs.Common.{◌≡◌, ℕ, suc, ◌+◌, ◌-◌, ◌<◌, ◌≤◌, List, [], ◌∷◌, ◌++◌, map, length, take, set, replicate, sym, refl, ap, ◌∙◌, arith}
use lib.Seq.{take-append-add}
use Rattle.std.proofs.lemmas.List.{append_assoc, length-append, length-replicate, length-map, length-take, length_push, set-append_right, take-replicate, take_at}
use Rattle.model.specs.Values.{padded}

-- a cell that is written behind the others takes the place of a blank one
pub padded_more : {X : Type 0} (n : ℕ) (blank : X) (xs : List X) (x : X) → length xs < n → set (padded n blank xs) (length xs) x ≡ padded n blank (xs ++ x ∷ [])
padded_more n blank xs x lt =
    let many : n - length xs ≡ suc (n - length (xs ++ x ∷ [])) = omega (arith, length_push xs x) in
    let first : length xs - length xs ≡ 0 = omega arith in
    set-append_right xs (replicate (n - length xs) blank) (length xs) (length xs) x refl (omega arith)
    ∙ ap (λ k. xs ++ set (replicate k blank) (length xs - length xs) x) many
    ∙ ap (λ k. xs ++ set (blank ∷ replicate (n - length (xs ++ x ∷ [])) blank) k x) first
    ∙ sym (append_assoc xs (x ∷ []) (replicate (n - length (xs ++ x ∷ [])) blank))

length_padded : {X : Type 0} (n : ℕ) (blank : X) (xs : List X) → length xs ≤ n → length (padded n blank xs) ≡ n
length_padded n blank xs few =
    length-append xs (replicate (n - length xs) blank) ∙ omega (arith, length-replicate (n - length xs) blank, few)

-- a list of cells that keeps the first n of its own has n of them
pub kept_count : {X Y : Type 0} (size n : ℕ) (blank : X) (f : Y → X) (g : X → Y) (held : List X) → held ≡ padded size blank (map f (map g (take n held))) → n ≤ size → n ≡ length (map g (take n held))
kept_count size n blank f g held kept le =
    let few = length-take n held in
    let a = length-map (take n held) g in
    let b = length-map (map g (take n held)) f in
    let whole = ap length kept ∙ length_padded size blank (map f (map g (take n held))) (omega (arith, few, a, b, le)) in
    omega (arith, few, a, whole, le)

pub take_padded : {X : Type 0} (n : ℕ) (blank : X) (xs : List X) (m : ℕ) → length xs ≡ m → take m (padded n blank xs) ≡ xs
take_padded n blank xs m long = take_at xs (replicate (n - length xs) blank) m long

-- the front of a longer list of cells is the shorter list of cells
pub padded_front : {X : Type 0} (n m : ℕ) (blank : X) (xs : List X) → length xs ≤ n → n ≤ m → take n (padded m blank xs) ≡ padded n blank xs
padded_front n m blank xs few le =
    let long : n ≡ length xs + (n - length xs) = omega arith in
    ap (λ k. take k (padded m blank xs)) long
    ∙ take-append-add xs (replicate (m - length xs) blank) (n - length xs)
    ∙ ap (λ ys. xs ++ ys) (take-replicate (n - length xs) (m - length xs) blank (omega arith))
