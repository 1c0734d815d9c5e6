-- A name that is given once looks up to the number under which it was given.
use Rattle.std.proofs.Common.{◌≡◌, ℕ, zero, suc, ◌<◌, true, false, List, [], ◌∷◌, length, get_or, Some, sym, refl, ap, ◌∙◌, subst, ⊎_elim, arith}
use Rattle.std.specs.Option.{option_map}
use Rattle.std.specs.Str.{bytes_eq}
use Rattle.std.proofs.ByRecursion.{has_get_or}
use Rattle.std.proofs.lemmas.Slice.Eq.{bytes_eq-Decides}
use Rattle.std.proofs.lemmas.Bool.{cond-true, cond-false, cases_Bool}
use Rattle.std.specs.List.{ContainsAt as Has}
use Rattle.words.specs.Words.{lookup}
use Rattle.model.specs.Grammar.{Once}
use Rattle.words.proofs.Lookups.{lookup_cons}

pub lookup_given : (xs : List (List ℕ)) (i : ℕ) → Once xs → i < length xs → lookup (get_or xs i []) xs ≡ Some i
lookup_given [] i once lt = absurd (omega arith)
lookup_given (x ∷ xs) zero once lt = lookup_cons x x xs ∙ cond-true _ _ _ ((bytes_eq-Decides x x).1 refl)
lookup_given (x ∷ xs) (suc i) once lt =
    let w = get_or xs i [] in
    let inside : i < length xs = omega arith in
    let other : bytes_eq x w ≡ false =
    ⊎_elim (λ (e : bytes_eq x w ≡ true). absurd (once.0 (subst (λ v. Has xs v) (sym ((bytes_eq-Decides x w).0 e)) (has_get_or xs i [] inside)))) (λ (e : bytes_eq x w ≡ false). e) (cases_Bool (bytes_eq x w)) in
    lookup_cons w x xs ∙ cond-false _ _ _ other ∙ ap (option_map suc) (lookup_given xs i once.1 inside)
