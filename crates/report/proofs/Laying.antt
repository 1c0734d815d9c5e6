-- Laying bytes out one behind the other. Assumes nothing.
use Rattle.std.proofs.Common.{◌≡◌, ℕ, List, [], ◌∷◌, ◌++◌, set, sym, refl, ap, ◌∙◌, subst}
use Rattle.report.specs.declared.printer.Printer.{Printer}
use Rattle.report.specs.Printers.{stepped, moved, written, Lays}

pub moved_append : (n : ℕ) (xs ys : List ℕ) → moved n (xs ++ ys) ≡ moved (moved n xs) ys
moved_append n [] ys = refl
moved_append n (x ∷ xs) ys = moved_append (stepped n) xs ys

pub written_append : (n : ℕ) (out xs ys : List ℕ) → written n out (xs ++ ys) ≡ written (moved n xs) (written n out xs) ys
written_append n out [] ys = refl
written_append n out (x ∷ xs) ys = written_append (stepped n) (set out n x) xs ys

pub lays_none : (p : Printer) → Lays p [] p
lays_none p = record { count = refl; output = refl; lent = refl }

pub lays_then : {p q r : Printer} {xs ys : List ℕ} → Lays p xs q → Lays q ys r → Lays p (xs ++ ys) r
lays_then {p} {q} {r} {xs} {ys} a b = record {
  count = b.count ∙ ap (λ n. moved n ys) a.count ∙ sym (moved_append p.count xs ys);
  output = b.output ∙ (λ i. written (a.count i) (a.output i) ys) ∙ sym (written_append p.count p.out.now xs ys);
  lent = b.lent ∙ a.lent;
}

pub lays_same : {p q : Printer} {xs ys : List ℕ} → xs ≡ ys → Lays p xs q → Lays p ys q
lays_same {p} {q} e h = let P : List ℕ → Type 0 = λ z. Lays p z q in subst P e h

pub lays_to : {p q r : Printer} {xs : List ℕ} → r ≡ q → Lays p xs q → Lays p xs r
lays_to {p} {xs = xs} e h = let P : Printer → Type 0 = λ z. Lays p xs z in subst P (sym e) h
