-- Turns of the loop over digits.
use Rattle.std.proofs.Common.{◌≡◌, ℕ, ◌+◌, ◌-◌, ◌*◌, ◌<◌, true, false, List, [], ◌∷◌, None, refl, arith}
use Rattle.std.proofs.lemmas.Bool.{cond_both, cond-true, cond-false}
use Rattle.std.proofs.lemmas.Bool.Decides.{nat_tests}
use Rattle.words.specs.Words.{decimal, limited, between}

-- digits only add
pub past : (low high n : ℕ) (bs : List ℕ) → high < n → limited low high (decimal n bs) ≡ None
past low high n [] h = grind (arith, nat_tests)
past low high n (b ∷ bs) h =
    cond_both (between 48 57 b) (decimal (n * 10 + (b - 48)) bs) None (λ o. limited low high o ≡ None)
    (λ _. past low high (n * 10 + (b - 48)) bs (omega arith)) (λ _. refl)

pub digit_more : (n b : ℕ) (bs : List ℕ) → between 48 57 b ≡ true → decimal n (b ∷ bs) ≡ decimal (n * 10 + (b - 48)) bs
digit_more n b bs digit = cond-true _ _ _ digit

pub digit_none : (n b : ℕ) (bs : List ℕ) → between 48 57 b ≡ false → decimal n (b ∷ bs) ≡ None
digit_none n b bs out = cond-false _ _ _ out
