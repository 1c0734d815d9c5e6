-- Counting upward from one member to the next. Assumes nothing.
use Rattle.std.proofs.Common.{◌≡◌, ℕ, zero, suc, ◌+◌, ◌-◌, ◌<◌, ◌≤◌, Bool, true, false, List, [], ◌∷◌, length, ap, ◌∙◌, ⊎_elim, add-one, arith}
use Rattle.std.proofs.lemmas.Bool.{cond-true, cond-false, cond_both, cases_lt}
use Rattle.members.specs.Numbers.{number, NumberSays}
use Rattle.members.specs.Listed.{ListsFrom, listed}
use Rattle.members.proofs.Listing.{not_member, first_gap, rest_lists, listed_lists, lists_from_start, lists_to_start}

pub number_le : (m : ℕ → Bool) (n : ℕ) → number m n ≤ n
number_le m zero = omega arith
number_le m (suc n) =
    let h = number_le m n in cond_both (m n) (number m n + 1) (number m n) (λ x. x ≤ suc n) (λ _. omega arith) (λ _. omega arith)

number_here : (m : ℕ → Bool) (n : ℕ) → m n ≡ true → number m (n + 1) ≡ number m n + 1
number_here m n h = rw (add-one n) (cond-true (m n) (number m n + 1) (number m n) h)

-- between a and b there is no member
pub number_skip : (m : ℕ → Bool) (a b : ℕ) → a ≤ b → ((d : ℕ) → a ≤ d → d < b → m d ≡ false) → number m b ≡ number m a
number_skip m a zero h none = let e : zero ≡ a = omega arith in ap (number m) e
number_skip m a (suc b) h none =
    ⊎_elim
    (λ l. let e : suc b ≡ a = omega arith in ap (number m) e)
    (λ l. cond-false (m b) (number m b + 1) (number m b) (none b l (omega arith)) ∙ number_skip m a b l (λ d p q. none d p (omega arith)))
    (cases_lt b a)

-- the step of a count: from a on, c is the first member
pub number_step : (m : ℕ → Bool) (a c : ℕ) → a ≤ c → m c ≡ true → ((d : ℕ) → a ≤ d → d < c → m d ≡ false) → number m (c + 1) ≡ number m a + 1
number_step m a c h here none = number_here m c here ∙ ap (λ x. x + 1) (number_skip m a c h none)

-- each entry of the list is the next member, so that the count grows by one with each
number_lists : (m : ℕ → Bool) (n : ℕ) → ((c : ℕ) → m c ≡ true → c < n) → (a : ℕ) (cs : List ℕ) → a ≤ n → ListsFrom m a cs → number m n ≡ number m a + length cs
number_lists m n small a [] l h =
    let skip : number m n ≡ number m a =
    number_skip m a n l (λ d low _. not_member (m d) (λ e. let w = h.whole d low e in let none = w.1 in omega arith)) in
    omega arith
number_lists m n small a (x ∷ cs) l h =
    let here : m x ≡ true = h.sound 0 (omega arith) in
    let below : x < n = small x here in
    let rest : number m n ≡ number m (x + 1) + length cs = number_lists m n small (x + 1) cs (omega arith) (rest_lists m a x cs h) in
    let step : number m (x + 1) ≡ number m a + 1 = number_step m a x (h.low 0 (omega arith)) here (first_gap m a x cs h) in
    omega arith

pub number_says : NumberSays
number_says m n small = (
  λ cs h. let whole = number_lists m n small 0 cs (omega arith) (lists_to_start m cs h) in omega arith,
  (listed m 0 (n - 0), lists_from_start m (listed m 0 (n - 0)) (listed_lists m 0 n small)),
)
