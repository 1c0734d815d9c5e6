-- The single store keeps the laws of a store. These proofs are values of ghost members, so they stand here.
--
--   held_valuation    the one valuation is a valuation
--   single_sound      so the frame is lawful
--   single_coded      and a member is a code
--
-- Assumes nothing.
use Rattle.std.specs.Prelude.{◌≡◌, ℕ, suc, ◌+◌, ◌-◌, ◌*◌, ◌/◌, ◌%◌, ◌^◌, ◌<◌, ◌≤◌, true, ◌==◌}
use Rattle.std.proofs.Common.{sym, ap, ◌∙◌, subst, ⊎_elim, pow-suc, arith, pow_pos}
use Rattle.std.proofs.Math.Pow.{ones_lt, ones_split}
use Rattle.std.proofs.lemmas.Nat.{mul-add-lt, shr_high}
use Rattle.std.proofs.lemmas.Bool.{cases_Bool, eq-eqb, eqb-true, and_parts, cond-true, cond-false}
use Rattle.logic.specs.Codes.{bit, valuation, Valuation}
use Rattle.logic.proofs.Codes.{valuation_decides}
use Rattle.store.specs.declared.shape.Shape.{Shape}
use Rattle.store.specs.declared.single.Single.{Single}
use Rattle.store.specs.Shapes.{shape_actions, shape_variables, shape_limits}
use Rattle.store.specs.Frames.{Lawful, frame_codes}
use Rattle.store.specs.Singles.{code_held, marked, single_frame, single_sets}

-- every bit below n of 2^n - 1 is set
ones_bit : (n m : ℕ) → m < n → bit (2 ^ n - 1) m ≡ true
ones_bit n m h =
    let j = n - suc m in
    let whole : n ≡ suc j + m = omega arith in
    let high : (2 ^ n - 1) / 2 ^ m ≡ 2 ^ suc j - 1 =
    ap (λ t. (2 ^ t - 1) / 2 ^ m) whole ∙ ap (λ t. t / 2 ^ m) (ones_split (suc j) m) ∙ shr_high (2 ^ suc j - 1) m (2 ^ m - 1) (ones_lt m) in
    let odd : (2 ^ suc j - 1) % 2 ≡ 1 = omega (arith, pow-suc 2 j, pow_pos j) in
    eq-eqb ((2 ^ n - 1) / 2 ^ m % 2) 1 (ap (λ t. t % 2) high ∙ odd)

all_actions : (actions variables : ℕ) → 1 ≤ actions → Valuation actions variables (2 ^ (actions * variables) - 1)
all_actions a k h = record {
  small = ones_lt (a * k);
  some = λ y low. (0, h, ones_bit (a * k) (y * a + 0) (mul-add-lt y a 0 k low h));
}

pub held_valuation : (s : Shape) (code : ℕ) → Valuation (shape_actions s) (shape_variables s) (code_held s code)
held_valuation s code =
    let a = shape_actions s in
    let k = shape_variables s in
    let P : ℕ → Type 0 = Valuation a k in
    let all = 2 ^ (a * k) - 1 in
    ⊎_elim
    (λ e. subst P (sym (cond-true (valuation a k code) code all e)) ((valuation_decides a k code).0 e))
    (λ e. subst P (sym (cond-false (valuation a k code) code all e)) (all_actions a k (shape_limits s).some_action))
    (cases_Bool (valuation a k code))

pub single_sound : (s : Single) → Lawful (single_frame s)
single_sound s =
    let P : ℕ → Type 0 = Valuation (shape_actions s.shape) (shape_variables s.shape) in
    let code = code_held s.shape s.code in
    record {
      limits = shape_limits s.shape;
      valuations = λ c e. subst P (sym (eqb-true c code e)) (held_valuation s.shape s.code);
    }

pub single_coded : (s : Single) (j c : ℕ) → single_sets s j c ≡ true → c < frame_codes (single_frame s)
single_coded s j c e =
    ((single_sound s).valuations c (and_parts (c == code_held s.shape s.code) (marked s.cells.now j) e).0).small
