-- Codes that have every bit of a mask, bit by bit. Assumes nothing.
use Rattle.std.proofs.Common.{◌≡◌, ℕ, Bool, true, false, cond, not, ◌&&◌, ◌||◌, eqb, Decides, refl, arith}
use Rattle.std.proofs.lemmas.Bool.Decides.{Decides-below_and}
use Rattle.logic.specs.Codes.{bit}
use Rattle.store.specs.Frames.{Frame}
use Rattle.store.specs.Masks.{covers, CoversDecides}

implied : (x y : Bool) → Decides (not x || y) (x ≡ true → y ≡ true)
implied true y = (λ e _. e, λ f. f refl)
implied false y = (λ _ e. absurd (let z : ◌≡◌ {A = ℕ} 0 1 = cc in omega arith), λ _. refl)

pub covers_decides : CoversDecides
covers_decides n mask c =
    Decides-below_and (λ b. not (bit mask b) || bit c b) (λ b. bit mask b ≡ true → bit c b ≡ true) (λ m. covers m mask c)
    (λ b. implied (bit mask b) (bit c b)) refl (λ _. refl) n

-- from the sets m, set i of l is left with the codes that have the bits of the mask below b; the frames are f and g
pub record Narrowed (f g : Frame) (m l : ℕ → ℕ → Bool) (i b mask : ℕ) : Type 0 where
  pub kept : g ≡ f
  pub members : (j c : ℕ) → l j c ≡ cond (eqb j i) (m i c && covers b mask c) (m j c)
