-- How a sheet is read: word by word, each where it is due.
--
--   Rules        of a kind of sheet: `over` no word is due any more; `meets` the numbers (from 4 on) that a word meets where it
--                is due; `after` what is due, and what has been read, behind a word that fits
--   Fits         the word meets no number
--   Step         the word that is due stands next in the text, has no foreign byte and fits
--   Walks        one step after another
--   First        the first number, in their order, that is met
--   Stops        the word that is due is refused: 2 it has a foreign byte, 3 the text ends, or the first number that it meets
--   Refused      every word in front was due and fits, and the next one that is due is refused
--   Halts, Leaves  the same of a reader, and where it stands then
--   Found        what a reader answers to 'the next word', and where it stands then
--   Reads        what an answer of a reader says: where it walked to, or how it was refused and where it stands
--
-- Assumes nothing.
use Rattle.std.specs.Prelude.{◌≡◌, ℕ, zero, suc, ◌<◌, ◌≤◌, Bool, false, ◌⊎◌, List, length, Ok, Err, Result}
use Rattle.words.specs.declared.Fault.{Fault}
use Rattle.words.specs.declared.Reader.{Reader}
use Rattle.words.specs.declared.Word.{Word}
use Rattle.words.specs.Words.{WordAt, Clean, Foreign, Ends, bytes_of}
use Rattle.words.specs.Faults.{number, position, text_limit}

pub record Rules (S : Type 0) : Type 1 where
  pub over : S → Bool
  pub meets : S → List ℕ → ℕ → Type 0
  pub after : S → List ℕ → S

pub record First (P : ℕ → Type 0) (n : ℕ) : Type 0 where
  pub met : P n
  pub least : (m : ℕ) → m < n → P m → ⊥

-- the next word cannot be read: it has a foreign byte, or the text ends
abbrev pub WordRefused : List ℕ → ℕ → ℕ → ℕ → Type 0
WordRefused text from n at =
    ((n ≡ 3) × (at ≡ length text) × Ends text from)
    ⊎ ((n ≡ 2) × ((end : ℕ) × WordAt text from at end × Foreign text at end))

-- what the answer to 'the next word' says, of a reader and of where it then stands
abbrev pub Found : Reader → Result Word Fault → Reader → Type 0
Found r (Ok w) s =
    WordAt r.text.now r.at w.start s.at × Clean r.text.now w.start s.at × (w.bytes.now ≡ bytes_of r.text.now w.start s.at)
Found r (Err f) s = WordRefused r.text.now r.at (number f) (position f) × (s.at ≡ r.at)

module _ {S : Type 0} (R : Rules S) where
  abbrev pub Fits : S → List ℕ → Type 0
  Fits s w = (n : ℕ) → R.meets s w n → ⊥

  module _ (text : List ℕ) where
    pub record Step (s : S) (p : ℕ) (t : S) (q : ℕ) : Type 0 where
      pub due : R.over s ≡ false
      pub start : ℕ
      pub word : WordAt text p start q
      pub clean : Clean text start q
      pub fits : Fits s (bytes_of text start q)
      pub goes : R.after s (bytes_of text start q) ≡ t

    abbrev pub Walk : ℕ → S → ℕ → S → ℕ → Type 0
    Walk zero s p t q = (s ≡ t) × (p ≡ q)
    Walk (suc n) s p t q = (u : S) × (m : ℕ) × Step s p u m × Walk n u m t q

    pub record Walks (s : S) (p : ℕ) (t : S) (q : ℕ) : Type 0 where
      pub words : ℕ
      pub walk : Walk words s p t q

    pub record Stops (s : S) (p n at : ℕ) : Type 0 where
      pub due : R.over s ≡ false
      pub fault :
          ((n ≡ 3) × (at ≡ length text) × Ends text p)
          ⊎ ((end : ℕ) × WordAt text p at end × (((n ≡ 2) × Foreign text at end) ⊎ (Clean text at end × First (R.meets s (bytes_of text at end)) n)))

    pub record Refused (s : S) (p n at : ℕ) : Type 0 where
      pub last : S
      pub from : ℕ
      pub walks : Walks s p last from
      pub stops : Stops last from n at

    -- where a reader stands then: where it stood, if no word could be read, or else behind the word at fault
    pub record Halts (s : S) (p n at end : ℕ) : Type 0 where
      pub due : R.over s ≡ false
      pub fault :
          (WordRefused text p n at × (end ≡ p))
          ⊎ (WordAt text p at end × Clean text at end × First (R.meets s (bytes_of text at end)) n)

    pub record Leaves (s : S) (p n at end : ℕ) : Type 0 where
      pub last : S
      pub from : ℕ
      pub walks : Walks s p last from
      pub halts : Halts last from n at end

  abbrev pub Reads : {X : Type 0} → S → Reader → Result X Fault → (X → S) → Reader → Type 0
  Reads s r (Ok x) to after = Walks r.text.now s r.at (to x) after.at
  Reads s r (Err f) to after = Leaves r.text.now s r.at (number f) (position f) after.at

  -- the refusal of a whole sheet: 1 where the text is too long, else that of its words
  abbrev pub SheetRefused : List ℕ → S → ℕ → ℕ → Type 0
  SheetRefused text s n at =
      ((text_limit < length text) × (n ≡ 1) × (at ≡ text_limit))
      ⊎ ((length text ≤ text_limit) × Refused text s 0 n at)
