-- The word of one name.
use Rattle.std.proofs.Common.{◌≡◌, ℕ, true, List, [], ◌∷◌, ◌++◌, Ok, Err, sym, refl, ap, ◌∙◌, subst, inl, inr, ⊎_elim}
use Rattle.std.specs.List.{ContainsAt as Has}
use Rattle.words.specs.declared.Fault.{Fault}
use Rattle.words.specs.declared.Fault.TheVariants.{BadName, NameTaken}
use Rattle.words.specs.declared.Letters.TheVariants.{Lower}
use Rattle.words.specs.declared.Name.{Name}
use Rattle.words.specs.declared.Reader.{Reader}
use Rattle.words.specs.declared.Word.{Word}
use Rattle.words.specs.Faults.{number, position}
use Rattle.words.specs.Words.{named, name_bytes, name_from}
use Rattle.words.specs.Walks.{Walks, Leaves, Found}
use Rattle.words.specs.Readers.{NewName}
use Rattle.words.proofs.Readers.{word_goes, word_stops}
use Rattle.words.proofs.Words.{kept_whole}
use Rattle.model.specs.declared.names.Names.{Names}
use Rattle.model.specs.Content.{Content, names_of, Kept}
use Rattle.model.specs.Rules.{name, at, due_names, with_names, model_rules}
use Rattle.model.proofs.Members.{name_short}
use Rattle.model.proofs.Steps.{name_fits, name_bad, name_taken}

-- a name that is kept is the word
module _ (given : List (List ℕ)) (w : Word) (x : Name) (h : NewName Lower given w (Ok x)) where
  pub whole : name_bytes x ≡ w.bytes.now
  whole = ap name_bytes h.2 ∙ kept_whole w.bytes.now (name_short w.bytes.now h.0)

  pub name_kept : x ≡ name_from (name_bytes x)
  name_kept = h.2 ∙ ap name_from (sym whole)

module _ (c : Content) (k : Names) (m : ℕ) (given : List (List ℕ)) (same : names_of c k ≡ given) (r after : Reader) (w : Word) (found : Found r (Ok w) after) where
  pub name_refused : (f : Fault) → NewName Lower given w (Err f) → Leaves model_rules r.text.now (at (name k m) c) r.at (number f) (position f) after.at
  name_refused f h =
      ⊎_elim
      (λ (a : (f ≡ BadName w.start) × (named Lower w.bytes.now ≡ _)).
      subst (λ g. Leaves model_rules r.text.now (at (name k m) c) r.at (number g) (position g) after.at) (sym a.0)
      (word_stops model_rules (at (name k m) c) r after refl w 5 found (name_bad c w.bytes.now k m a.1)))
      (λ (a : (f ≡ NameTaken w.start) × (named Lower w.bytes.now ≡ true) × Has given w.bytes.now).
      subst (λ g. Leaves model_rules r.text.now (at (name k m) c) r.at (number g) (position g) after.at) (sym a.0)
      (word_stops model_rules (at (name k m) c) r after refl w 6 found (name_taken c w.bytes.now k m a.1 (inl (subst (λ xs. Has xs w.bytes.now) (sym same) a.2)))))
      h

  module _ (x : Name) (h : NewName Lower given w (Ok x)) where
    pub name_reserved : Kept k w.bytes.now → Leaves model_rules r.text.now (at (name k m) c) r.at 6 w.start after.at
    name_reserved kept = word_stops model_rules (at (name k m) c) r after refl w 6 found (name_taken c w.bytes.now k m h.0 (inr kept))

    pub name_read : (Kept k w.bytes.now → ⊥) → Walks model_rules r.text.now (at (name k m) c) r.at (at (due_names k m) (with_names k c (names_of c k ++ name_bytes x ∷ []))) after.at
    name_read free =
        let fit = name_fits c w.bytes.now k m h.0 (λ t. ⊎_elim (λ a. h.1 (subst (λ xs. Has xs w.bytes.now) same a)) free t) in
        word_goes model_rules (at (name k m) c) r after refl w _ found fit.0
        (fit.1 ∙ ap (λ v. at (due_names k m) (with_names k c (names_of c k ++ v ∷ []))) (sym (whole given w x h)))
