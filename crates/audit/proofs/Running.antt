-- One call more in a run. Assumes nothing.
use Rattle.std.proofs.Common.{◌≡◌, ℕ, suc, ◌+◌, ◌<◌, ◌≤◌, Bool, cond, leb, ◌≢◌, List, length, get_or, drop, set, Result, sym, refl, ap, ◌∙◌, subst, ⊎_elim, add-one, arith, get_or-set_other, get_or-set_same}
use Rattle.std.proofs.lemmas.List.{drop-drop, drop-set-lt}
use Rattle.std.proofs.lemmas.Bool.{cases_lt, cond-true, cond-false, le-leb, lt-leb}
use Rattle.logic.specs.Table.{Table}
use Rattle.model.specs.Values.{table_of}
use Rattle.store.specs.Frames.{Frame}
use Rattle.formula.specs.Wholes.{Meaning}
use Rattle.bench.specs.declared.bench.Bench.{Bench}
use Rattle.bench.specs.declared.fault.Fault.{Fault}
use Rattle.bench.specs.declared.call.Call.{Call}
use Rattle.bench.specs.declared.call.Answer.{Answer}
use Rattle.bench.specs.Ledger.{Entry, Says, Accepted, Enters}
use Rattle.bench.specs.Matching.{bench_table, Matches, Stays, Keeps, Left}
use Rattle.audit.specs.Runs.{a_call, an_answer, EntryAfter, Told}
use Rattle.audit.specs.Running.{Ran}
use Rattle.audit.proofs.Entries.{entry_from, entry_unique, entry_none}

module _ {S : Type 0} (frame : S → Frame) (b d : Bench S) (h : Stays frame b d) where
  -- what is said of the table and the frame of one bench, is said of those of the other
  pub moved : (P : Table → Frame → Type 0) → P (bench_table d) (frame d.store) → P (bench_table b) (frame b.store)
  moved P x =
      let table : bench_table d ≡ bench_table b = ap (λ m. table_of m.table) h.model in
      let Q : Frame → Type 0 = P (bench_table d) in
      let R : Table → Type 0 = λ M. P M (frame b.store) in
      subst R table (subst Q h.frames x)

  pub moved_back : (P : Table → Frame → Type 0) → P (bench_table b) (frame b.store) → P (bench_table d) (frame d.store)
  moved_back P x =
      let table : bench_table b ≡ bench_table d = ap (λ m. table_of m.table) (sym h.model) in
      let Q : Frame → Type 0 = P (bench_table b) in
      let R : Table → Type 0 = λ M. P M (frame d.store) in
      subst R table (subst Q (sym h.frames) x)

  pub stays_on : (e : Bench S) → Stays frame d e → Stays frame b e
  stays_on e k = record { model = k.model ∙ h.model; frames = k.frames ∙ h.frames }

module _ {S : Type 0} (frame : S → Frame) (sets : S → ℕ → ℕ → Bool) (b : Bench S) (cs : List Call) where
  pub ran_none : (got : List (Result Answer Fault)) → Ran frame sets b b cs got 0
  ran_none got =
      let M = bench_table b in
      let F = frame b.store in
      record {
        told = λ e h k l. absurd (omega arith);
        benches = λ k. b;
        begins = refl;
        ends = refl;
        stays = λ k l. record { model = refl; frames = refl };
        matches = λ k l e m h q.
            let none : 0 ≡ k = omega arith in
            let start : EntryAfter M F e cs k e = subst (λ i. EntryAfter M F e cs i e) none (entry_none M F cs e) in
            subst (Matches frame sets b) (entry_unique M F cs e k e m start q) h;
        keeps = λ k l. absurd (omega arith);
      }

  module _ (d f : Bench S) (got : List (Result Answer Fault)) (n : ℕ) (a : Result Answer Fault) (room : n < length got) (ran : Ran frame sets b d cs got n)
      (says : (e : Entry) → Matches frame sets d e → Says (bench_table d) (frame d.store) e (get_or cs n a_call) a) (left : Left frame sets d f (get_or cs n a_call)) where
    here : Stays frame b d
    here = subst (Stays frame b) ran.ends (ran.stays n (omega arith))

    at_end : (e m : Entry) → Matches frame sets b e → EntryAfter (bench_table b) (frame b.store) e cs n m → Matches frame sets d m
    at_end e m h q = subst (λ x. Matches frame sets x m) ran.ends (ran.matches n (omega arith) e m h q)

    benches : ℕ → Bench S
    benches k = cond (leb k n) (ran.benches k) f

    before : (k : ℕ) → k ≤ n → ran.benches k ≡ benches k
    unfolding benches
    before k l = sym (cond-true (leb k n) (ran.benches k) f (le-leb k n l))

    after : f ≡ benches (suc n)
    unfolding benches
    after = sym (cond-false (leb (suc n) n) (ran.benches (suc n)) f (lt-leb (suc n) n (omega arith)))

    told_more : (e : Entry) → Matches frame sets b e → Told (bench_table b) (frame b.store) e cs (set got n a) (suc n)
    told_more e h k l m q =
        ⊎_elim
        (λ low. let ne : k ≢ n = omega arith in rw get_or-set_other (ran.told e h k low m q))
        (λ high.
        let same : n ≡ k = omega arith in
        let Q : ℕ → Type 0 = λ i. EntryAfter (bench_table b) (frame b.store) e cs i m in
        let P : ℕ → Type 0 = λ i. Says (bench_table b) (frame b.store) m (get_or cs i a_call) (get_or (set got n a) i an_answer) in
        let A : Result Answer Fault → Type 0 = λ y. Says (bench_table b) (frame b.store) m (get_or cs n a_call) y in
        let there = moved frame b d here (λ M F. Says M F m (get_or cs n a_call) a) (says m (at_end e m h (subst Q (sym same) q))) in
        subst P same (subst A (sym (get_or-set_same got n a an_answer room)) there))
        (cases_lt k n)

    stays_more : (k : ℕ) → k ≤ suc n → Stays frame b (benches k)
    stays_more k l =
        ⊎_elim
        (λ low. subst (Stays frame b) (before k (omega arith)) (ran.stays k (omega arith)))
        (λ high.
        let same : suc n ≡ k = omega arith in
        subst (λ i. Stays frame b (benches i)) same (subst (Stays frame b) after (stays_on frame b d here f left.stays)))
        (cases_lt k (suc n))

    matches_more : (k : ℕ) → k ≤ suc n → (e m : Entry) → Matches frame sets b e → EntryAfter (bench_table b) (frame b.store) e cs k m → Matches frame sets (benches k) m
    matches_more k l e m h q =
        ⊎_elim
        (λ low. subst (λ x. Matches frame sets x m) (before k (omega arith)) (ran.matches k (omega arith) e m h q))
        (λ high.
        let same : suc n ≡ k = omega arith in
        let Q : ℕ → Type 0 = λ i. EntryAfter (bench_table b) (frame b.store) e cs i m in
        let from = entry_from (bench_table b) (frame b.store) cs e n m (subst Q (sym same) q) in
        let enters = moved_back frame b d here (λ M F. Enters M F from.0 (get_or cs n a_call) m) from.2 in
        let new = left.enters from.0 m (at_end e from.0 h from.1) enters in
        subst (λ i. Matches frame sets (benches i) m) same (subst (λ x. Matches frame sets x m) after new))
        (cases_lt k (suc n))

    keeps_more : (k : ℕ) → k < suc n → ((x : Meaning) → Accepted (bench_table b) (frame b.store) (get_or cs k a_call) x → ⊥) → Keeps frame sets (benches k) (benches (suc k))
    keeps_more k l none =
        ⊎_elim
        (λ low. subst (λ x. Keeps frame sets x (benches (suc k))) (before k (omega arith)) (subst (Keeps frame sets (ran.benches k)) (before (suc k) (omega arith)) (ran.keeps k low none)))
        (λ high.
        let same : n ≡ k = omega arith in
        let N : ℕ → Type 0 = λ i. (x : Meaning) → Accepted (bench_table b) (frame b.store) (get_or cs i a_call) x → ⊥ in
        let kept = left.keeps (moved_back frame b d here (λ M F. (x : Meaning) → Accepted M F (get_or cs n a_call) x → ⊥) (subst N (sym same) none)) in
        let end : d ≡ benches n = sym ran.ends ∙ before n (omega arith) in
        let K : ℕ → Type 0 = λ i. Keeps frame sets (benches i) (benches (suc i)) in
        subst K same (subst (λ x. Keeps frame sets x (benches (suc n))) end (subst (Keeps frame sets d) after kept)))
        (cases_lt k n)

    pub ran_more : Ran frame sets b f cs (set got n a) (n + 1)
    ran_more = subst (Ran frame sets b f cs (set got n a)) (sym (add-one n)) (record {
      told = told_more;
      benches = benches;
      begins = sym (before 0 (omega arith)) ∙ ran.begins;
      ends = sym after;
      stays = stays_more;
      matches = matches_more;
      keeps = keeps_more;
    })

pub behind_more : (got old : List (Result Answer Fault)) (i : ℕ) (a : Result Answer Fault) → drop i got ≡ drop i old → drop (i + 1) (set got i a) ≡ drop (i + 1) old
behind_more got old i a h = drop-set-lt (i + 1) got i a (omega arith) ∙ sym (drop-drop 1 i got) ∙ ap (drop 1) h ∙ drop-drop 1 i old
