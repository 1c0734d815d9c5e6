-- From a run on a bench just opened to the law. Assumes nothing.
use Rattle.std.proofs.Common.{◌≡◌, ℕ, ◌<◌, Bool, List, Some, None, Decides, Result, refl, ap, subst, inl, arith}
use Rattle.logic.specs.Table.{Table, Sound}
use Rattle.logic.specs.Listing.{Listed}
use Rattle.model.specs.declared.Model.{Model}
use Rattle.model.specs.Values.{table_of}
use Rattle.store.specs.Frames.{Frame, Lawful}
use Rattle.evaluate.specs.Layout.{result_set}
use Rattle.model.proofs.GivingBack.{tables_are_sound}
use Rattle.bench.specs.declared.bench.Bench.{Bench}
use Rattle.bench.specs.declared.fault.Fault.{Fault}
use Rattle.bench.specs.declared.call.Call.{Call}
use Rattle.bench.specs.declared.call.Call.TheVariants as call
use Rattle.bench.specs.declared.call.Answer.{Answer}
use Rattle.bench.specs.Ledger.{Entry, Says, holds_as}
use Rattle.bench.specs.Matching.{bench_table, Matches, Stays}
use Rattle.audit.specs.Laws.{Agree}
use Rattle.audit.specs.Running.{Ran}
use Rattle.audit.specs.Audits.{Held, Law, AskedHolds}
use Rattle.audit.proofs.Laws.{same_answers, listing_names}
use Rattle.audit.proofs.Existential.{least_lists}
use Rattle.audit.proofs.Agreement.{holds_agree}
use Rattle.audit.proofs.Running.{moved}

module _ {S : Type 0} (frame : S → Frame) (sets : S → ℕ → ℕ → Bool) (b d : Bench S) (cs : List Call) (got : List (Result Answer Fault)) (n : ℕ) (blank : Matches frame sets b None) (ran : Ran frame sets b d cs got n) where
  held : Held frame sets (bench_table b) b.store cs n
  held = record {
    stores = λ k. (ran.benches k).store;
    begins = ap (λ x. x.store) ran.begins;
    frames = λ k l. (ran.stays k l).frames;
    lists = λ k l a last.
        let backs = ran.matches k l None (Some a) blank (inl (a, last, refl)) in
        let P : Table → Frame → Type 0 = λ M F. (s c : ℕ) → s < M.states → Decides (sets (ran.benches k).store (result_set M.states s) c) (Listed M F.universe a.formula s c) in
        moved frame b (ran.benches k) (ran.stays k l) P backs.lists;
    unaltered = λ k l none. (ran.keeps k l none).members;
  }

  law_here : Lawful (frame b.store) → Law frame sets (bench_table b) b.store cs got n
  law_here lawful =
      let sound = tables_are_sound b.model.now.table in
      let told = ran.told None blank in
      record {
        answers = told;
        held = held;
        same_answers = same_answers (bench_table b) sound (frame b.store) lawful None cs got n told;
        listing = listing_names (bench_table b) sound (frame b.store) lawful None cs got n told;
        existential = least_lists (bench_table b) sound (frame b.store) lawful None cs got n told;
      }

  asked_here : (s c : ℕ) (r : Result Bool Fault) → ((e : Entry) → Matches frame sets d e → Says (bench_table d) (frame d.store) e (call.Holds s c) (holds_as r))
      → AskedHolds (bench_table b) (frame b.store) cs n s c r
  asked_here s c r holds m q =
      let stays : Stays frame b d = subst (Stays frame b) ran.ends (ran.stays n (omega arith)) in
      let at : Matches frame sets d m = subst (λ x. Matches frame sets x m) ran.ends (ran.matches n (omega arith) None m blank q) in
      moved frame b d stays (λ M F. Says M F m (call.Holds s c) (holds_as r)) (holds m at)

  module _ (model : Model) (st : S) (models : b.model.now ≡ model) (stores : b.store ≡ st) where
    pub law : Lawful (frame b.store) → Law frame sets (table_of model.table) st cs got n
    law lawful =
        let P : Model → Type 0 = λ m. Law frame sets (table_of m.table) st cs got n in
        let Q : S → Type 0 = λ x. Law frame sets (bench_table b) x cs got n in
        subst P models (subst Q stores (law_here lawful))

    pub asked : (s c : ℕ) (r : Result Bool Fault) → ((e : Entry) → Matches frame sets d e → Says (bench_table d) (frame d.store) e (call.Holds s c) (holds_as r))
        → AskedHolds (table_of model.table) (frame st) cs n s c r
    asked s c r holds =
        let P : Model → Type 0 = λ m. AskedHolds (table_of m.table) (frame st) cs n s c r in
        let Q : S → Type 0 = λ x. AskedHolds (bench_table b) (frame x) cs n s c r in
        subst P models (subst Q stores (asked_here s c r holds))

pub agree : (M : Table) → Sound M → (F : Frame) → Lawful F → (cs : List Call) (n : ℕ) (G : Frame) (ds : List Call) (m s c : ℕ) (r q : Result Bool Fault)
    → AskedHolds M F cs n s c r → AskedHolds M G ds m s c q → Agree M F cs n G ds m c r q
agree M sound F lawful cs n G ds m s c r q one two a first second here there =
    holds_agree M sound F G lawful a s c r q (one (Some a) (inl (a, first, refl))) (two (Some a) (inl (a, second, refl))) here there
