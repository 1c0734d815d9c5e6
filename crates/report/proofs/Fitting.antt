-- Where bytes stand that were laid out from the front on. Assumes nothing.
use Rattle.std.proofs.Common.{◌≡◌, ℕ, suc, ◌+◌, ◌-◌, ◌<◌, ◌≤◌, min, List, [], ◌∷◌, ◌++◌, length, take, drop, set, sym, refl, ap, ◌∙◌, ⊎_elim, arith}
use Rattle.std.proofs.lemmas.List.{append_assoc, append-nil, take-append-drop, take_more_set, drop-set-lt, length-set, take_all, set_past}
use Rattle.std.proofs.Math.ListN.{drop_of_length-le}
use Rattle.std.proofs.Math.Seq.{take-nil}
use Rattle.std.proofs.lemmas.Bool.{cases_lt}
use Rattle.report.specs.declared.printer.Printer.{Printer}
use Rattle.report.specs.Answers.{Prints}
use Rattle.report.specs.Printers.{most, stepped, moved, written, Lays, PutAtFront}

moved_is : (bs : List ℕ) (n : ℕ) → n ≤ most → moved n bs ≡ min (n + length bs) most
moved_is [] n h = omega arith
moved_is (b ∷ bs) n h =
    let rest : moved (stepped n) bs ≡ min (stepped n + length bs) most = moved_is bs (stepped n) (omega arith) in
    omega arith

-- behind the output nothing is written
written_past : (bs : List ℕ) (n : ℕ) (out : List ℕ) → length out ≤ n → length out ≤ most → written n out bs ≡ out
written_past [] n out h k = refl
written_past (b ∷ bs) n out h k =
    ap (λ o. written (stepped n) o bs) (set_past out n b h) ∙ written_past bs (stepped n) out (omega arith) k

-- each byte goes behind those before it: what stands in front and behind stays
written_is : (bs : List ℕ) (n : ℕ) (out : List ℕ) → length out < most → n ≤ length out → written n out bs ≡ take n out ++ (take (length out - n) bs ++ drop (n + length bs) out)
written_is [] n out k h =
    let e : n ≡ n + 0 = omega arith in
    sym (take-append-drop n out) ∙ ap (λ j. take n out ++ drop j out) e ∙ ap (λ z. take n out ++ (z ++ drop (n + 0) out)) (sym (take-nil (length out - n)))
written_is (b ∷ bs) n out k h =
    let size = length out in
    let same : length (set out n b) ≡ size = length-set out n b in
    ⊎_elim
    (λ l.
    let on : stepped n ≡ n + 1 = omega arith in
    let rest = written_is bs (n + 1) (set out n b) (omega arith) (omega arith) in
    let e : n + 1 + length bs ≡ n + suc (length bs) = omega arith in
    let front : take (n + 1) (set out n b) ≡ take n out ++ b ∷ [] = take_more_set out n b l in
    let room : size - n ≡ suc (size - (n + 1)) = omega arith in
    let back : drop (n + 1 + length bs) (set out n b) ≡ drop (n + suc (length bs)) out =
    drop-set-lt (n + 1 + length bs) out n b (omega arith) ∙ ap (λ j. drop j out) e in
    ap (λ j. written j (set out n b) bs) on ∙ rest ∙ (λ i. front i ++ (take (same i - (n + 1)) bs ++ back i))
    ∙ append_assoc (take n out) (b ∷ []) (take (size - (n + 1)) bs ++ drop (n + suc (length bs)) out)
    ∙ ap (λ j. take n out ++ (take j (b ∷ bs) ++ drop (n + suc (length bs)) out)) (sym room))
    (λ l.
    let off : size - n ≡ 0 = omega arith in
    let gone : drop (n + suc (length bs)) out ≡ [] = drop_of_length-le out (omega arith) in
    let stays : written n out (b ∷ bs) ≡ out = written_past (b ∷ bs) n out l (omega arith) in
    stays ∙ sym ((λ i. take_all n out l i ++ (take (off i) (b ∷ bs) ++ gone i)) ∙ append-nil out))
    (cases_lt n size)

pub put_at_front :
    (bytes before after : List ℕ) (p q : Printer) (n : ℕ)
    → p.count ≡ 0 → p.out.now ≡ before → Lays p bytes q → n ≡ q.count → after ≡ q.out.now → length before < most → PutAtFront bytes before n after
put_at_front bytes before after p q n front is h count output low =
    let less : length before - 0 ≡ length before = omega arith in
    let more : 0 + length bytes ≡ length bytes = omega arith in
    record {
      count = count ∙ h.count ∙ ap (λ k. moved k bytes) front ∙ moved_is bytes 0 (omega arith) ∙ ap (λ k. min k most) more;
      output = output ∙ h.output ∙ (λ i. written (front i) (is i) bytes) ∙ written_is bytes 0 before low (omega arith) ∙ (λ i. take (less i) bytes ++ drop (more i) before);
    }

-- bytes for which there is room stand whole
pub put_whole : (bytes before : List ℕ) (n : ℕ) (after : List ℕ) → PutAtFront bytes before n after → length bytes ≤ length before → length before < most → (n ≡ length bytes) × (after ≡ bytes ++ drop n before)
put_whole bytes before n after h low room =
    let count : n ≡ length bytes = omega (arith, h.count) in
    (count, h.output ∙ (λ i. take_all (length before) bytes low i ++ drop (sym count i) before))

pub prints : (bytes before : List ℕ) (n k : ℕ) (after : List ℕ) → PutAtFront bytes before n after → length before < most → k ≡ min n (length before) → Prints bytes before k after
prints bytes before n k after h room is =
    let count : k ≡ min (length bytes) (length before) = omega (arith, h.count) in
    ⊎_elim
    (λ l.
    let cut : k ≡ length before = omega arith in
    let far : drop (length bytes) before ≡ drop k before = drop_of_length-le before (omega arith) ∙ sym (drop_of_length-le before (omega arith)) in
    record { count = count; output = h.output ∙ (λ i. take (sym cut i) bytes ++ far i) })
    (λ l.
    let all : k ≡ length bytes = omega arith in
    record { count = count; output = h.output ∙ (λ i. (take_all (length before) bytes l ∙ sym (take_all k bytes (omega arith))) i ++ drop (sym all i) before) })
    (cases_lt (length before) (length bytes))
