-- How bytes are laid out by a printer. A printer counts the bytes of a report, and writes those for which its output has room.
--
--   most         the greatest count; behind it a count stays
--   stepped      the count behind one more byte
--   moved        the count behind more bytes
--   written      the output with bytes put from a count on, as far as they fit
--   Lays         bytes were laid out: the printer before and behind them, over one output
--   LaysSome     bytes of which P holds were laid out
--   PutAtFront   bytes were counted, and put at the front of an output, as far as they fit
--
-- Assumes nothing.
use Rattle.std.specs.Prelude.{◌≡◌, ℕ, ◌+◌, ◌-◌, ◌^◌, min, List, [], ◌∷◌, ◌++◌, length, take, drop, slice_set}
use Rattle.report.specs.declared.printer.Printer.{Printer}

abbrev pub most : ℕ
most = 2 ^ 64 - 1

abbrev pub stepped : ℕ → ℕ
stepped n = min (n + 1) most

abbrev pub moved : ℕ → List ℕ → ℕ
moved n [] = n
moved n (b ∷ bs) = moved (stepped n) bs

abbrev pub written : ℕ → List ℕ → List ℕ → List ℕ
written n out [] = out
written n out (b ∷ bs) = written (stepped n) (slice_set out n b) bs

pub record Lays (p : Printer) (bytes : List ℕ) (q : Printer) : Type 0 where
  pub count : q.count ≡ moved p.count bytes
  pub output : q.out.now ≡ written p.count p.out.now bytes
  pub lent : q.out.ghost_name ≡ p.out.ghost_name

pub record LaysSome (P : List ℕ → Type 0) (p q : Printer) : Type 0 where
  pub bytes : List ℕ
  pub holds : P bytes
  pub lays : Lays p bytes q

pub record PutAtFront (bytes before : List ℕ) (n : ℕ) (after : List ℕ) : Type 0 where
  pub count : n ≡ min (length bytes) most
  pub output : after ≡ take (length before) bytes ++ drop (length bytes) before
