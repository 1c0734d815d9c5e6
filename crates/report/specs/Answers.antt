-- What the calls of the report answer.
--
--   report_number   the number of a refusal: 26 the output is too short
--   Fitting         the report of a text was written to the front of the output, and the bytes behind it are as they were
--   TooShort        the report is longer than the output, which is as it was
--   Reported        one or the other, by the answer
--   short_line      the line where the report does not fit: refusal 26, at 0
--   Prints          bytes were written to the front of the output, as far as they fit
--   ShortLine       the report is longer than the output, and the short line was written
--   Printed         what is printed of a text: its report; or where that does not fit, the short line
--   Called          the answer to a caller in C: the bytes written, or the number of the refusal below 0
--   LaidOut         bytes of which P holds were counted, and put at the front of the output
--
-- Assumes nothing.
use Rattle.std.specs.Prelude.{◌≡◌, ℕ, ◌<◌, ◌≤◌, min, ◌⊎◌, List, ◌++◌, length, take, drop, ℤ, pos, negsuc, Ok, Err, Result}
use Rattle.report.specs.declared.ReportFault.{ReportFault}
use Rattle.report.specs.declared.ReportFault.TheVariants.{OutputTooShort}
use Rattle.report.specs.Printers.{PutAtFront}
use Rattle.report.specs.Reports.{ReportOf}
use Rattle.report.specs.Texts.{refusal}

abbrev pub report_number : ReportFault → ℕ
report_number OutputTooShort = 26

pub record Fitting (text : List ℕ) (size : ℕ) (before : List ℕ) (n : ℕ) (after : List ℕ) : Type 0 where
  pub bytes : List ℕ
  pub report : ReportOf text size bytes
  pub count : n ≡ length bytes
  pub fits : n ≤ length before
  pub output : after ≡ bytes ++ drop n before

pub record TooShort (text : List ℕ) (size : ℕ) (before after : List ℕ) : Type 0 where
  pub bytes : List ℕ
  pub report : ReportOf text size bytes
  pub longer : length before < length bytes
  pub kept : after ≡ before

abbrev pub Reported : List ℕ → ℕ → List ℕ → Result ℕ ReportFault → List ℕ → Type 0
Reported text size before (Ok n) after = Fitting text size before n after
Reported text size before (Err OutputTooShort) after = TooShort text size before after

abbrev pub short_line : List ℕ
short_line = refusal 26 0

pub record Prints (bytes before : List ℕ) (n : ℕ) (after : List ℕ) : Type 0 where
  pub count : n ≡ min (length bytes) (length before)
  pub output : after ≡ take n bytes ++ drop n before

pub record ShortLine (text : List ℕ) (size : ℕ) (before : List ℕ) (n : ℕ) (after : List ℕ) : Type 0 where
  pub bytes : List ℕ
  pub report : ReportOf text size bytes
  pub longer : length before < length bytes
  pub prints : Prints short_line before n after

abbrev pub Printed : List ℕ → ℕ → List ℕ → ℕ → List ℕ → Type 0
Printed text size before n after = Fitting text size before n after ⊎ ShortLine text size before n after

pub record Written (text : List ℕ) (size : ℕ) (before : List ℕ) (answer : ℤ) (after : List ℕ) : Type 0 where
  pub count : ℕ
  pub is : answer ≡ pos count
  pub fitting : Fitting text size before count after

pub record NotWritten (text : List ℕ) (size : ℕ) (before : List ℕ) (answer : ℤ) (after : List ℕ) : Type 0 where
  pub is : answer ≡ negsuc 25
  pub short : TooShort text size before after

abbrev pub Called : List ℕ → ℕ → List ℕ → ℤ → List ℕ → Type 0
Called text size before answer after = Written text size before answer after ⊎ NotWritten text size before answer after

pub record LaidOut (P : List ℕ → Type 0) (before : List ℕ) (n : ℕ) (after : List ℕ) : Type 0 where
  pub bytes : List ℕ
  pub holds : P bytes
  pub put : PutAtFront bytes before n after
