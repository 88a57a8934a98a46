-- A certificate with images that is gathered from pieces of its file.
use Rattle.std.specs.Prelude.{◌≡◌, ℕ, ◌+◌, ◌<◌, ◌≤◌, ◌^◌, nat_lt, if◌then◌else◌, List, [], ◌∷◌}
use Rattle.std.specs.Prelude.{◌++◌, length, Option, Some, None, Result, Ok, Err, IfNone}
use Rattle.pg_image.specs.Prelude.{Bytes, Lacks, lines, LINE_FEED, MAX_CERT_BYTES, end_fault}
use Rattle.pg_image.specs.Prelude.{size_of, Fault}
use Rattle.pg_cert_lines.specs.declared.fault.Fault.TheVariants as faults
use Rattle.pg_image.specs.declared.cert.ImageCert.{ImageCert}
use Rattle.pg_image.specs.declared.image_gathering.ImageGathering.{ImageGathering}
use Rattle.pg_image.specs.declared.image_lines.ImageLines.{ImageLines}
use Rattle.pg_image.specs.ImageFile.{Draft, after, ended, said}
use Rattle.pg_image.specs.Shortened.{AreAlike}
use Rattle.pg_image.specs.Views.{view}

-- ---- lines

-- the fault of a line with this number, or what the lines after it say
abbrev pub goes_on : ℕ
    → Result Draft Fault
    → (Draft → Result ImageCert (Fault × ℕ))
    → Result ImageCert (Fault × ℕ)
goes_on n (Ok next) others = others next
goes_on n (Err fault) others = Err (fault, n)

-- what these lines say after those that were read; the first of them has number n
abbrev pub said_from : ℕ → Draft → List Bytes → Result ImageCert (Fault × ℕ)
said_from n d [] = ended n d (end_fault d.progress d.progress.due)
said_from n d (line ∷ others) = goes_on n (after d line) (λ next. said_from (n + 1) next others)

-- the same, unless a line before them was faulty
abbrev pub said_by : Option (Fault × ℕ) → ℕ → Draft → List Bytes → Result ImageCert (Fault × ℕ)
said_by None n d ls = said_from n d ls
said_by (Some fault) n d ls = Err fault

abbrev pub said_after : ImageLines → List Bytes → Result ImageCert (Fault × ℕ)
said_after l ls = said_by l.fault l.number (view l.draft) ls

-- the line was read
abbrev pub HasReadLine : ImageLines → Bytes → ImageLines → Type 0
HasReadLine old line new = old.number < 2 ^ 31
    → (ls : List Bytes) → said_after old (line ∷ ls) ≡ said_after new ls

-- The lines of this text were read but for the one in hand, which has no line feed yet: what is
-- said of the text with more bytes is what is said from here on.
pub record HasRead (l : ImageLines) (text : Bytes) : Type 0 where
  pub front : Bytes
  pub rest : Bytes
  pub cut : text ≡ front ++ rest
  pub pending : IfNone l.fault (l.pending.items ≡ rest)
  pub lacks : IfNone l.fault (Lacks LINE_FEED rest)
  pub few : l.number ≤ length front + 1
  pub reads : (more : Bytes) → said (lines (front ++ more)) ≡ said_after l (lines more)

-- the lines of a text were read that is like this one and no longer
pub record HasReadShort (l : ImageLines) (text : Bytes) : Type 0 where
  pub short : Bytes
  pub read : HasRead l short
  pub fewer : length short ≤ length text
  pub alike : AreAlike text short

-- ---- certificates

-- Of the first text all bytes were counted; where they are within the limit, the lines of the
-- second were read, which is no longer.
pub record Gathers (g : ImageGathering) (text short : Bytes) : Type 0 where
  pub size : g.size ≡ size_of text
  pub fewer : length short ≤ length text
  pub read : length text ≤ MAX_CERT_BYTES → HasRead g.lines short

-- some texts are those of which it has gathered
pub record IsGathering (g : ImageGathering) : Type 0 where
  pub text : Bytes
  pub short : Bytes
  pub gathers : Gathers g text short

-- the lines of a text were read that is like the second
pub record GathersShort (g : ImageGathering) (text short : Bytes) : Type 0 where
  pub shorter : Bytes
  pub gathers : Gathers g text shorter
  pub alike : AreAlike short shorter

-- what the lines of the second text say, where the first is within the limit
abbrev pub said_within : Bytes → Bytes → Result ImageCert (Fault × ℕ)
said_within text short =
    if nat_lt MAX_CERT_BYTES (length text) then Err (faults.Size, 0) else said (lines short)
