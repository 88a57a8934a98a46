-- What is kept of a certificate that may be one with images.
use Rattle.std.proofs.Common.{◌≡◌, ◌∙◌, true, false, ◌++◌, Option, Some, None, refl, sym, ap}
use Rattle.pg_evidence.proofs.Common.{Bytes}
use Rattle.pg_image.specs.Gathering.{GathersShort}
use Rattle.pg_image.specs.declared.image_gathering.ImageGathering.{ImageGathering}
use Rattle.pg_image.proofs.Gatherings.{alike_more, alike_on}
use Rattle.pg_evidence.specs.Evidence.{has_images}
use Rattle.pg_evidence.specs.Incoming.{IsCut, IsGathered, IsKept, IsKeptShort, IsShown}
use Rattle.pg_evidence.specs.declared.kept.Kept.{Kept}
use Rattle.pg_evidence.proofs.FirstLines.{first_shows, never_images}

-- a piece that is kept, and then cut short
pub keeps_short : (before kept after : Kept) (piece : Bytes)
    → ((text short : Bytes) → IsKept before text short
    → IsKept kept (text ++ piece) (short ++ piece))
    → ((text short : Bytes) → IsKept kept text short → IsKeptShort after text short)
    → (text : Bytes) → IsKeptShort before text text
    → IsKeptShort after (text ++ piece) (text ++ piece)
keeps_short before kept after piece takes cuts text h =
    let s = cuts (text ++ piece) (h.shorter ++ piece) (takes text h.shorter h.kept) in
    record {
      shorter = s.shorter;
      kept = s.kept;
      alike = alike_on (text ++ piece) (h.shorter ++ piece) s.shorter
          (alike_more text h.shorter piece h.alike) s.alike;
    }

-- ---- what is cut short

pub cut_of : (n : ImageGathering) (text short : Bytes)
    → GathersShort n text short
    → IsCut (Some n) text short
cut_of n text short s = record { shorter = s.shorter; gathered = s.gathers; alike = s.alike }

pub uncut : (text short : Bytes) → IsGathered None text short → IsCut None text short
uncut text short none = record { shorter = short; gathered = none; alike = λ more. refl }

-- ---- in the end

seen_first : (k : Kept) (text short : Bytes)
    → IsKept k text short
    → has_images k.first.items ≡ has_images text
seen_first k text short h = ap has_images h.first ∙ first_shows text

pub shown_with : (k : Kept) (text short : Bytes)
    → has_images k.first.items ≡ true
    → IsKept k text short
    → IsShown k.gathering text short
shown_with k text short on h = go k.gathering h.gathered where
  go : (o : Option ImageGathering) → IsGathered o text short → IsShown o text short
  go (Some g) gathers = (gathers, sym (seen_first k text short h) ∙ on)
  go None none = never_images text none

pub shown_without : (k : Kept) (text short : Bytes)
    → has_images k.first.items ≡ false
    → IsKept k text short
    → has_images text ≡ false
shown_without k text short off h = sym (seen_first k text short h) ∙ off
