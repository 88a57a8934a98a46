-- WHAT IS PRINTED, with its status.
use Rattle.std.specs.Prelude.{◌≡◌, ◌⊎◌, ◌≤◌, ℕ, true, Option, Result, Ok, Err, string_bytes}
use Rattle.pg_binding.specs.Prelude.{Bytes, Cert, Chart, DONE, Evidence, Game, Halt, IsHaltDue}
use Rattle.pg_binding.specs.Prelude.{IsPlayTree, IsSaidBy, IsSpanValid, IsUnplayed, IsValid}
use Rattle.pg_binding.specs.Prelude.{IsVecValid, Memory, Refusal, has_sets, node_count}
use Rattle.pg_binding.specs.Prelude.{RejectsEvidence, RejectsSpan, RejectsVectors, SpanCert}
use Rattle.pg_binding.specs.Prelude.{SpanGame, StandsFor, Stopped, Telling, VecGame, book_text}
use Rattle.pg_binding.specs.Prelude.{refusal_status, refusal_text, span_book_text, span_entry}
use Rattle.pg_binding.specs.Prelude.{vector_book_text, vector_entry}
use Rattle.pg_binding.specs.declared.telling.TheConstants.{MAX_PAGES}
use Rattle.pg_binding.specs.Books.{BookEntry}
use Rattle.pg_binding.specs.Books.BookEntry.{OfGame, OfSpan, OfVectors}

-- ---- books

-- the tree of play of a certificate with trees or cuts, which is valid and has few nodes
pub record IsPlayedOut (g : Game) (cert tree : Cert) : Type 0 where
  pub sets : has_sets cert ≡ true
  pub played : IsPlayTree g cert tree
  pub valid : IsValid g tree
  pub few : node_count tree.claims ≤ MAX_PAGES

-- what is shown of a certificate: its tree of play, or itself where that isn't due
abbrev pub IsShownAs : Game → Cert → Cert → Type 0
IsShownAs g cert shown =
    ((shown ≡ cert) × IsUnplayed g cert MAX_PAGES) ⊎ IsPlayedOut g cert shown

-- the book, with that layout and to that depth if there are such, of what is shown of the
-- certificate for which this one stands, which is valid
pub record IsBook (g : Game) (e : Evidence) (layout : Option Chart) (depth : Option ℕ)
    (text : Bytes) (status : ℕ) : Type 0 where
  pub cert : Cert
  pub stands : StandsFor g e cert
  pub valid : IsValid g cert
  pub shown : Cert
  pub shows : IsShownAs g cert shown
  pub text_is : text ≡ book_text layout g shown depth
  pub status_is : status ≡ DONE

-- the book of a valid certificate of a connectivity game
pub record IsSpanBook (g : SpanGame) (c : SpanCert) (text : Bytes) (status : ℕ) : Type 0 where
  pub valid : IsSpanValid g c
  pub text_is : text ≡ span_book_text g c
  pub status_is : status ≡ DONE

-- the book of a valid certificate of a game on vectors
pub record IsVectorBook (g : VecGame) (c : Cert) (text : Bytes) (status : ℕ) : Type 0 where
  pub valid : IsVecValid g c
  pub text_is : text ≡ vector_book_text g c
  pub status_is : status ≡ DONE

-- why a certificate is rejected, as `check` prints it
pub record IsRejection (Rejects : Refusal → Type 0) (text : Bytes) (status : ℕ) : Type 0 where
  pub refusal : Refusal
  pub rejects : Rejects refusal
  pub text_is : text ≡ refusal_text refusal
  pub status_is : status ≡ refusal_status refusal

-- ---- what was read

-- a certificate's book, or why it is rejected
abbrev pub IsEvidenceDue : Game → Evidence → Option Chart → Option ℕ → Bytes → ℕ → Type 0
IsEvidenceDue g e layout depth text status =
    IsBook g e layout depth text status ⊎ IsRejection (RejectsEvidence g e) text status

abbrev pub IsSpanDue : SpanGame → SpanCert → Bytes → ℕ → Type 0
IsSpanDue g c text status = IsSpanBook g c text status ⊎ IsRejection (RejectsSpan g c) text status

abbrev pub AreVectorsDue : VecGame → Cert → Bytes → ℕ → Type 0
AreVectorsDue g c text status =
    IsVectorBook g c text status ⊎ IsRejection (RejectsVectors g c) text status

-- what is printed of a game and a certificate that were read, or of what was refused, if books of
-- games on lines and of switching games are to have that layout and that depth
abbrev pub IsBookDue : Option Chart → Option ℕ → Result BookEntry Halt → Bytes → ℕ → Type 0
IsBookDue layout depth (Err halt) text status = IsHaltDue halt text status
IsBookDue layout depth (Ok (OfGame entry e)) text status =
    (g : Game) × IsSaidBy entry g × IsEvidenceDue g e layout depth text status
IsBookDue layout depth (Ok (OfSpan entry c)) text status =
    (g : SpanGame) × (span_entry g ≡ entry) × IsSpanDue g c text status
IsBookDue layout depth (Ok (OfVectors entry c)) text status =
    (g : VecGame) × (vector_entry g ≡ entry) × AreVectorsDue g c text status

-- ---- what the code makes

-- the whole of a text, unless memory ran out
abbrev pub IsWholeBook : Bytes → Result Telling Halt → Type 0
IsWholeBook text (Ok told) = (string_bytes told.words ≡ text) × (told.status ≡ DONE)
IsWholeBook text (Err halt) = halt ≡ Stopped Memory

-- the book of what is shown of a certificate, unless memory ran out
abbrev pub IsShownBook : Game → Cert → Option Chart → Option ℕ → Result Telling Halt → Type 0
IsShownBook g cert layout depth (Ok told) = (shown : Cert) × IsShownAs g cert shown
    × (string_bytes told.words ≡ book_text layout g shown depth)
    × (told.status ≡ DONE)
IsShownBook g cert layout depth (Err halt) = halt ≡ Stopped Memory
