-- What names hold, from what was read of them.
use Rattle.std.proofs.Common.{◌≡◌, ◌+◌, ℕ, true, length, take, Option, Some, Result, Err, inl, inr}
use Rattle.std.proofs.Common.{refl, ap, subst, arith}
use Rattle.std.specs.Prelude.{nat_lt}
use Rattle.pg_families.proofs.Common.{nat_tests, take_all, Bytes, Holding, VecGame, SpanCert}
use Rattle.pg_families.proofs.Common.{SpanGame, span_game, vector_game, whole, span_cert}
use Rattle.pg_families.proofs.Common.{span_entry, vector_entry, IsReadAs, or_halt, Halt, cut_same}
use Rattle.pg_families.proofs.Common.{opens_whole, read_bad}
use Rattle.std.proofs.lemmas.Bool.{cases_lt}
use Rattle.pg_io.specs.Reading.{IsFile}
use Rattle.pg_text.specs.Faults.{IsReadAs as IsReadBy}
use Rattle.pg_text.specs.declared.error.FileError.{FileError}
use Rattle.pg_text.specs.declared.error.FileError.TheVariants.{Bad}
use Rattle.pg_files.specs.declared.fault.Fault.TheVariants.{Size}
use Rattle.pg_files.specs.declared.limits.TheConstants.{MAX_GAME_BYTES}
use Rattle.pg_family_files.specs.declared.cert_limits.TheConstants.{MAX_SPAN_CERT_BYTES}
use Rattle.pg_families.specs.Connectivity.{OpensSpan, OpensSpanCert, span_cert_held, span_held}
use Rattle.pg_families.specs.Vectors.{OpensVectors, vectors_held}

-- one byte more than the limit tells as much as the whole file, where all texts that are too long
-- give the same
cut_alike : {T : Type 0} (limit : ℕ) (read : Bytes → T)
    → ((a b : Bytes) → nat_lt limit (length a) ≡ true
    → nat_lt limit (length b) ≡ true
    → read a ≡ read b)
    → (all : Bytes) → read (take (limit + 1) all) ≡ read all
cut_alike limit read alike all =
    elim (cases_lt limit (length all)) as (λ _. read (take (limit + 1) all) ≡ read all) [
      | inl above ↦ cut_same limit read (read all)
          (λ text long. alike text all long (grind (arith, nat_tests, above))) all
      | inr short ↦ ap read (take_all (limit + 1) all (omega (arith, short)))
    ]

span_cut : (all : Bytes) → span_game (take (MAX_GAME_BYTES + 1) all) ≡ span_game all
unfolding whole
span_cut all = cut_same MAX_GAME_BYTES span_game (Err (Size, 0)) (λ text long. rw long refl) all

span_cert_cut : (all : Bytes) → span_cert (take (MAX_SPAN_CERT_BYTES + 1) all) ≡ span_cert all
unfolding span_cert
span_cert_cut all =
    cut_alike MAX_SPAN_CERT_BYTES span_cert (λ a b long_a long_b. rw (long_a, long_b) refl) all

pub opens_span : (h : Option Holding) (name text : Bytes) (r : Result SpanGame Halt)
    → IsFile h name MAX_GAME_BYTES text
    → IsReadAs span_entry (span_held (Some text)) r
    → OpensSpan h name r
opens_span h name text r whole is =
    opens_whole MAX_GAME_BYTES (λ (text : Bytes). span_held (Some text))
    (λ all. rw (span_cut all) refl) span_entry h name text r whole is

pub opens_span_cert : (h : Option Holding) (name text : Bytes) (r : Result SpanCert Halt)
    → IsFile h name MAX_SPAN_CERT_BYTES text
    → IsReadAs (λ x. x) (span_cert_held (Some text)) r
    → OpensSpanCert h name r
opens_span_cert h name text r whole is =
    opens_whole MAX_SPAN_CERT_BYTES (λ (text : Bytes). span_cert_held (Some text))
    (λ all. rw (span_cert_cut all) refl) (λ (x : SpanCert). x) h name text r whole is

-- one byte more than the limit tells as much as the whole file
vector_cut : (all : Bytes) → vector_game (take (MAX_GAME_BYTES + 1) all) ≡ vector_game all
unfolding whole
vector_cut all = cut_same MAX_GAME_BYTES vector_game (Err (Size, 0)) (λ text long. rw long refl) all

pub opens_vectors : (h : Option Holding) (name text : Bytes) (r : Result VecGame Halt)
    → IsFile h name MAX_GAME_BYTES text
    → IsReadAs vector_entry (vectors_held (Some text)) r
    → OpensVectors h name r
opens_vectors h name text r whole is =
    opens_whole MAX_GAME_BYTES (λ (text : Bytes). vectors_held (Some text))
    (λ all. rw (vector_cut all) refl) vector_entry h name text r whole is

-- a bad file gives its fault's number and line
pub bad_opened : {X Y F : Type 0} (number_of : F → ℕ) (halt_of : ℕ → ℕ → Halt) (seen : X → Y)
    (read : Bytes → Result Y (F × ℕ)) (fault : FileError) (number line : ℕ) (lent text : Bytes)
    → lent ≡ text
    → fault ≡ Bad number line
    → IsReadBy number_of seen (Err fault) (read lent)
    → or_halt (λ f. halt_of (number_of f.0) f.1) (read text) ≡ Err (halt_of number line)
bad_opened number_of halt_of seen read fault number line lent text same is bad =
    read_bad number_of halt_of (read text) number line
    (subst (λ (f : FileError). IsReadBy number_of seen (Err f) (read text)) is
    (subst (λ (t : Bytes). IsReadBy number_of seen (Err fault) (read t)) same bad))
