-- A file that is read whole: a reader is fed all of it, and the parts are gathered.
use Rattle.std.proofs.Common.{◌≡◌, ℕ, ◌-◌, ◌≤◌, List, ◌++◌, length, take, drop, arith, sym, ap}
use Rattle.std.proofs.Common.{subst, ◌∙◌, append_assoc, Option, refl, Ok, Err}
use Rattle.std.specs.Prelude.{fold}
use Rattle.pg_cert_files.proofs.Common.{append-nil, nil_from_length, take_all, length-drop}
use Rattle.pg_cert_files.proofs.Common.{take-append-drop, Bytes, FileError, IsWithinLimits}
use Rattle.pg_cert_files.proofs.Common.{all_parts, Claim, Version, Cert, Part, IsReadAs}
use Rattle.pg_text.specs.declared.error.FileError.TheVariants as outcomes
use Rattle.pg_cert_files.specs.CertFile.{Gathered, with_part, gathered, closed, listed, certificate}
use Rattle.pg_cert_files.specs.Gatherer.{view}
use Rattle.pg_cert_files.specs.Pieces.{parts_told, IsFed, AreAllParts, IsEnd}
use Rattle.pg_cert_files.specs.declared.cert_state.CertReader.{CertReader}
use Rattle.pg_cert_files.specs.declared.gathered_parts.Gatherer.{Gatherer}
use Rattle.pg_cert_files.proofs.WholeFile.{gathered_more, cert_of}
use Rattle.pg_cert_files.proofs.PartsBegin.{parts_gathered}

-- all before the rest has been fed, and its parts are gathered
pub record HasRead (r : CertReader) (g : Gatherer) (bytes rest : Bytes) : Type 0 where
  pub front : Bytes
  pub cut : bytes ≡ front ++ rest
  pub fed : IsFed r front
  pub parts : view g ≡ gathered (parts_told front)

pub reads_more : (r next : CertReader) (g more : Gatherer) (bytes rest : Bytes) (used : ℕ)
    (part : Option Part)
    → used ≤ length rest
    → HasRead r g bytes rest
    → ((text : Bytes) → IsFed r text → IsFed next (text ++ take used rest))
    → ((text : Bytes) → IsFed r text
    → parts_told (text ++ take used rest) ≡ parts_told text ++ listed part)
    → view more ≡ fold with_part (view g) (listed part)
    → HasRead next more bytes (take (length rest - used) (drop used rest))
reads_more r next g more bytes rest used part few read fed parts with =
    let all : take (length rest - used) (drop used rest) ≡ drop used rest =
    take_all _ _ (omega (arith, length-drop used rest)) in
    let cut : bytes ≡ (read.front ++ take used rest) ++ drop used rest = read.cut
    ∙ ap (λ (t : Bytes). read.front ++ t) (sym (take-append-drop used rest))
    ∙ sym (append_assoc read.front (take used rest) (drop used rest)) in
    record {
      front = read.front ++ take used rest;
      cut = subst (λ (t : Bytes). bytes ≡ (read.front ++ take used rest) ++ t) (sym all) cut;
      fed = fed read.front read.fed;
      parts = with
          ∙ ap (λ (x : Gathered). fold with_part x (listed part)) read.parts
          ∙ sym (gathered_more (parts_told read.front) (listed part))
          ∙ ap (λ (ps : List Part). gathered ps) (sym (parts read.front read.fed));
    }

front_is : (bytes front rest : Bytes) → bytes ≡ front ++ rest → length rest ≡ 0 → front ≡ bytes
front_is bytes front rest e none =
    sym (e ∙ ap (λ (t : Bytes). front ++ t) (nil_from_length rest none) ∙ append-nil front)

-- all bytes have been fed
pub read_all : (r : CertReader) (g : Gatherer) (bytes rest : Bytes)
    → HasRead r g bytes rest
    → length rest ≡ 0
    → IsFed r bytes × (view g ≡ gathered (parts_told bytes))
read_all r g bytes rest read none =
    let same = front_is bytes read.front rest read.cut none in
    (subst (IsFed r) same read.fed, read.parts ∙ ap (λ (t : Bytes). gathered (parts_told t)) same)

pub read_bad : (bytes : Bytes) (error : FileError)
    → IsEnd (Err error) bytes
    → IsReadAs (Err error) (certificate bytes)
read_bad bytes outcomes.Memory ends = tt
read_bad bytes (outcomes.Bad number line) ends = ends

-- the claims that were gathered are those of the certificate
pub read_good : (bytes : Bytes) (version : Version) (g more : Gatherer) (last : Option Part)
    (claims : List Claim)
    → ((cert : Cert) → certificate bytes ≡ Ok cert → version ≡ cert.version)
    → AreAllParts bytes (parts_told bytes ++ listed last)
    → view g ≡ gathered (parts_told bytes)
    → view more ≡ fold with_part (view g) (listed last)
    → claims ≡ closed (view more)
    → (certificate bytes ≡ cert_of version claims)
    × IsWithinLimits (record { version = version; claims = claims })
read_good bytes version g more last claims named whole read with all =
    let seen : view more ≡ gathered (all_parts whole.cert.claims) = with
    ∙ ap (λ (x : Gathered). fold with_part x (listed last)) read
    ∙ sym (gathered_more (parts_told bytes) (listed last))
    ∙ ap (λ (ps : List Part). gathered ps) whole.parts in
    let same : claims ≡ whole.cert.claims =
    all ∙ ap (λ (x : Gathered). closed x) seen ∙ parts_gathered whole.cert.claims in
    let is : whole.cert ≡ record { version = version; claims = claims } =
    rw (named whole.cert whole.read, same) refl in
    (whole.read ∙ ap (λ (c : Cert). Ok c) is, subst IsWithinLimits is whole.limits)
