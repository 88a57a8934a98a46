-- A certificate that is gathered from pieces: how many bytes came, and what is said in the end.
use Rattle.std.proofs.Common.{◌≡◌, ◌∙◌, ℕ, ◌≤◌, Bool, true, false, [], ◌++◌, length}
use Rattle.std.proofs.Common.{Result, Ok, Err, refl, sym, ap, subst, append-nil, append_assoc}
use Rattle.std.proofs.Common.{arith}
use Rattle.std.specs.Prelude.{IfOk, nat_lt}
use Rattle.pg_image.proofs.Common.{Bytes, Fault, FileError, IsReadAs, MAX_CERT_BYTES}
use Rattle.pg_image.proofs.Common.{lines, nat_tests}
use Rattle.pg_cert_files.proofs.Within.{is_within}
use Rattle.pg_image.specs.Gathering.{Gathers, GathersShort, HasRead, HasReadShort, said_within}
use Rattle.pg_image.specs.ImageFile.{image_certificate, said}
use Rattle.pg_image.specs.Limits.{IsImageWithinLimits}
use Rattle.pg_image.specs.Shortened.{AreAlike, short_image_result}
use Rattle.pg_image.specs.declared.cert.ImageCert.{ImageCert}
use Rattle.pg_image.specs.declared.image_gathering.ImageGathering.{ImageGathering}
use Rattle.pg_image.proofs.Whole.{fits_file}
use Rattle.pg_image.proofs.Within.{answer_within}

-- ---- cut short

pub cut : (g n : ImageGathering) (text short : Bytes)
    → n.size ≡ g.size
    → ((t : Bytes) → HasRead g.lines t → HasReadShort n.lines t)
    → Gathers g text short
    → GathersShort n text short
cut g n text short size cuts h = go (nat_lt MAX_CERT_BYTES (length text)) refl where
  go : (b : Bool) → nat_lt MAX_CERT_BYTES (length text) ≡ b → GathersShort n text short
  go true past = record {
    shorter = short;
    gathers = record {
      size = size ∙ h.size;
      fewer = h.fewer;
      read = λ few. absurd (grind (arith, nat_tests, past, few));
    };
    alike = λ more. refl;
  }
  go false within =
      let few : length text ≤ MAX_CERT_BYTES = grind (arith, nat_tests, within) in
      let s = cuts short (h.read few) in
      record {
        shorter = s.short;
        gathers = record {
          size = size ∙ h.size;
          fewer = omega (arith, s.fewer, h.fewer);
          read = λ _. s.read;
        };
        alike = s.alike;
      }

-- ---- the end

-- within the limit the lines decide
within : (g : ImageGathering) (text short : Bytes)
    → g.size ≤ MAX_CERT_BYTES
    → Gathers g text short
    → (length text ≤ MAX_CERT_BYTES) × (said_within text short ≡ said (lines short))
within g text short small h =
    let few = (is_within text g.size h.size small).0 in
    let t : nat_lt MAX_CERT_BYTES (length text) ≡ false = grind (arith, nat_tests, few) in
    (few, rw t refl)

pub limits_within : (g : ImageGathering) (result : Result ImageCert FileError)
    → g.size ≤ MAX_CERT_BYTES
    → ((t : Bytes) → length t ≤ MAX_CERT_BYTES → HasRead g.lines t
    → IsReadAs result (said (lines t)))
    → IfOk result (λ c. (text short : Bytes) → Gathers g text short → IsImageWithinLimits c)
limits_within g (Ok c) small reads = λ text short h.
    let w = within g text short small h in
    let few : length short ≤ MAX_CERT_BYTES = omega (arith, w.0, h.fewer) in
    answer_within (Ok c) short (subst (λ (r : Result ImageCert (Fault × ℕ)). IsReadAs (Ok c) r)
    (sym (fits_file short few)) (reads short few (h.read w.0)))
limits_within g (Err error) small reads = tt

-- what a text says by itself
pub whole_within : (text : Bytes) → said_within text text ≡ image_certificate text
unfolding image_certificate
whole_within text = refl

-- ---- texts that are alike

pub alike_on : (text mid short : Bytes)
    → AreAlike text mid
    → AreAlike mid short
    → AreAlike text short
alike_on text mid short a b = λ more. a more ∙ b more

pub alike_more : (text short bytes : Bytes)
    → AreAlike text short
    → AreAlike (text ++ bytes) (short ++ bytes)
alike_more text short bytes a =
    λ more. ap (λ (t : Bytes). short_image_result (said (lines t))) (append_assoc text bytes more)
    ∙ a (bytes ++ more)
    ∙ sym (ap (λ (t : Bytes). short_image_result (said (lines t))) (append_assoc short bytes more))

-- what is said of a text that is like another
pub certificates_alike : (text short : Bytes)
    → AreAlike text short
    → short_image_result (image_certificate text) ≡ short_image_result (said_within text short)
unfolding image_certificate
certificates_alike text short alike = go (nat_lt MAX_CERT_BYTES (length text)) refl where
  go : (b : Bool)
      → nat_lt MAX_CERT_BYTES (length text) ≡ b
      → short_image_result (image_certificate text) ≡ short_image_result (said_within text short)
  go true past = rw past refl
  go false within = rw within
      (ap (λ (t : Bytes). short_image_result (said (lines t))) (sym (append-nil text))
      ∙ alike []
      ∙ ap (λ (t : Bytes). short_image_result (said (lines t))) (append-nil short))
