-- What names hold, from what was read of them.
use Rattle.std.proofs.Common.{◌≡◌, ℕ, ◌+◌, ◌<◌, true, nat_lt, min, length, take, Option, Some, None}
use Rattle.std.proofs.Common.{Result, Ok, Err, refl, sym, ◌∙◌, ap, subst, inl, inr, arith}
use Rattle.std.proofs.Common.{length-take}
use Rattle.pg_talk.proofs.Common.{nat_tests, take_all, Bytes, Holding, IsWhole, IsFile, Cert}
use Rattle.pg_talk.proofs.Common.{certificate, Refusal}
use Rattle.std.proofs.lemmas.Bool.{cases_lt}
use Rattle.std.specs.Prelude.{IsErrAnd}
use Rattle.pg_cert_lines.specs.declared.fault.Fault.TheVariants.{Size}
use Rattle.pg_cert_files.specs.declared.limits.TheConstants.{MAX_CERT_BYTES}
use Rattle.pg_talk.specs.Reading.{IsReadAs, Opens, OpensCertificate, OpensTwo, certificate_held}
use Rattle.pg_talk.specs.Reading.{held_as, or_halt}
use Rattle.pg_talk.specs.declared.halt.Halt.{Halt}
use Rattle.pg_talk.specs.declared.halt.Halt.TheVariants.{Refused}

-- ---- texts that are too long

is_above : (n m : ℕ) → n < m → nat_lt n m ≡ true
is_above n m h = grind (arith, nat_tests, h)

-- a text that is too long for a limit stays so where it is cut one byte behind it
long_stays : (limit : ℕ) (all : Bytes)
    → limit < length all
    → nat_lt limit (length (take (limit + 1) all)) ≡ true
long_stays limit all long =
    let size : length (take (limit + 1) all) ≡ min (limit + 1) (length all) =
    length-take (limit + 1) all in
    is_above limit (length (take (limit + 1) all)) (omega (arith, size))

-- one byte more than the limit tells as much as the whole file, where all texts that are too long
-- give the same
pub cut_same : {T : Type 0} (limit : ℕ) (read : Bytes → T) (long : T)
    → ((text : Bytes) → nat_lt limit (length text) ≡ true → read text ≡ long)
    → (all : Bytes) → read (take (limit + 1) all) ≡ read all
cut_same limit read long same all =
    elim (cases_lt limit (length all)) as (λ _. read (take (limit + 1) all) ≡ read all) [
      | inl above ↦ same (take (limit + 1) all) (long_stays limit all above)
          ∙ sym (same all (is_above limit (length all) above))
      | inr short ↦
          let e : take (limit + 1) all ≡ all = take_all (limit + 1) all (omega (arith, short)) in
          ap read e
    ]

-- ---- what was read

pub read_ok : {T F : Type 0} (halt_of : F → Halt) (r : Result T F) (x : T)
    → r ≡ Ok x
    → or_halt halt_of r ≡ Ok x
read_ok halt_of r x e = ap (or_halt halt_of) e

pub read_bad : {T F : Type 0} (number_of : F → ℕ) (halt_of : ℕ → ℕ → Halt) (r : Result T (F × ℕ))
    (number line : ℕ)
    → IsErrAnd r (λ bad. (number ≡ number_of bad.0) × (line ≡ bad.1))
    → or_halt (λ fault. halt_of (number_of fault.0) fault.1) r ≡ Err (halt_of number line)
read_bad number_of halt_of (Ok x) number line h = absurd h
read_bad number_of halt_of (Err fault) number line h =
    ap (λ (n : ℕ). Err (halt_of n fault.1)) (sym h.0)
    ∙ ap (λ (l : ℕ). Err (halt_of number l)) (sym h.1)

module _ {B : Type 0} (limit : ℕ) (read : Bytes → Result B Halt)
    (cut : (all : Bytes) → read (take (limit + 1) all) ≡ read all) where
  pub whole_read : (o : Option Bytes) (text : Bytes)
      → IsWhole o limit text
      → held_as read o ≡ read text
  whole_read None text whole = absurd whole
  whole_read (Some all) text whole = sym (cut all) ∙ sym (ap read whole)

  pub opens_whole : {A : Type 0} (view : A → B) (h : Option Holding) (name text : Bytes)
      (r : Result A Halt)
      → IsFile h name limit text
      → IsReadAs view (read text) r
      → Opens view (held_as read) h name r
  opens_whole view None name text r whole is = tt
  opens_whole view (Some held) name text r whole is =
      subst (λ (o : Result B Halt). IsReadAs view o r) (sym (whole_read (held name) text whole)) is

-- ---- a certificate

pub certificate_cut : (all : Bytes) → certificate (take (MAX_CERT_BYTES + 1) all) ≡ certificate all
unfolding certificate
certificate_cut all =
    cut_same MAX_CERT_BYTES certificate (Err (Size, 0)) (λ text long. rw long refl) all

pub opens_certificate : (h : Option Holding) (name text : Bytes) (r : Result Cert Halt)
    → IsFile h name MAX_CERT_BYTES text
    → IsReadAs (λ x. x) (certificate_held (Some text)) r
    → OpensCertificate h name r
opens_certificate h name text r whole is =
    opens_whole MAX_CERT_BYTES (λ (text : Bytes). certificate_held (Some text))
    (λ all. rw (certificate_cut all) refl) (λ (x : Cert). x) h name text r whole is

-- ---- what names hold, where it is told

module _ {A B : Type 0} (view : A → B) (read : Option Bytes → Result B Halt) (h : Option Holding)
    (name : Bytes) (held : Holding) (is : h ≡ Some held) where
  pub opened : (x : A) → Opens view read h name (Ok x) → read (held name) ≡ Ok (view x)
  opened x opens = subst (λ (h : Option Holding). Opens view read h name (Ok x)) is opens

  pub not_opened : (halt : Halt) (refusal : Refusal)
      → halt ≡ Refused refusal
      → Opens view read h name (Err halt)
      → read (held name) ≡ Err (Refused refusal)
  not_opened halt refusal this opens =
      let here = subst (λ (h : Option Holding). Opens view read h name (Err halt)) is opens in
      subst (λ (k : Halt). IsReadAs view (read (held name)) (Err k)) this here

module _ {A B : Type 0} (view : A → B) (read : Option Bytes → Option Bytes → Result B Halt)
    (h : Option Holding) (first second : Bytes) (held : Holding) (is : h ≡ Some held) where
  pub opened_two : (x : A)
      → OpensTwo view read h first second (Ok x)
      → read (held first) (held second) ≡ Ok (view x)
  opened_two x opens =
      subst (λ (h : Option Holding). OpensTwo view read h first second (Ok x)) is opens

  pub not_opened_two : (halt : Halt) (refusal : Refusal)
      → halt ≡ Refused refusal
      → OpensTwo view read h first second (Err halt)
      → read (held first) (held second) ≡ Err (Refused refusal)
  not_opened_two halt refusal this opens =
      let here =
      subst (λ (h : Option Holding). OpensTwo view read h first second (Err halt)) is opens in
      subst (λ (k : Halt). IsReadAs view (read (held first) (held second)) (Err k)) this here
