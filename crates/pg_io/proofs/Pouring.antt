-- A file that comes piece by piece.
use Rattle.std.proofs.Common.{◌≡◌, ℕ, ◌+◌, ◌-◌, ◌≤◌, false, List, [], ◌++◌, length, take, Option}
use Rattle.std.proofs.Common.{Some, None, Result, Ok, Err, refl, sym, ◌∙◌, ap, subst, arith}
use Rattle.std.specs.Prelude.{⊤, IfSome, IsSome, SomeIff, is_err}
use Rattle.std.proofs.lemmas.List.{append-nil, append_assoc, length-append, length-take-le}
use Rattle.std.proofs.lemmas.List.{take-append-le}
use Rattle.pg_io.specs.Files.{Bytes, Holding, Opens, Takes}
use Rattle.pg_io.specs.Reading.{Goes, IsFile, IsWhole, Pours}

-- so many bytes may come that are within the limit, or none, since one too many has come
abbrev pub HasSpare : ℕ → Option ℕ → ℕ → Type 0
HasSpare limit None count = count ≡ limit + 1
HasSpare limit (Some within) count = count + within ≡ limit

-- how many bytes may come
abbrev pub turns : Option ℕ → ℕ
turns None = 0
turns (Some within) = within + 1

-- some bytes stood before what is left, and were taken
abbrev pub HasPoured : {S : Type 0}
    → (S → S → Bytes → Type 0)
    → S
    → S
    → Option Bytes
    → Option Bytes
    → ℕ
    → Option ℕ
    → Type 0
HasPoured took before after None now limit spare = ⊤
HasPoured took before after (Some all) None limit spare = ⊥
HasPoured took before after (Some all) (Some left) limit spare =
    (text : Bytes) × (all ≡ text ++ left)
    × HasSpare limit spare (length text)
    × Goes took before after text

goes_then : {S : Type 0} (took : S → S → Bytes → Type 0) (a b c : S) (text more : Bytes)
    → Goes took a b text
    → Goes took b c more
    → Goes took a c (text ++ more)
goes_then took a b c text more h k first bytes t = subst (λ (l : Bytes). took first c l)
    (append_assoc bytes text more) (k first (bytes ++ text) (h first bytes t))

-- one piece more was taken
pub pours_more : {S : Type 0} (E : Type 0) (took : S → S → Bytes → Type 0) (a b c : S)
    (first left now : Option Bytes) (limit within count : ℕ) (spare : Option ℕ) (buf behind : Bytes)
    → HasPoured took a b first left limit (Some within)
    → Takes {E = E} left now buf (Ok count)
    → count ≤ length buf
    → count ≤ within + 1
    → SomeIff spare (count ≤ within) (within - count)
    → Goes took b c (take count (buf ++ behind))
    → HasPoured took a c first now limit spare
pours_more E took a b c None left now limit within count spare buf behind h takes bound most sub
    goes = tt
pours_more E took a b c
    (Some all) None now limit within count spare buf behind h takes bound most sub goes = absurd h
pours_more E took a b c (Some all)
    (Some left) None limit within count spare buf behind h takes bound most sub goes = absurd takes
pours_more E took a b c (Some all) (Some left) (Some now) limit within count spare buf behind (
  text,
  is,
  fits,
  before,
) (piece, _) bound most sub goes = (
  text ++ take count buf,
  is ∙ ap (λ (l : Bytes). text ++ l) piece ∙ sym (append_assoc text (take count buf) now),
  fitted spare sub,
  goes_then took a b c text (take count buf) before
      (subst (λ (l : Bytes). Goes took b c l) (take-append-le count buf behind bound) goes),
) where
  long : length (text ++ take count buf) ≡ length text + count
  long = length-append text (take count buf)
      ∙ ap (λ (n : ℕ). length text + n) (length-take-le count buf bound)

  fitted : (spare : Option ℕ)
      → SomeIff spare (count ≤ within) (within - count)
      → HasSpare limit spare (length (text ++ take count buf))
  fitted None sub = omega (arith, long, fits, most, sub)
  fitted (Some rest) sub = omega (arith, long, fits, sub)

-- what is poured of an open file is poured of its name
pub pours_name : {S E : Type 0} (held : Option Holding) (name : Bytes) (left : Option Bytes)
    (opened : Result (Unit {0}) E) (limit : ℕ) (took : S → S → Bytes → Type 0) (before after : S)
    → Opens held name left opened
    → is_err opened ≡ false
    → IfSome left (λ all. Goes took before after (take (limit + 1) all))
    → Pours held name limit took before after
pours_name None name left opened limit took before after opens ok goes = tt
pours_name (Some held) name left (Err e) limit took before after opens ok goes = absurd (cc ok)
pours_name {S} {E} (Some held) name left (Ok u) limit took before after (is, some) ok goes =
    go (held name) is some where
      go : (o : Option Bytes)
          → left ≡ o
          → IsSome o
          → (text : Bytes) × IsWhole o limit text × Goes took before after text
      go None is some = absurd (cc some)
      go (Some all) is some = (
        take (limit + 1) all,
        refl,
        subst
            (λ (o : Option Bytes). IfSome o (λ all. Goes took before after (take (limit + 1) all)))
            is goes,
      )

-- what keeps all that it takes, and had taken nothing, has the file
pub pours_whole : {S : Type 0} (items : S → Bytes) (held : Option Holding) (name : Bytes)
    (limit : ℕ) (before after : S)
    → items before ≡ []
    → Pours held name limit (λ first kept bytes. items kept ≡ items first ++ bytes) before after
    → IsFile held name limit (items after)
pours_whole items None name limit before after none pours = tt
pours_whole items (Some held) name limit before after none (text, whole, goes) =
    let e : items after ≡ text =
    goes before [] (sym (append-nil (items before))) ∙ ap (λ (l : Bytes). l ++ text) none in
    subst (λ (t : Bytes). IsWhole (held name) limit t) (sym e) whole
