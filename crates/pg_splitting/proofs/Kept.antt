-- Files that are stored one after the other.
use Rattle.std.proofs.Common.{◌≡◌, ◌∙◌, ◌⊎◌, Bool, true, false, List, [], ◌∷◌, ◌++◌}
use Rattle.std.proofs.Common.{Option, Some, None, Result, Ok, Err, ap, append_assoc, arith, inl}
use Rattle.std.proofs.Common.{inr}
use Rattle.std.proofs.Common.{refl, subst, sym, if◌then◌else◌}
use Rattle.std.specs.Prelude.{reverse}
use Rattle.std.specs.Str.{bytes_eq}
use Rattle.std.proofs.lemmas.List.{reverse-append}
use Rattle.std.proofs.lemmas.Slice.Eq.{bytes_eq-Decides}
use Rattle.pg_io.specs.Files.{Bytes, FilesTold, Holding, Making, MayStore, ReadsOnly, Stores}
use Rattle.pg_io.specs.Reading.{Stored}
use Rattle.pg_io.specs.declared.stop.Stop.{Stop}
use Rattle.pg_talk.specs.Done.{Keeps, held_after}
use Rattle.pg_splitting.specs.SplitFiles.{KeepsOutside, StoresAll, StoresIn}

-- ---- what names hold

held_after-append : (held : Holding) (us vs : List Making) (name : Bytes)
    → held_after held (us ++ vs) name ≡ held_after (held_after held vs) us name
held_after-append held [] vs name = refl
held_after-append held (u ∷ us) vs name =
    ap (λ (o : Option Bytes). if bytes_eq u.0 name then Some u.1 else o)
    (held_after-append held us vs name)

held_after-same : (held held' : Holding) (us : List Making) (name : Bytes)
    → ((other : Bytes) → held other ≡ held' other)
    → held_after held us name ≡ held_after held' us name
held_after-same held held' [] name same = same name
held_after-same held held' (u ∷ us) name same =
    ap (λ (o : Option Bytes). if bytes_eq u.0 name then Some u.1 else o)
    (held_after-same held held' us name same)

keeps_then : (held mid : Holding) (xs ys : List Making) (after : Option Holding)
    → Keeps held (reverse xs) (Some mid)
    → Keeps mid (reverse ys) after
    → Keeps held (reverse (xs ++ ys)) after
keeps_then held mid xs ys None first second = absurd second
keeps_then held mid xs ys (Some after) first second =
    subst (λ (files : List Making). Keeps held files (Some after)) (sym (reverse-append xs ys))
    (λ name. second name
    ∙ held_after-same mid (held_after held (reverse xs)) (reverse ys) name first
    ∙ sym (held_after-append held (reverse ys) (reverse xs) name))

-- ---- files

-- the files were stored, and then others
pub stores_then : (xs ys : List Making) (a b c : Option Holding) (r : Result (Unit {0}) Stop)
    → StoresAll xs a b (Ok tt)
    → StoresAll ys b c r
    → StoresAll (xs ++ ys) a c r
stores_then xs ys None b c r first second = tt
stores_then xs ys (Some held) None c r first second = absurd first
stores_then xs ys (Some held) (Some mid) c (Ok u) first second =
    keeps_then held mid xs ys c first second
stores_then xs ys (Some held) (Some mid) c (Err stop) first (front, rest, is, keeps) = (
  xs ++ front,
  rest,
  ap (λ (files : List Making). xs ++ files) is ∙ sym (append_assoc xs front rest),
  keeps_then held mid xs front c first keeps,
)

-- some were stored before the work was stopped
pub stores_some : (xs ys : List Making) (a b : Option Holding) (stop : Stop)
    → StoresAll xs a b (Err stop)
    → StoresAll (xs ++ ys) a b (Err stop)
stores_some xs ys None b stop some = tt
stores_some xs ys (Some held) b stop (front, rest, is, keeps) = (
  front,
  rest ++ ys,
  ap (λ (files : List Making). files ++ ys) is ∙ append_assoc front rest ys,
  keeps,
)

-- ---- one file

keeps_stored : (held after : Holding) (file : Making)
    → Stores held file after
    → Keeps held (file ∷ []) (Some after)
keeps_stored held after file stores name = go (bytes_eq file.0 name) refl where
  go : (same : Bool)
      → bytes_eq file.0 name ≡ same
      → after name ≡ (if same then Some file.1 else held name)
  go true is =
      let e : file.0 ≡ name = grind (arith, bytes_eq-Decides, is) in
      subst (λ (n : Bytes). after n ≡ Some file.1) e stores.there
  go false is = stores.others name
      (λ e. let f : bytes_eq file.0 name ≡ true = grind (arith, bytes_eq-Decides, e) in cc (is, f))

keeps_all : (held after : Holding) (file : Making)
    → MayStore held file after
    → after file.0 ≡ held file.0
    → Keeps held [] (Some after)
keeps_all held after file may same name = go (bytes_eq file.0 name) refl where
  go : (b : Bool) → bytes_eq file.0 name ≡ b → after name ≡ held name
  go true is =
      let e : file.0 ≡ name = grind (arith, bytes_eq-Decides, is) in
      subst (λ (n : Bytes). after n ≡ held n) e same
  go false is = may.others name
      (λ e. let f : bytes_eq file.0 name ≡ true = grind (arith, bytes_eq-Decides, e) in cc (is, f))

pub stores_one : (a b : Option Holding) (file : Making) (r : Result (Unit {0}) Stop)
    → Stored a b file r
    → StoresAll (file ∷ []) a b r
stores_one None b file r stored = tt
stores_one (Some held) None file r stored = absurd stored
stores_one (Some held) (Some after) file (Ok u) stored = keeps_stored held after file stored
stores_one (Some held) (Some after) file (Err stop) may = go may.there where
  go : (after file.0 ≡ held file.0) ⊎ (after file.0 ≡ Some file.1)
      → StoresAll (file ∷ []) (Some held) (Some after) (Err stop)
  go (inl same) = ([], file ∷ [], refl, keeps_all held after file may same)
  go (inr there) = (
    file ∷ [],
    [],
    refl,
    keeps_stored held after file (record { there = there; others = may.others }),
  )

-- ---- other names

outside_then : (folder : Bytes) (a b c : Option Holding)
    → KeepsOutside folder a b
    → KeepsOutside folder b c
    → KeepsOutside folder a c
outside_then folder None b c first second = tt
outside_then folder (Some held) None c first second = absurd first
outside_then folder (Some held) (Some mid) None first second = absurd second
outside_then folder (Some held) (Some mid) (Some after) first second = λ other plan games.
    second other plan games ∙ first other plan games

pub reads_then : (a b c : FilesTold) → ReadsOnly a b → ReadsOnly b c → ReadsOnly a c
reads_then a b c first second = record {
  held = second.held ∙ first.held;
  making = second.making ∙ first.making;
  busy = second.busy ∙ first.busy;
}

pub in_then : (folder : Bytes) (a b c : FilesTold)
    → StoresIn folder a b
    → StoresIn folder b c
    → StoresIn folder a c
in_then folder a b c (inl first) (inl second) = inl (reads_then a b c first second)
in_then folder a b c (inl first) (inr (idle, keeps)) =
    inr (idle, subst (λ (h : Option Holding). KeepsOutside folder h c.held) first.held keeps)
in_then folder a b c (inr (idle, keeps)) (inl second) = inr (
  second.busy ∙ idle,
  subst (λ (h : Option Holding). KeepsOutside folder a.held h) (sym second.held) keeps,
)
in_then folder a b c (inr (idle, keeps)) (inr (idle', keeps')) =
    inr (idle', outside_then folder a.held b.held c.held keeps keeps')
