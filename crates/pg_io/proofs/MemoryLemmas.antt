-- Finding a file in the list, and putting one in front.
use Rattle.std.proofs.Common.{◌≡◌, ◌≢◌, ℕ, ◌+◌, ◌<◌, ◌≤◌, Bool, true, false, List, [], ◌∷◌, ◌++◌}
use Rattle.std.proofs.Common.{length, min, length-take, take, drop, get_or, Option, Some, None}
use Rattle.std.proofs.Common.{refl, sym, ◌∙◌, ap, subst, arith, slice_get, rules}
use Rattle.std.specs.List.{find, position, position_or_len}
use Rattle.std.specs.Option.{option_map, IsSome}
use Rattle.std.specs.Str.{bytes_eq}
use Rattle.std.proofs.lemmas.List.Folds.{find_at}
use Rattle.std.proofs.lemmas.List.{take-append-drop, drop-drop}
use Rattle.std.proofs.Math.Seq.{take-append_seam}
use Rattle.std.proofs.lemmas.List.Quantifiers.{position-Some}
use Rattle.std.proofs.lemmas.Option.{cond_some, slice_get_read, slice_get_past, slice_get-get_or}
use Rattle.std.proofs.lemmas.Slice.Eq.{bytes_eq-Decides}
use Rattle.std.proofs.lemmas.Bool.Decides.{nat_tests}
use Rattle.pg_io.specs.Files.{Bytes, Stores}
use Rattle.pg_io.specs.Memory.{has_name, held_by, contents, unread}

pub found : {X : Type 0} (p : X → Bool) (xs : List X) (i : ℕ)
    → position p xs ≡ Some i
    → find p xs ≡ slice_get xs i
found p xs i e = find_at p xs ∙ ap (slice_get xs) (cond_some _ _ _ e).1

pub lost : {X : Type 0} (p : X → Bool) (xs : List X) → position p xs ≡ None → find p xs ≡ None
lost p xs e =
    let past : length xs ≤ position_or_len p xs = grind (arith, nat_tests, e) in
    find_at p xs ∙ slice_get_past xs (position_or_len p xs) past

pub held-found : (files : List (Bytes × Bytes)) (name : Bytes) (i : ℕ)
    → position (has_name name) files ≡ Some i
    → (held_by files name ≡ Some (get_or files i ([], [])).1) × (i < length files)
unfolding held_by
held-found files name i e =
    let within : i < length files = (position-Some (has_name name) files i ([], []) e).0 in (
      ap (option_map (λ f. f.1))
          (found (has_name name) files i e ∙ slice_get-get_or files i ([], []) within),
      within,
    )

pub held-lost : (files : List (Bytes × Bytes)) (name : Bytes)
    → position (has_name name) files ≡ None
    → held_by files name ≡ None
unfolding held_by
held-lost files name e = ap (option_map (λ f. f.1)) (lost (has_name name) files e)

pub held-front : (files : List (Bytes × Bytes)) (file : Bytes × Bytes)
    → Stores (held_by files) file (held_by (file ∷ files))
unfolding held_by
held-front files file =
    let is_same : bytes_eq file.0 file.0 ≡ true = grind (arith, bytes_eq-Decides) in
    record {
      there = rw is_same refl;
      others = λ name other.
          let differs : bytes_eq file.0 name ≡ false = grind (arith, bytes_eq-Decides, other) in
          rw differs refl;
    }

pub held-opened : (files : List (Bytes × Bytes)) (name : Bytes) (i : ℕ)
    → position (has_name name) files ≡ Some i
    → (◌≡◌ {A = Option Bytes} (Some (unread files (Some i) 0)) (held_by files name))
    × IsSome (held_by files name)
held-opened files name i e =
    let parts : (held_by files name ≡ Some (get_or files i ([], [])).1) × (i < length files) =
    held-found files name i e in
    let there : slice_get files i ≡ Some (get_or files i ([], [])) =
    slice_get-get_or files i ([], []) parts.1 in
    (rw there (sym parts.0), rw parts.0 (search rules))

pub held-read : (files : List (Bytes × Bytes)) (name : Bytes) (i : ℕ) (file : Bytes × Bytes)
    → position (has_name name) files ≡ Some i
    → file ≡ get_or files i file
    → ◌≡◌ {A = Option Bytes} (Some file.1) (held_by files name)
unfolding held_by
held-read files name i file e is =
    let within : i < length files = (position-Some (has_name name) files i ([], []) e).0 in
    sym
    (ap (option_map (λ f. f.1))
    (found (has_name name) files i e ∙ slice_get_read files (length files) i file refl within is))

pub taken_front : (left copied rest : Bytes) (k : ℕ)
    → k ≤ length left
    → copied ≡ take k left
    → left ≡ take k (copied ++ rest) ++ drop k left
taken_front left copied rest k fits is =
    let size : length copied ≡ k = ap length is ∙ grind (arith, length-take) in
    let e : take k (copied ++ rest) ≡ take k left =
    subst (λ n. take n (copied ++ rest) ≡ take k left) size (take-append_seam copied rest ∙ is) in
    sym (ap (λ front. front ++ drop k left) e ∙ take-append-drop k left)

pub unread_after : (files : List (Bytes × Bytes)) (opened : Option ℕ) (from k : ℕ)
    → unread files opened (from + k) ≡ drop k (unread files opened from)
unread_after files opened from k = sym (drop-drop k from (contents files opened))

pub none_left : (left : Bytes) (room k : ℕ)
    → 0 < room
    → k ≡ min room (length left)
    → k ≡ 0
    → left ≡ []
none_left [] room k positive is none = refl
none_left (b ∷ left) room k positive is none = absurd (grind (arith, is, none, positive))

pub held-present : (files : List (Bytes × Bytes)) (name : Bytes) (i : ℕ)
    → position (has_name name) files ≡ Some i
    → held_by files name ≢ None
held-present files name i e absent =
    let parts : (held_by files name ≡ Some (get_or files i ([], [])).1) × (i < length files) =
    held-found files name i e in
    cc (parts.0, absent)
