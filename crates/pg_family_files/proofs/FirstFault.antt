-- The first fault of a file, and the least of its line.
use Rattle.std.proofs.Common.{◌≡◌, ℕ, ◌<◌, Bool, true, false, cond, not, ◌||◌, ◌⊎◌, inl, inr, List}
use Rattle.std.proofs.Common.{[], ◌∷◌, length, Result, Ok, Err, Option, Some, None, refl, sym, ap}
use Rattle.std.proofs.Common.{◌∙◌, arith}
use Rattle.std.specs.Prelude.{nat_lt, ◌==◌, is_none}
use Rattle.pg_family_files.proofs.Common.{list_all, ltb-true, Side, Bytes, lines, words, reading}
use Rattle.pg_family_files.proofs.Common.{least, IsLeast, is_least, unless_err, first_fault, Fault}
use Rattle.pg_files.specs.declared.fault.Fault.TheVariants as faults
use Rattle.pg_files.specs.GameFile.{first, rest, is_printable, begins_comment}
use Rattle.pg_family_files.specs.Family.{key_of}
use Rattle.pg_family_files.specs.FamilyFile.{Draft, Whole, nothing, after, significant, keyed}
use Rattle.pg_family_files.specs.FamilyFile.{keyed_fault, named, said, is_header, whole, ended}
use Rattle.pg_family_files.specs.FamilyFile.{turned, made}
use Rattle.pg_family_files.specs.Laws.{named_faults, words_faults, line_faults, IsFirstFault, Lacks}
use Rattle.pg_family_files.specs.Laws.{IsWholeFault}
use Rattle.pg_family_files.specs.declared.family.Family.{Family}
use Rattle.pg_family_files.specs.declared.family.Key.{Key}

named_err : (family : Family) (d : Draft) (key : Option Key) (arguments : List Bytes)
    (fault : Fault)
    → named family d key arguments ≡ Err fault
    → least ((faults.Key, is_none key) ∷ named_faults family d key arguments) ≡ Some fault
unfolding keyed
named_err family d None arguments fault e = cc
named_err family d (Some key) arguments fault e =
    unless_err (keyed_fault family d key arguments) fault (said d key arguments) e

words_err : (begun header : Bool) (family : Family) (d : Draft) (key : Option Key)
    (arguments : List Bytes) (fault : Fault) (next : Draft)
    → cond begun (named family d key arguments) (cond header (Ok next) (Err faults.Header))
    ≡ Err fault
    → least (cond begun ((faults.Key, is_none key) ∷ named_faults family d key arguments) ((
      faults.Header,
      not header,
    ) ∷ [])) ≡ Some fault
words_err true header family d key arguments fault next e = named_err family d key arguments fault e
words_err false true family d key arguments fault next e = absurd cc
words_err false false family d key arguments fault next e = cc

significant_err : (family : Family) (d : Draft) (ws : List Bytes) (fault : Fault)
    → significant family d ws ≡ Err fault
    → least (words_faults family d ws) ≡ Some fault
unfolding significant
significant_err family d ws fault e = words_err d.begun (is_header family ws) family d
    (key_of family (first ws)) (rest ws) fault (record d { begun = true }) e

line_err : (printable skipped : Bool) (family : Family) (d : Draft) (ws : List Bytes)
    (fault : Fault)
    → cond (not printable) (Err faults.Bytes) (cond skipped (Ok d) (significant family d ws))
    ≡ Err fault
    → least ((faults.Bytes, not printable) ∷ cond skipped [] (words_faults family d ws))
    ≡ Some fault
line_err false skipped family d ws fault e = cc
line_err true true family d ws fault e = absurd cc
line_err true false family d ws fault e = significant_err family d ws fault e

after_err : (family : Family) (d : Draft) (line : Bytes) (fault : Fault)
    → after family d line ≡ Err fault
    → IsLeast fault (line_faults family d line)
unfolding after
after_err family d line fault e = is_least (line_faults family d line) fault
    (line_err (list_all is_printable line)
    (begins_comment line || length (words line) == 0) family d (words line) fault e)

-- ---- the first of a file

abbrev bad : Fault → ℕ → Result Draft (Fault × ℕ)
bad fault n = Err (fault, n)

abbrev wrong : Fault → ℕ → Result Whole (Fault × ℕ)
wrong fault n = Err (fault, n)

wrong_is : (f g : Fault) (n m : ℕ) → wrong f n ≡ wrong g m → (f ≡ g) × (n ≡ m)
wrong_is f g n m e =
    let p : ◌≡◌ {A = Fault × ℕ} (f, n) (g, m) = cc in
    (ap (λ (x : Fault × ℕ). x.0) p, ap (λ (x : Fault × ℕ). x.1) p)

turned_err : (d : Draft) (turn : Option Side) (fault : Fault) (m : ℕ)
    → turned d turn ≡ Err (fault, m)
    → (m ≡ 0) × (turn ≡ None) × (fault ≡ faults.Ends)
turned_err d (Some turn) fault m e = absurd cc
turned_err d None fault m e =
    let same = wrong_is faults.Ends fault 0 m e in
    (sym same.1, refl, sym same.0)

end_err : (begun : Bool) (d : Draft) (fault : Fault) (m : ℕ)
    → d.begun ≡ begun
    → cond begun (turned d d.turn) (Err (faults.Header, 0)) ≡ Err (fault, m)
    → (m ≡ 0) × Lacks d fault
end_err true d fault m is e = let h = turned_err d d.turn fault m e in (h.0, inr (is, h.1, h.2))
end_err false d fault m is e =
    let same = wrong_is faults.Header fault 0 m e in
    (sym same.1, inl (is, sym same.0))

-- a fault at the end has line 0, and one of a line is that of reading
ended_err : (read : Result Draft (Fault × ℕ)) (fault : Fault) (m : ℕ)
    → ended read ≡ Err (fault, m)
    → ((m ≡ 0) × (d : Draft) × (read ≡ Ok d) × Lacks d fault) ⊎ (read ≡ bad fault m)
ended_err (Ok d) fault m e = let h = end_err d.begun d fault m refl e in inl (h.0, d, refl, h.1)
ended_err (Err f) fault m e =
    let same = wrong_is f.0 fault f.1 m e in
    inr (ap (λ (g : Fault). bad g f.1) same.0 ∙ ap (λ (n : ℕ). bad fault n) same.1)

size_or : (big : Bool) (read : Result Draft (Fault × ℕ)) (fault : Fault) (m : ℕ)
    → cond big (Err (faults.Size, 0)) (ended read) ≡ Err (fault, m)
    → ((big ≡ true) × (faults.Size ≡ fault) × (0 ≡ m)) ⊎ (ended read ≡ wrong fault m)
size_or true read fault m e =
    let same = wrong_is faults.Size fault 0 m e in
    inl (refl, same.0, same.1)
size_or false read fault m e = inr e

pub first_of_file : (family : Family) (text : Bytes) (fault : Fault) (m : ℕ)
    → whole family text ≡ Err (fault, m)
    → 0 < m
    → IsFirstFault family text fault m
unfolding whole
first_of_file family text fault m e some = elim (size_or (nat_lt 4194304 (length text))
    (reading (after family) 1 nothing (lines text)) fault m e) [
      | inl h ↦ absurd (omega (arith, h.2))
      | inr h ↦ elim (ended_err (reading (after family) 1 nothing (lines text)) fault m h) [
        | inl k ↦ absurd (omega (arith, k.0))
        | inr k ↦
            let found = first_fault (after family) nothing 1 (lines text) fault m k in
            let f = found.2 in
            record {
              before = f.before;
              line = f.line;
              behind = f.behind;
              draft = f.state;
              cut = f.cut;
              sound = f.sound 1;
              least = after_err family f.state f.line fault f.here;
              counted = omega (arith, found.1, f.number);
            }
      ]
    ]

pub whole_of_file : (family : Family) (text : Bytes) (fault : Fault)
    → whole family text ≡ Err (fault, 0)
    → IsWholeFault family text fault
unfolding whole
whole_of_file family text fault e = elim (size_or (nat_lt 4194304 (length text))
    (reading (after family) 1 nothing (lines text)) fault 0 e) [
      | inl h ↦ record { why = inl (ltb-true 4194304 (length text) h.0, sym h.1) }
      | inr h ↦ elim (ended_err (reading (after family) 1 nothing (lines text)) fault 0 h) [
        | inl k ↦ record { why = inr (record { draft = k.1; sound = k.2; lacks = k.3 }) }
        | inr k ↦
            let found = first_fault (after family) nothing 1 (lines text) fault 0 k in
            absurd (omega (arith, found.1))
      ]
    ]

-- ---- games

pub made_err : {G : Type 0} (make : Whole → G) (read : Result Whole (Fault × ℕ)) (fault : Fault)
    (m : ℕ)
    → ◌≡◌ {A = Result G (Fault × ℕ)} (made make read) (Err (fault, m))
    → read ≡ wrong fault m
made_err make (Ok w) fault m e = absurd cc
made_err make (Err f) fault m e =
    let p : ◌≡◌ {A = Fault × ℕ} f (fault, m) = cc in
    ap (λ (x : Fault × ℕ). Err x) p
