-- The first fault of a file, and the least of its line.
use Rattle.std.proofs.Common.{◌≡◌, ℕ, ◌<◌, Bool, true, false, cond, not, ◌||◌, ◌⊎◌, inl, inr, List}
use Rattle.std.proofs.Common.{[], ◌∷◌, length, Result, Ok, Err, Option, Some, None, refl, sym, ap}
use Rattle.std.proofs.Common.{◌∙◌, arith}
use Rattle.std.specs.Prelude.{nat_lt, ◌==◌, is_none}
use Rattle.pg_files.proofs.Common.{list_all, ltb-true, Kind, Side, Bytes, lines, words, reading}
use Rattle.pg_files.proofs.Common.{least, IsLeast}
use Rattle.pg_files.specs.Key.{key_of}
use Rattle.pg_files.specs.GameFile.{Draft, Entry, nothing, after, significant, keyed, keyed_fault}
use Rattle.pg_files.specs.GameFile.{named, said, first, rest, is_header, is_printable}
use Rattle.pg_files.specs.GameFile.{begins_comment, game, ended, game_of}
use Rattle.pg_files.specs.Laws.{named_faults, words_faults, line_faults, IsFirstFault, Lacks}
use Rattle.pg_files.specs.Laws.{IsWholeFault}
use Rattle.pg_files.specs.declared.fault.Fault.{Fault}
use Rattle.pg_files.specs.declared.fault.Fault.TheVariants as faults
use Rattle.pg_files.specs.declared.key.Key.{Key}
use Rattle.pg_text.proofs.Reading.{is_least, unless_err, first_fault}
use Rattle.pg_files.proofs.Sound.{IsSound, sound_reading, sound_nothing}

named_err : (d : Draft) (key : Option Key) (arguments : List Bytes) (fault : Fault)
    → named d key arguments ≡ Err fault
    → least ((faults.Key, is_none key) ∷ named_faults d key arguments) ≡ Some fault
unfolding keyed
named_err d None arguments fault e = cc
named_err d (Some key) arguments fault e =
    unless_err (keyed_fault d key arguments) fault (said d key arguments) e

words_err : (begun header : Bool) (d : Draft) (key : Option Key) (arguments : List Bytes)
    (fault : Fault) (next : Draft)
    → cond begun (named d key arguments) (cond header (Ok next) (Err faults.Header)) ≡ Err fault
    → least (cond begun ((faults.Key, is_none key) ∷ named_faults d key arguments) ((
      faults.Header,
      not header,
    ) ∷ [])) ≡ Some fault
words_err true header d key arguments fault next e = named_err d key arguments fault e
words_err false true d key arguments fault next e = absurd cc
words_err false false d key arguments fault next e = cc

significant_err : (d : Draft) (ws : List Bytes) (fault : Fault)
    → significant d ws ≡ Err fault
    → least (words_faults d ws) ≡ Some fault
unfolding significant
significant_err d ws fault e = words_err d.begun (is_header ws) d (key_of (first ws))
    (rest ws) fault (record d { begun = true }) e

line_err : (printable skipped : Bool) (d : Draft) (ws : List Bytes) (fault : Fault)
    → cond (not printable) (Err faults.Bytes) (cond skipped (Ok d) (significant d ws)) ≡ Err fault
    → least ((faults.Bytes, not printable) ∷ cond skipped [] (words_faults d ws)) ≡ Some fault
line_err false skipped d ws fault e = cc
line_err true true d ws fault e = absurd cc
line_err true false d ws fault e = significant_err d ws fault e

pub after_err : (d : Draft) (line : Bytes) (fault : Fault)
    → after d line ≡ Err fault
    → IsLeast fault (line_faults d line)
unfolding after
after_err d line fault e = is_least (line_faults d line) fault
    (line_err (list_all is_printable line) (begins_comment line || length (words line) == 0) d
    (words line) fault e)

-- ---- the first of a file

abbrev bad : Fault → ℕ → Result Draft (Fault × ℕ)
bad fault n = Err (fault, n)

abbrev wrong : Fault → ℕ → Result Entry (Fault × ℕ)
wrong fault n = Err (fault, n)

wrong_is : (f g : Fault) (n m : ℕ) → wrong f n ≡ wrong g m → (f ≡ g) × (n ≡ m)
wrong_is f g n m e =
    let p : ◌≡◌ {A = Fault × ℕ} (f, n) (g, m) = cc in
    (ap (λ (x : Fault × ℕ). x.0) p, ap (λ (x : Fault × ℕ). x.1) p)

game_of_err : (d : Draft) (kind : Option Kind) (turn : Option Side) (fault : Fault) (m : ℕ)
    → (kind ≡ None → turn ≡ None)
    → game_of d kind turn ≡ Err (fault, m)
    → (m ≡ 0) × (turn ≡ None) × (fault ≡ faults.Ends)
game_of_err d (Some kind) (Some turn) fault m unsaid e = absurd cc
game_of_err d (Some kind) None fault m unsaid e =
    let same = wrong_is faults.Ends fault 0 m e in
    (sym same.1, refl, sym same.0)
game_of_err d None turn fault m unsaid e =
    let same = wrong_is faults.Ends fault 0 m e in
    (sym same.1, unsaid refl, sym same.0)

-- before the kind no turn has been said
unsaid_turn : (d : Draft) → IsSound d → d.kind ≡ None → d.turn ≡ None
unsaid_turn d sound e = let zero : d.rank ≡ 0 = sound.order.kind e in sound.order.turn (omega arith)

end_err : (begun : Bool) (d : Draft) (fault : Fault) (m : ℕ)
    → d.begun ≡ begun
    → IsSound d
    → cond begun (game_of d d.kind d.turn) (Err (faults.Header, 0)) ≡ Err (fault, m)
    → (m ≡ 0) × Lacks d fault
end_err true d fault m is sound e =
    let h = game_of_err d d.kind d.turn fault m (unsaid_turn d sound) e in
    (h.0, inr (is, h.1, h.2))
end_err false d fault m is sound e =
    let same = wrong_is faults.Header fault 0 m e in
    (sym same.1, inl (is, sym same.0))

-- a fault at the end has line 0, and one of a line is that of reading
ended_err : (read : Result Draft (Fault × ℕ)) (fault : Fault) (m : ℕ)
    → ((d : Draft) → read ≡ Ok d → IsSound d)
    → ended read ≡ Err (fault, m)
    → ((m ≡ 0) × (d : Draft) × (read ≡ Ok d) × Lacks d fault) ⊎ (read ≡ bad fault m)
ended_err (Ok d) fault m sound e =
    let h = end_err d.begun d fault m refl (sound d refl) e in
    inl (h.0, d, refl, h.1)
ended_err (Err f) fault m sound e =
    let same = wrong_is f.0 fault f.1 m e in
    inr (ap (λ (g : Fault). bad g f.1) same.0 ∙ ap (λ (n : ℕ). bad fault n) same.1)

size_or : (big : Bool) (read : Result Draft (Fault × ℕ)) (fault : Fault) (m : ℕ)
    → cond big (Err (faults.Size, 0)) (ended read) ≡ Err (fault, m)
    → ((big ≡ true) × (faults.Size ≡ fault) × (0 ≡ m)) ⊎ (ended read ≡ wrong fault m)
size_or true read fault m e =
    let same = wrong_is faults.Size fault 0 m e in
    inl (refl, same.0, same.1)
size_or false read fault m e = inr e

pub first_of_file : (text : Bytes) (fault : Fault) (m : ℕ)
    → game text ≡ Err (fault, m)
    → 0 < m
    → IsFirstFault text fault m
unfolding game
first_of_file text fault m e some =
    elim (size_or (nat_lt 4194304 (length text)) (reading after 1 nothing (lines text)) fault m e) [
      | inl h ↦ absurd (omega (arith, h.2))
      | inr h ↦ elim (ended_err (reading after 1 nothing (lines text)) fault m
          (λ d read. sound_reading 1 nothing d (lines text) sound_nothing read) h) [
            | inl k ↦ absurd (omega (arith, k.0))
            | inr k ↦
                let found = first_fault after nothing 1 (lines text) fault m k in
                let f = found.2 in
                record {
                  before = f.before;
                  line = f.line;
                  behind = f.behind;
                  draft = f.state;
                  cut = f.cut;
                  sound = f.sound 1;
                  least = after_err f.state f.line fault f.here;
                  counted = omega (arith, found.1, f.number);
                }
          ]
    ]

pub whole_of_file : (text : Bytes) (fault : Fault)
    → game text ≡ Err (fault, 0)
    → IsWholeFault text fault
unfolding game
whole_of_file text fault e =
    elim (size_or (nat_lt 4194304 (length text)) (reading after 1 nothing (lines text)) fault 0 e) [
      | inl h ↦ record { why = inl (ltb-true 4194304 (length text) h.0, sym h.1) }
      | inr h ↦ elim (ended_err (reading after 1 nothing (lines text)) fault 0
          (λ d read. sound_reading 1 nothing d (lines text) sound_nothing read) h) [
            | inl k ↦ record { why = inr (record { draft = k.1; sound = k.2; lacks = k.3 }) }
            | inr k ↦
                let found = first_fault after nothing 1 (lines text) fault 0 k in
                absurd (omega (arith, found.1))
          ]
    ]
