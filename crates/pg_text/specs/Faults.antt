-- The faults of lines, whatever they are: the least of a line, the first faulty line, and what
-- readers return.
use Rattle.std.specs.Prelude.{◌≡◌, ℕ, ◌+◌, Bool, true, false, if◌then◌else◌, List, [], ◌∷◌, ◌++◌}
use Rattle.std.specs.Prelude.{Option, Some, None, Result, Ok, Err, IsErrAnd}
use Rattle.std.specs.Borrow.{Bor}
use Rattle.std.specs.List.{AllByRecursion}
use Rattle.pg_text.specs.Text.{Bytes}
use Rattle.pg_text.specs.declared.error.LineError.{LineError}
use Rattle.pg_text.specs.declared.error.LineError.TheVariants as errors
use Rattle.pg_text.specs.declared.error.FileError.{FileError}
use Rattle.pg_text.specs.declared.error.FileError.TheVariants as outcomes

-- ---- the faults of a line

-- The first fault that applies, of a table in the order in which the faults count.
abbrev pub least : {F : Type 0} → List (F × Bool) → Option F
least [] = None
least (row ∷ rows) = if row.1 then Some row.0 else least rows

-- the fault applies, and none before it in the table does
pub record IsLeast {F : Type 0} (fault : F) (rows : List (F × Bool)) : Type 0 where
  pub lower : List (F × Bool)
  pub higher : List (F × Bool)
  pub cut : rows ≡ lower ++ (fault, true) ∷ higher
  pub none : AllByRecursion (λ row. row.1 ≡ false) lower

-- a value, unless there is a fault
abbrev pub unless : {F A : Type 0} → Option F → A → Result A F
unless None x = Ok x
unless (Some fault) x = Err fault

-- the first where it is there, and what is made of it
abbrev pub and_then : {F A B : Type 0} → Result A F → (A → Result B F) → Result B F
and_then (Ok a) next = next a
and_then (Err fault) next = Err fault

-- one more, if all can be read
abbrev pub onto : {F A : Type 0} → Result A F → Result (List A) F → Result (List A) F
onto (Err fault) others = Err fault
onto (Ok a) (Err fault) = Err fault
onto (Ok a) (Ok others) = Ok (a ∷ others)

-- what each word says, if all can be read; else the fault of the first that can't
abbrev pub each_of : {F A : Type 0} → (Bytes → Result A F) → List Bytes → Result (List A) F
each_of read [] = Ok []
each_of read (w ∷ ws) = onto (read w) (each_of read ws)

-- ---- the first faulty line

-- the answer at a line's fault, or what the lines behind it answer
abbrev pub go_on : {S F : Type 0} → ℕ → Result S F → (S → Result S (F × ℕ)) → Result S (F × ℕ)
go_on n (Ok s) others = others s
go_on n (Err fault) others = Err (fault, n)

-- What a reader knows after these lines, of which the first has number n, or the first fault and
-- the number of its line.
unfoldable pub reading : {S F : Type 0}
    → (S → Bytes → Result S F)
    → ℕ
    → S
    → List Bytes
    → Result S (F × ℕ)
reading read n s [] = Ok s
reading read n s (line ∷ others) = go_on n (read s line) (λ next. reading read (n + 1) next others)

-- ---- what readers return

-- that reading failed so, unless memory ran out
abbrev pub Fails : {F B : Type 0} → LineError F → Result B F → Type 0
Fails errors.Memory read = Unit {0}
Fails (errors.Fault fault) read = read ≡ Err fault

-- what was returned is what reading gives, unless memory ran out
abbrev pub Gives : {F A B : Type 0} → (A → B) → Result A (LineError F) → Result B F → Type 0
Gives seen (Ok a) read = read ≡ Ok (seen a)
Gives seen (Err error) read = Fails error read

-- each call gives what reading of its word gives, unless memory ran out
abbrev pub IsReader : {R F A : Type 0}
    → (R → Bor Bytes → Result A (LineError F) → Type 0)
    → R
    → (Bytes → Result A F)
    → Type 0
IsReader {R} {F} {A} post read says =
    (word : Bor Bytes) (r : Result A (LineError F)) → post read word r
    → Gives (λ a. a) r (says word.now)

-- what was lent became what reading gives, unless memory ran out
abbrev pub Becomes : {F U B : Type 0} → Result U (LineError F) → B → Result B F → Type 0
Becomes (Ok x) new read = read ≡ Ok new
Becomes (Err error) new read = Fails error read

-- what the caller got is what reading gives, the fault by its number, unless memory ran out
abbrev pub IsReadAs : {F A B : Type 0}
    → (F → ℕ)
    → (A → B)
    → Result A FileError
    → Result B (F × ℕ)
    → Type 0
IsReadAs number_of seen (Ok a) read = read ≡ Ok (seen a)
IsReadAs number_of seen (Err outcomes.Memory) read = Unit {0}
IsReadAs number_of seen (Err (outcomes.Bad number line)) read =
    IsErrAnd read (λ bad. (number ≡ number_of bad.0) × (line ≡ bad.1))

-- the error for a fault of the line with this number
abbrev pub at_line : {F : Type 0} → (F → ℕ) → F → ℕ → FileError
at_line number_of fault line = outcomes.Bad (number_of fault) line

-- the same for want of memory too
abbrev pub at : {F : Type 0} → (F → ℕ) → LineError F → ℕ → FileError
at number_of errors.Memory line = outcomes.Memory
at number_of (errors.Fault fault) line = at_line number_of fault line

-- what the words before say, and those that are still read
abbrev pub following : {F A : Type 0} → List A → Result (List A) F → Result (List A) F
following front (Err fault) = Err fault
following front (Ok behind) = Ok (front ++ behind)
