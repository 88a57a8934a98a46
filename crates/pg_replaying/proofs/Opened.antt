-- What a name contains, from what was read of it.
use Rattle.std.proofs.Common.{◌≡◌, ◌∙◌, ℕ, ◌+◌, List, take, Option, Result, Ok, Err, refl, sym, ap}
use Rattle.std.specs.Prelude.{IsErrAnd}
use Rattle.pg_replaying.proofs.Common.{Bytes, Event, Fault, Game, Halt, Holding, IsReadAs, Opens}
use Rattle.pg_replaying.proofs.Common.{number_of, record_of}
use Rattle.pg_io.specs.Reading.{IsFile}
use Rattle.pg_record.specs.declared.fault.Fault.TheVariants.{Size}
use Rattle.pg_record.specs.declared.fault.TheConstants.{MAX_RECORD_BYTES}
use Rattle.pg_talk.proofs.Openings.{cut_same, opens_whole}
use Rattle.pg_replaying.specs.Records.{moves_held, moves_told, record_fault}

pub moves_bad : (r : Result (List Event) (Fault × ℕ)) (number line : ℕ)
    → IsErrAnd r (λ bad. (number ≡ number_of bad.0) × (line ≡ bad.1))
    → moves_told r ≡ Err (record_fault number line)
moves_bad (Ok events) number line h = absurd h
moves_bad (Err fault) number line h = ap (λ (n : ℕ). Err (record_fault n fault.1)) (sym h.0)
    ∙ ap (λ (l : ℕ). Err (record_fault number l)) (sym h.1)

-- one byte more than the limit tells as much as the whole file
record_cut : (g : Game) (all : Bytes)
    → record_of g (take (MAX_RECORD_BYTES + 1) all) ≡ record_of g all
unfolding record_of
record_cut g all =
    cut_same MAX_RECORD_BYTES (record_of g) (Err (Size, 0)) (λ text long. rw long refl) all

pub opens_moves : {A : Type 0} (view : A → List ℕ) (g : Game) (h : Option Holding)
    (name text : Bytes) (r : Result A Halt)
    → IsFile h name MAX_RECORD_BYTES text
    → IsReadAs view (moves_told (record_of g text)) r
    → Opens view (moves_held g) h name r
opens_moves view g h name text r whole is =
    opens_whole MAX_RECORD_BYTES (λ (t : Bytes). moves_told (record_of g t))
    (λ all. ap moves_told (record_cut g all)) view h name text r whole is
