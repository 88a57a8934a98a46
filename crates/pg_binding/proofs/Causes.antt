-- What a failed read comes from.
use Rattle.std.proofs.Common.{◌≡◌, Option, Some, None, Result, Ok, Err, IfErr, refl}
use Rattle.std.proofs.Common.{inl, inr}
use Rattle.pg_binding.proofs.Common.{Bytes, Game, Halt, HaltCauses, Holding, IsAbsent, IsInnerHalt}
use Rattle.pg_binding.proofs.Common.{IsLackingOne, Memory, Read, Refused, SpanGame, Stopped}
use Rattle.pg_binding.proofs.Common.{Telling, VecGame, Write, entry, span_entry, vector_entry}
use Rattle.pg_io.specs.Causes.{Faults}
use Rattle.pg_binding.specs.Books.{with_evidence}
use Rattle.pg_drawing.specs.Boards.AnyEntry.{Connectivity, Positional, Vectors}

-- what is missing of one thing is missing of another
pub halt_caused : (S T absent lacks : Type 0)
    → (absent → lacks)
    → (before now : Faults) (halt : Halt) → HaltCauses {T = S} absent before now (Err halt)
    → HaltCauses {T = T} lacks before now (Err halt)
halt_caused S T absent lacks more before now (Refused refusal) calm = calm
halt_caused S T absent lacks more before now (Stopped Read) (inl rose) = inl rose
halt_caused S T absent lacks more before now (Stopped Read) (inr gone) = inr (more gone)
halt_caused S T absent lacks more before now (Stopped Write) rose = rose
halt_caused S T absent lacks more before now (Stopped Memory) calm = calm

-- work that only takes memory
pub inner_caused : (lacks : Type 0) (before now : Faults) (r : Result Telling Halt)
    → IfErr r IsInnerHalt
    → now ≡ before
    → HaltCauses lacks before now r
inner_caused lacks before now (Ok told) inner calm = calm
inner_caused lacks before now (Err (Refused refusal)) inner calm = calm
inner_caused lacks before now (Err (Stopped Read)) inner calm = absurd inner
inner_caused lacks before now (Err (Stopped Write)) inner calm = absurd inner
inner_caused lacks before now (Err (Stopped Memory)) inner calm = calm

-- a game needs its certificate
module _ (h : Option Holding) (certificate : Bytes) where
  pub lacks_evidence : (g : Game)
      → IsAbsent h certificate
      → IsLackingOne (with_evidence (Ok (Positional (entry g)))) h certificate
  lacks_evidence g absent = go h absent where
    go : (h : Option Holding)
        → IsAbsent h certificate
        → IsLackingOne (with_evidence (Ok (Positional (entry g)))) h certificate
    go None absent = absurd absent
    go (Some held) absent = rw absent refl

  pub lacks_span : (g : SpanGame)
      → IsAbsent h certificate
      → IsLackingOne (with_evidence (Ok (Connectivity (span_entry g)))) h certificate
  lacks_span g absent = go h absent where
    go : (h : Option Holding)
        → IsAbsent h certificate
        → IsLackingOne (with_evidence (Ok (Connectivity (span_entry g)))) h certificate
    go None absent = absurd absent
    go (Some held) absent = rw absent refl

  pub lacks_vectors : (g : VecGame)
      → IsAbsent h certificate
      → IsLackingOne (with_evidence (Ok (Vectors (vector_entry g)))) h certificate
  lacks_vectors g absent = go h absent where
    go : (h : Option Holding)
        → IsAbsent h certificate
        → IsLackingOne (with_evidence (Ok (Vectors (vector_entry g)))) h certificate
    go None absent = absurd absent
    go (Some held) absent = rw absent refl
