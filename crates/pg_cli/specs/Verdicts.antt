-- What judging a certificate for a game finds.
use Rattle.std.specs.Prelude.{◌≡◌, Option, Some, None, Result, Ok, Err, ⊤}
use Rattle.pg_cli.specs.Prelude.{Bytes, Holding, Game, IsFound, Evidence, Verdict, Halt, Refused}
use Rattle.pg_cli.specs.Prelude.{Stopped}
use Rattle.pg_files.specs.GameFile.{Entry as GameEntry}
use Rattle.pg_cli.specs.Reading.{both_held, read_of}

-- a game was read, and a certificate for it read and judged; or what stands against the first of
-- them
abbrev pub IsBothJudgedAs : Result (GameEntry × Evidence) Halt
    → Result (Game × Verdict) Halt
    → Type 0
IsBothJudgedAs read (Ok judged) =
    (e : Evidence) × (read ≡ read_of judged.0 e) × IsFound judged.0 e judged.1
IsBothJudgedAs read (Err (Refused refusal)) = read ≡ Err (Refused refusal)
IsBothJudgedAs read (Err (Stopped stop)) = ⊤

-- where it is told what the names hold, so are those under two of them
abbrev pub JudgesBoth : Option Holding → Bytes → Bytes → Result (Game × Verdict) Halt → Type 0
JudgesBoth None g c r = ⊤
JudgesBoth (Some held) g c r = IsBothJudgedAs (both_held (held g) (held c)) r
