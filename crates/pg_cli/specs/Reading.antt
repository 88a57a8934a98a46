-- What names hold: the game and the certificate that a command reads, in either form, or what
-- stands against them.
use Rattle.std.specs.Prelude.{Option, Result, Ok}
use Rattle.pg_cli.specs.Prelude.{Bytes, Holding, Game, entry, evidence_held, Evidence, IsLackingTwo}
use Rattle.pg_cli.specs.Prelude.{OpensTwo, both, game_held, Halt}
use Rattle.pg_files.specs.GameFile.{Entry as GameEntry}

-- the game and the certificate that two names hold, or what stands against the first of them
abbrev pub both_held : Option Bytes → Option Bytes → Result (GameEntry × Evidence) Halt
both_held game_bytes certificate_bytes =
    both (game_held game_bytes) (evidence_held certificate_bytes)

-- ---- what the code has read

-- a game and a certificate, with the game as its file says it
abbrev pub pair_entry : Game × Evidence → GameEntry × Evidence
pair_entry pair = (entry pair.0, pair.1)

-- both were read
abbrev pub read_of : Game → Evidence → Result (GameEntry × Evidence) Halt
read_of g e = Ok (entry g, e)

-- where it is told what the names hold, this is what they say
abbrev pub OpensBoth : Option Holding → Bytes → Bytes → Result (Game × Evidence) Halt → Type 0
OpensBoth h g c r = OpensTwo pair_entry both_held h g c r

-- it is told that a name that is wanted isn't held
abbrev pub AreLacking : Option Holding → Bytes → Bytes → Type 0
AreLacking h g c = IsLackingTwo both_held h g c
