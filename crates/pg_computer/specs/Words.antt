-- What the program says of its points.
use Rattle.std.specs.Prelude.{Bool, true, false, ◌++◌, codes}
use Rattle.pg_computer.specs.Prelude.{Bytes, Game, point_name}
use Rattle.pg_computer.specs.declared.choice.Choice.{Choice}

-- whether the point is proved to keep the value
abbrev pub proof_text : Bool → Bytes
proof_text true = codes ": proved to keep the value.\n"
proof_text false = codes ": not proved.\n"

-- the line of a point that the program claims
abbrev pub taken_text : Game → Choice → Bytes
taken_text g c = codes "I take " ++ (point_name g.field c.point ++ proof_text c.proved)
