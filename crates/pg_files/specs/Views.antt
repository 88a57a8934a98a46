-- The values of the code, without where they lie in memory.
use Rattle.std.specs.Prelude.{ℕ, Result}
use Rattle.pg_text.specs.Faults.{IsReadAs as IsReadBy}
use Rattle.pg_text.specs.declared.error.FileError.{FileError}
use Rattle.pg_game.specs.declared.game.Game.{Game}
use Rattle.pg_files.specs.GameFile.{Draft, Entry}
use Rattle.pg_files.specs.declared.fault.Fault.TheVariants as faults
use Rattle.pg_files.specs.declared.draft.Draft.{Draft as Kept}
use Rattle.pg_files.specs.declared.fault.Fault.{Fault}

-- what a draft in memory says
abbrev pub view : Kept → Draft
view d = record {
  begun = d.begun;
  rank = d.rank;
  kind = d.kind;
  points = d.points;
  grid = d.grid;
  vertices = d.vertices;
  s = d.s;
  t = d.t;
  bias = d.bias;
  lines = d.lines.items;
  ends = d.ends.items;
  x = d.x;
  y = d.y;
  turn = d.turn;
}

-- a game as a file says it
abbrev pub entry : Game → Entry
entry g = record { kind = g.kind; field = g.field; x = g.x; y = g.y; turn = g.turn; bias = g.bias }

-- the number that a fault is told by
abbrev pub number_of : Fault → ℕ
number_of faults.Size = 1
number_of faults.Bytes = 2
number_of faults.Header = 3
number_of faults.Key = 4
number_of faults.Order = 5
number_of faults.Arguments = 6
number_of faults.Range = 7
number_of faults.Repeated = 8
number_of faults.Length = 9
number_of faults.Limit = 10
number_of faults.Terminals = 11
number_of faults.Ends = 12
number_of faults.Shape = 13

-- What the caller got is what reading gives, unless memory ran out.
abbrev pub IsReadAs : {X Y : Type 0} → (X → Y) → Result X FileError → Result Y (Fault × ℕ) → Type 0
IsReadAs seen result read = IsReadBy number_of seen result read
