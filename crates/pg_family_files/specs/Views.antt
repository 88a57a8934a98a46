-- The values of the code, without where they lie in memory.
use Rattle.pg_family_files.specs.Prelude.{Side, SpanGame, VecGame}
use Rattle.pg_family_files.specs.FamilyFile.{Draft, Whole, SpanEntry, VectorEntry}
use Rattle.pg_family_files.specs.declared.draft.Draft.{Draft as Kept}

-- what a draft in memory says
abbrev pub view : Kept → Draft
view d = record {
  begun = d.begun;
  rank = d.rank;
  vertices = d.vertices;
  ends = d.ends.items;
  rows = d.rows;
  target = d.target;
  vectors = d.vectors.items;
  x = d.x;
  y = d.y;
  turn = d.turn;
}

-- what a whole file has said, from its draft and the side to move
abbrev pub whole_view : Kept × Side → Whole
whole_view p = record { draft = view p.0; turn = p.1 }

-- a connectivity game as a file says it
abbrev pub span_entry : SpanGame → SpanEntry
span_entry g = record { graph = g.graph; x = g.x; y = g.y; turn = g.turn }

-- a game on vectors as a file says it
abbrev pub vector_entry : VecGame → VectorEntry
vector_entry g = record {
  rows = g.rows;
  target = g.target;
  vectors = g.vectors;
  x = g.x;
  y = g.y;
  turn = g.turn;
}
