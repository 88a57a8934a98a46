-- What is known of a position with one move more.
use Rattle.std.specs.Prelude.{Bool, true, false, Option, Some, None}
use Rattle.pg_plain.specs.Prelude.{Side, X, Y}

-- the answer of the move where the side to move wants it, what was known where the move has the
-- other answer, and else only what the side wants
abbrev pub with_move : Side → Option Bool → Option Bool → Option Bool
with_move X (Some true) known = Some true
with_move X (Some false) known = known
with_move X None (Some true) = Some true
with_move X None (Some false) = None
with_move X None None = None
with_move Y (Some false) known = Some false
with_move Y (Some true) known = known
with_move Y None (Some false) = Some false
with_move Y None (Some true) = None
with_move Y None None = None
