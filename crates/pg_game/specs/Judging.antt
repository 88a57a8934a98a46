-- What a game's rules say of a position and of a move.
use Rattle.std.specs.Prelude.{ℕ, Option, Some, None, Result, Ok, Err, if◌then◌else◌, nat_lt}
use Rattle.pg_base.specs.declared.score.Score.{Score}
use Rattle.pg_game.specs.declared.position.Illegal.{Illegal}
use Rattle.pg_game.specs.declared.position.Illegal.TheVariants.{Range, Taken, Over}
use Rattle.pg_game.specs.declared.position.Position.{Position}
use Rattle.pg_game.specs.Position.{is_free}
use Rattle.pg_game.specs.Rules.{Rules, moved}

-- the outcome, and None where the game isn't over
abbrev pub ending_by : Rules → Position → Option Score
ending_by r p = if r.over p then Some (r.outcome p) else None

-- the position after the side to move takes the point, or why it may not: there is no such point,
-- or the game is over, or the point isn't free
abbrev pub judged_by : Rules → Position → ℕ → Result Position Illegal
judged_by r p v =
    if nat_lt v r.points
    then (if r.over p then Err Over else (if is_free p v then Ok (moved r p v) else Err Taken))
    else Err Range
