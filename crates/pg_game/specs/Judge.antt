-- What a judge answers: which moves are legal and what follows them; and the games for which it is
-- made.
use Rattle.std.specs.Prelude.{◌≡◌, ◌≢◌, ℕ, Bool, ◌||◌, Option, Some, None, Result, Ok, Err}
use Rattle.std.specs.Prelude.{if◌then◌else◌, nat_lt}
use Rattle.pg_game.specs.Prelude.{Switching, Score, XWins, Draw, YWins, Room, IsMadeFor}
use Rattle.pg_game.specs.declared.field.Field.{Field}
use Rattle.pg_game.specs.declared.field.Field.TheVariants.{Lines, Graph as OnGraph}
use Rattle.pg_game.specs.declared.game.Game.{Game}
use Rattle.pg_game.specs.declared.position.Position.{Position}
use Rattle.pg_game.specs.declared.position.Illegal.{Illegal}
use Rattle.pg_game.specs.declared.position.Illegal.TheVariants.{Range, Taken, Over}
use Rattle.pg_game.specs.Position.{is_free}
use Rattle.pg_game.specs.Game.{point_count, is_over, after}

-- the position after the side to move takes the point, or why it may not: there is no such point,
-- or the game is over, or the point isn't free
abbrev pub judged_move : Game → Position → ℕ → Result Position Illegal
judged_move g p v =
    if nat_lt v (point_count g)
    then (if is_over g p then Err Over else (if is_free p v then Ok (after g p v) else Err Taken))
    else Err Range

-- the room of a joiner, and none where there is no joiner
abbrev pub room_of : Option Room → Room
room_of (Some room) = room
room_of None = record { vertices = 0; edges = 0 }

-- the room is that of the field: that of its graph, and none on lines
abbrev pub IsRoomOf : Room → Field → Type 0
IsRoomOf room (Lines f) = (room.vertices ≡ 0) × (room.edges ≡ 0)
IsRoomOf room (OnGraph h) = IsMadeFor room h

-- the judge is made for games with as many vertices and edges as this one
abbrev pub IsMadeForGame : Room → Game → Type 0
IsMadeForGame room g = IsRoomOf room g.field

-- a switching game has a joiner that is made for it
abbrev pub HasJoiner : Option Room → Game → Type 0
HasJoiner (Some room) g = IsMadeForGame room g
HasJoiner None g = g.kind ≢ Switching

-- the result where it is X's line that counts, by the scores where X has filled one and where it
-- can't any more
abbrev pub filling_result : Score → Score → Bool → Bool → Bool → Option Score
filling_result filled unfilled x_filled touched full =
    if x_filled then Some filled else (if touched || full then Some unfilled else None)

-- the result where the first side to fill a line wins
abbrev pub race_result : Bool → Bool → Bool → Option Score
race_result x_filled y_filled full = if x_filled
    then Some XWins
    else (if y_filled then Some YWins else (if full then Some Draw else None))

-- the result where X joins the terminals and Y parts them
abbrev pub joining_result : Bool → Bool → Option Score
joining_result joined joinable =
    if joined then Some XWins else (if joinable then None else Some YWins)
