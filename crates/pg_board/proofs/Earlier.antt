-- How a board was before its plays.
use Rattle.std.proofs.Common.{◌≡◌, List, [], ◌∷◌, ◌++◌, length, refl, arith, length-append}
use Rattle.pg_undo.specs.Trail.{Cells, back_to}
use Rattle.pg_board.specs.Shape.{Shape}
use Rattle.pg_board.specs.Fits.{stand_of, earlier_of}
use Rattle.pg_board.specs.declared.plays.Played.{Played}

pub earlier-more : (s : Shape) (t : Cells) (play : Played) (plays : List Played)
    → earlier_of s t (play ∷ plays)
    ≡ earlier_of s (back_to play.level t) plays ++ stand_of s (back_to play.level t) ∷ []
unfolding earlier_of
earlier-more s t play plays = refl

pub length-earlier : (s : Shape) (t : Cells) (plays : List Played)
    → length (earlier_of s t plays) ≡ length plays
unfolding earlier_of
length-earlier s t [] = refl
length-earlier s t (play ∷ plays) =
    let rest = length-earlier s (back_to play.level t) plays in
    omega (
      arith,
      length-append (earlier_of s (back_to play.level t) plays)
          (stand_of s (back_to play.level t) ∷ []),
    )
