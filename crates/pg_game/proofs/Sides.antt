-- The two sides.
use Rattle.std.proofs.Common.{◌≡◌, ◌≢◌, ◌⊎◌, inl, inr, refl}
use Rattle.pg_game.proofs.Common.{Side, X, Y, other}

pub side≢other : (side : Side) → side ≢ other side
side≢other X e = cc
side≢other Y e = cc

pub side_cases : (turn side : Side) → (turn ≡ side) ⊎ (turn ≡ other side)
side_cases X X = inl refl
side_cases X Y = inr refl
side_cases Y X = inr refl
side_cases Y Y = inl refl

pub other_other : (side : Side) → other (other side) ≡ side
other_other X = refl
other_other Y = refl
