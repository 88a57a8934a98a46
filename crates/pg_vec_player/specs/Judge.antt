-- What a judge of a game on vectors has.
use Rattle.std.specs.Prelude.{◌≡◌, ◌≤◌, length}
use Rattle.pg_vec_player.specs.Prelude.{VecGame, with_target}
use Rattle.std.specs.Vec.{vec_capacity}
use Rattle.pg_vec_player.specs.declared.judge.VecJudge.{VecJudge}

-- the judge has the game's vectors and target, and room for an elimination of them
pub record IsVecJudgeOf (judge : VecJudge) (g : VecGame) : Type 0 where
  pub vectors : judge.vectors.items ≡ with_target g
  pub room : length (with_target g) ≤ vec_capacity judge.rows
