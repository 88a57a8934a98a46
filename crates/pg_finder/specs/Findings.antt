-- What the finder brings.
use Rattle.std.specs.Prelude.{◌≡◌, ◌≤◌, map, ⊤}
use Rattle.pg_base.specs.declared.score.Score.{Score}
use Rattle.pg_cert.specs.Limits.{node_count}
use Rattle.pg_cert.specs.declared.cert.Cert.{Cert}
use Rattle.pg_game.specs.declared.game.Game.{Game}
use Rattle.pg_settle.specs.declared.budget.Budget.{Budget}
use Rattle.pg_settle.specs.declared.finding.Finding.{Finding}
use Rattle.pg_settle.specs.declared.finding.Finding.TheVariants.{Certificate, Open}
use Rattle.pg_solve.specs.Due.{due_for_value, heading}

-- the certificate's claims are those that are due for the score, by turn, side and goal, and it has
-- no more nodes than the budget allows
pub record IsDue (g : Game) (budget : Budget) (score : Score) (c : Cert) : Type 0 where
  pub claims : map heading c.claims ≡ due_for_value g.turn score
  pub nodes : node_count c.claims ≤ budget.nodes

-- such a certificate, or none
abbrev pub IsFound : Game → Budget → Finding → Type 0
IsFound g budget (Certificate score c) = IsDue g budget score c
IsFound g budget Open = ⊤
