use Rattle.pg_game.proofs.ThreatLaws.{Forces-threat}
use Rattle.pg_game.proofs.laws.threat_lines_force.Goals as goal

pub returns : goal.returns
returns c = Forces-threat
