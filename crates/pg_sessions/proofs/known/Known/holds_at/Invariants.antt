use Rattle.std.proofs.Common.{take}
use Rattle.std.specs.List.{All}
use Rattle.pg_sessions.specs.Known.{HasNode}
use Rattle.pg_sessions.proofs.known.Known.holds_at.Given as goal

abbrev pub invariant-loop-claim : goal.invariant-loop-claim
invariant-loop-claim l = All (HasNode l.position) (take l.claim-index l.self.certificate.claims)
