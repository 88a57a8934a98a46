use Rattle.std.proofs.Common.{◌≡◌, drop}
use Rattle.pg_game.specs.Pairs.{partner}
use Rattle.pg_pairing.proofs.answers.partner.Given as goal

abbrev pub invariant-loop-s : goal.invariant-loop-s
invariant-loop-s l = partner l.pairs l.v ≡ partner (drop l.s-index l.pairs) l.v
