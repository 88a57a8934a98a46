use Rattle.std.proofs.Common.{◌≡◌, take, map}
use Rattle.pg_cert.specs.declared.part.Part.TheVariants as parts
use Rattle.pg_check.proofs.TakenParts.{HasTaken}
use Rattle.pg_check.proofs.feeding.feed_nodes.Given as goal

abbrev pub invariant-loop-node : goal.invariant-loop-node
invariant-loop-node l = record {
  game : l.checking.game ≡ l.fn.checking.game;
  taken : HasTaken l.fn.checking l.checking (map parts.Node (take l.node-index l.nodes));
}
