use Rattle.std.proofs.Common.{◌∙◌, ◌++◌, List, map, take_all, refl, subst}
use Rattle.pg_cert.specs.declared.node.Node.{Node}
use Rattle.pg_cert.specs.declared.part.Part.TheVariants as parts
use Rattle.pg_check.specs.Checking.{StandsFor}
use Rattle.pg_check.proofs.TakenParts.{taken-none, node-next, node-taken}
use Rattle.pg_check.proofs.feeding.feed_nodes.Goals as goal

pub loop-node-init : goal.loop-node-init
loop-node-init c = record { game = refl; taken = taken-none c.args.checking.now }

pub node-requires : goal.node-requires
node-requires c = record {
  next = node-next c.args.checking.now c.loop-node.checking c.args.nodes.now c.loop-node.node-index
      c.node-item.result c.loop-node-test.true c.node-item.is c.requires
      c.loop-node.invariant.taken;
}

pub loop-node-preserved : goal.loop-node-preserved
loop-node-preserved c = record {
  game = c.node.ensures.game ∙ c.loop-node.invariant.game;
  taken = node-taken c.args.checking.now c.loop-node.checking c.node.new.self c.args.nodes.now
      c.loop-node.node-index c.node-item.result c.loop-node-test.true c.node-item.is
      c.loop-node.invariant.taken c.in_ok-node.ensures.stands;
}

pub returns-clause-stands : goal.returns-clause-stands
returns-clause-stands c =
    λ fed s. subst (λ (ns : List Node). StandsFor c.loop-node.checking (fed ++ map parts.Node ns))
    (take_all c.loop-node.node-index c.args.nodes.now c.loop-node-test.false)
    (c.loop-node.invariant.taken fed s)
