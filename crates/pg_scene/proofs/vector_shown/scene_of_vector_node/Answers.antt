use Rattle.pg_scene.proofs.Named.{looked_up}
use Rattle.pg_scene.proofs.vector_shown.scene_of_vector_node.Goals as goal

pub returns-clause-scene : goal.returns-clause-scene
returns-clause-scene c = record {
  whole = c.in-Some.whole.now;
  node = c.in-Some-get.part.now;
  named = record {
    claim_at =
        looked_up c.as_slice.result.now c.args.cert.now.claims c.args.claim c.in-Some.whole.now
        c.as_slice.ensures c.in-Some.ensures.lookup.3.0 c.in-Some.ensures.lookup.1;
    node_at = looked_up c.as_slice-2.result.now c.in-Some.whole.now.nodes c.args.node
        c.in-Some-get.part.now c.as_slice-2.ensures c.in-Some-get.ensures.lookup.3.0
        c.in-Some-get.ensures.lookup.1;
  };
  shown = c.in_ok-node_scene.ensures;
}
