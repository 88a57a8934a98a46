use Rattle.pg_drawing.proofs.vectors.vector_node_text.Goals as goal

pub text_of-requires : goal.text_of-requires
text_of-requires c =
    let node = rw c.in-Some.is at c.in_ok-scene.ensures.scene in
    c.vector_scenes_can_be_laid_out.ensures.nodes c.args.look c.args.game.now node.whole
    c.args.name.node node.node c.args.fault c.in-Some.scene node.shown
