use Rattle.pg_drawing.proofs.claims.claim_text.Goals as goal

pub text_of-requires : goal.text_of-requires
text_of-requires c =
    let claim = rw c.in-Some.is at c.in_ok-scene.ensures.scene in
    c.span_scenes_can_be_laid_out.ensures.claims c.args.look c.args.game.now claim.whole
    c.args.fault c.in-Some.scene claim.shown
