use Rattle.std.proofs.Common.{◌∙◌, Some, None, ap, sym}
use Rattle.pg_base.proofs.Stands.{some≢none}
use Rattle.pg_family_book.proofs.Scenes.{claim-drawn}
use Rattle.pg_family_book.specs.Spans.{leaf_look}
use Rattle.pg_family_book.proofs.spans.claim_picture.Goals as goal

pub draw-requires-clause-board : goal.draw-requires-clause-board
draw-requires-clause-board c =
    let claim = rw (c.in-Some.is, c.leaf_look-look.ensures) at c.in_ok-scene.ensures.scene in
    (c.span_scenes_can_be_laid_out.ensures.claims leaf_look c.args.g.now claim.whole None
    c.in-Some.scene claim.shown).board

pub draw-requires-clause-few : goal.draw-requires-clause-few
draw-requires-clause-few c =
    let claim = rw (c.in-Some.is, c.leaf_look-look.ensures) at c.in_ok-scene.ensures.scene in
    (c.span_scenes_can_be_laid_out.ensures.claims leaf_look c.args.g.now claim.whole None
    c.in-Some.scene claim.shown).few_lines

pub returns-in_ok-draw-in-Some : goal.returns-in_ok-draw-in-Some
returns-in_ok-draw-in-Some c claim at =
    let is = rw (c.in-Some.is, c.leaf_look-look.ensures) at c.in_ok-scene.ensures.scene in
    ap Some (rw c.leaf_look-look.ensures at c.in_ok-draw-in-Some.ensures
    ∙ claim-drawn c.args.g.now c.args.cert.now c.args.number claim c.in-Some.scene at is)

pub returns-in-None : goal.returns-in-None
returns-in-None c claim at =
    let none = rw c.in-None.is at c.in_ok-scene.ensures.none in
    absurd (some≢none (sym at ∙ none))
