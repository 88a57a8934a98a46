use Rattle.std.proofs.Common.{◌≡◌, length, Some, refl, sym, ap, ◌∙◌, arith}
use Rattle.pg_unfold.proofs.Common.{slice_get_read, image_of, board_of, image_position}
use Rattle.pg_game.specs.PositionLemmas.{equal_positions-decides}
use Rattle.pg_unfold.specs.Flaws.{HasEarlier}
use Rattle.std.proofs.Common.{subst, ◌<◌}
use Rattle.pg_unfold.proofs.SoundNodes.{marks-image}
use Rattle.pg_unfold.proofs.soundness.has_marks.Goals as goal

pub returns-in-Some : goal.returns-in-Some
returns-in-Some c =
    let decides = equal_positions-decides c.position-in-Image.result c.image_position.result in
    let has : board_of c.args.g.now.field ≡ Some c.in-Some.grid =
    sym c.board_of.ensures ∙ c.in-Some.is in
    let below : c.in-Image.child < c.args.k =
    subst (HasEarlier c.args.k) c.in-Image.is c.requires.earlier in
    let at = slice_get_read c.args.nodes.now
    (length c.args.nodes.now) c.in-Image.child c.index-nodes-child.result refl
    (omega (arith, below, c.requires.place)) c.index-nodes-child.is in
    let both = marks-image c.args.g.now c.args.nodes.now c.args.node.now c.in-Image.x c.in-Image.y
    c.in-Image.turn c.in-Image.left c.in-Image.map c.in-Image.child c.in-Image.is c.in-Some.grid has
    c.index-nodes-child.result at c.position-in-Image.result c.image_position.result
    c.position-in-Image.ensures
    (c.image_position.ensures
    ∙ ap (image_position (image_of c.in-Image.map c.in-Some.grid))
    c.position-child_position.ensures) in (
      λ on. both.0 (decides.0 (sym c.eq.ensures ∙ on)),
      λ h. c.eq.ensures ∙ decides.1 (both.1 h),
    )
