use Rattle.std.proofs.Common.{◌≡◌, ◌/◌, subst}
use Rattle.pg_unfold.proofs.Common.{All-contains, position_of, Node, IsImageNode, Plain, number_of}
use Rattle.pg_unfold.proofs.Common.{image_on, image_position, GridMap}
use Rattle.pg_unfold.specs.Marks.{IsPlaceOf}
use Rattle.pg_unfold.specs.Unfolded.{IsBodyImage}
use Rattle.pg_unfold.proofs.Placing.{Contains-at}
use Rattle.pg_unfold.proofs.CopySteps.{copied-here}
use Rattle.pg_unfold.proofs.copying.copied_node.Goals as goal

pub image_node-requires-clause-earlier : goal.image_node-requires-clause-earlier
image_node-requires-clause-earlier c =
    c.requires.earlier (c.args.key / 8) (Plain c.in-Some.node.now) c.in-Some.ensures.some.1

pub image_node-requires-clause-node : goal.image_node-requires-clause-node
image_node-requires-clause-node c =
    All-contains IsImageNode c.args.nodes.now (Plain c.in-Some.node.now) c.requires.limits
    (Contains-at c.args.nodes.now (c.args.key / 8)
    (Plain c.in-Some.node.now) c.in-Some.ensures.some.1)

pub returns : goal.returns
returns c =
    let board = c.args.board in
    let node : Node = c.in-Some.node.now in
    let image : Node = c.in_ok-image.image in
    let on = c.in-Some.ensures.some.0 in
    let at = c.in-Some.ensures.some.1 in
    let position = subst (λ (m : GridMap).
    position_of image ≡ image_position (image_on board m) (position_of node)) c.map_at.ensures
    c.in_ok-image.ensures.position in
    let body = subst (λ (m : GridMap).
    IsBodyImage (image_on board m) (IsPlaceOf c.args.places.now (number_of m)) node.body image.body)
    c.map_at.ensures c.in_ok-image.ensures.body in (
      node,
      on,
      at,
      copied-here c.args.nodes.now c.args.marks.now c.requires.met c.args.places.now
          c.requires.places c.args.key node on at board image position body,
    )
