use Rattle.std.proofs.Common.{◌-◌, ◌∷◌, [], List, ap, arith, length, subst, sym}
use Rattle.std.proofs.lemmas.List.{length-append}
use Rattle.std.proofs.lemmas.List.Elements.{All-push}
use Rattle.std.specs.List.{All}
use Rattle.pg_play_tree.specs.Prelude.{IsNode, Node, position_of}
use Rattle.pg_play_tree.specs.Tree.{IsPlayedNode}
use Rattle.pg_play_tree.specs.Places.{IsMirror, IsPlace}
use Rattle.pg_play_tree.specs.declared.place.Place.{Place}
use Rattle.pg_play_tree.proofs.Bodies.{body_played}
use Rattle.pg_play_tree.proofs.Meeting.{place_step}
use Rattle.pg_play_tree.proofs.Mirrors.{mirror_push}
use Rattle.pg_play_tree.proofs.nodes.nodes_of.Goals as goal

pub loop-k-preserved : goal.loop-k-preserved
loop-k-preserved c =
    let g = c.args.game.now in
    let node = c.in_ok-node.node in
    let place = c.index-places-places.result in
    let old = c.loop-k.nodes.items in
    let size = length-append old (node ∷ []) in
    let long = ap length c.in_ok-push.ensures.items in
    record {
      limits = subst (λ (ns : List Node). All IsNode ns) (sym c.in_ok-push.ensures.items)
          (All-push IsNode old node c.loop-k.invariant.limits c.in_ok-node.ensures.limits);
      played = λ cert side fair.
          let at : IsPlace g cert side place =
          subst (λ (p : Place). IsPlace g cert side p) (sym c.index-places-places.is)
          (fair (length c.args.places.now - 1 - c.loop-k.k) place
          (omega (arith, c.loop-k-test.true))) in
          subst (λ (ns : List Node). All (IsPlayedNode g cert side) ns)
          (sym c.in_ok-push.ensures.items)
          (All-push (IsPlayedNode g cert side) old node (c.loop-k.invariant.played cert side fair)
          (body_played g cert side place.position (position_of node) place.step node.body
          c.in_ok-node.ensures.step c.in_ok-node.ensures.position
          (place_step g cert side place at)));
      count = omega (arith, size, long, c.loop-k.invariant.count);
      mirror = subst (λ (ns : List Node). IsMirror c.args.places.now ns)
          (sym c.in_ok-push.ensures.items)
          (mirror_push c.args.places.now old node c.loop-k.k place c.loop-k.invariant.mirror
          c.loop-k.invariant.count c.loop-k-test.true c.index-places-places.is
          c.in_ok-node.ensures.position);
    }
