use Rattle.std.proofs.Common.{List, map, refl, subst, sym}
use Rattle.std.specs.List.{All}
use Rattle.pg_play_tree.specs.Prelude.{Node, position_of}
use Rattle.pg_play_tree.specs.Lines.{AreMet}
use Rattle.pg_play_tree.specs.Tree.{IsPlayedNode}
use Rattle.pg_play_tree.specs.Places.{AreFound, IsInGame}
use Rattle.pg_play_tree.specs.declared.place.Place.{Place}
use Rattle.pg_play_tree.proofs.Mirrors.{nodes_met, places_in}
use Rattle.pg_play_tree.proofs.tree.played_claim.Goals as goal

pub nodes_of-requires-clause-places : goal.nodes_of-requires-clause-places
nodes_of-requires-clause-places c =
    subst (λ (ps : List Place). All (IsInGame c.args.checked.game.now) ps)
    (sym c.as_slice.ensures.value)
    (places_in c.args.checked.game.now c.args.checked.cert.now c.args.claim.now.side
    c.in-Some.places.items (rw c.in-Some.is at c.in_ok-places.ensures.found))

pub returns-clause-played : goal.returns-clause-played
returns-clause-played c =
    let g = c.args.checked.game.now in
    let cert = c.args.checked.cert.now in
    let side = c.args.claim.now.side in
    let found = subst (λ (ps : List Place). AreFound g cert side ps) (sym c.as_slice.ensures.value)
    (rw c.in-Some.is at c.in_ok-places.ensures.found) in
    record {
      turn = refl;
      side = refl;
      goal = refl;
      nodes = subst (λ (ns : List Node). All (IsPlayedNode g cert side) ns)
          (sym c.from_vec.ensures) (c.in_ok-nodes.ensures.played cert side found.each);
      met = subst (λ (ns : List Node). AreMet g cert side (map position_of ns))
          (sym c.from_vec.ensures)
          (nodes_met g cert side c.as_slice.result.now c.in_ok-nodes.nodes.items found
          c.in_ok-nodes.ensures.count c.in_ok-nodes.ensures.mirror);
    }
