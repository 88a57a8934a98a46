use Rattle.std.proofs.Common.{◌≡◌, ◌-◌, ◌++◌, ap₂, arith, filter, length, not, refl}
use Rattle.std.proofs.lemmas.List.Filters.{length-filter_both}
use Rattle.pg_near.specs.Near.{is_near, places_from}
use Rattle.pg_near.proofs.arranging.places_of.Goals as goal

pub loop-node-init : goal.loop-node-init
loop-node-init c =
    let near = is_near c.args.game.now c.args.depth in
    let nodes = c.args.nodes.now in
    let both = length-filter_both near (λ node. not (near node)) (λ node. refl) nodes in
    let begun : length nodes - c.near_count.result ≡ length (filter (λ node. not (near node)) nodes)
    = omega (arith, both, c.near_count.ensures.exact) in
    record {
      numbered = ap₂ (λ xs n. xs ++ places_from near 0 n nodes) c.new-places.ensures.items begun;
      few = omega arith;
      fewer = omega arith;
    }
