use Rattle.std.proofs.Common.{◌≡◌, ◌++◌, filter, map}
use Rattle.pg_scene.proofs.Common.{decimal, range_with_len, is_free}
use Rattle.pg_scene.specs.Items.{units}
use Rattle.pg_scene.specs.declared.item.Item.TheVariants.{Weight}
use Rattle.pg_scene.proofs.weights.put_each.Given as goal

abbrev pub invariant-loop-v : goal.invariant-loop-v
invariant-loop-v l = l.items.items
    ≡ l.fn.items.items ++ map (λ v. Weight v (decimal (units l.fn.g l.fn.p l.fn.side v)))
    (filter (is_free l.p) (range_with_len 0 l.v))
