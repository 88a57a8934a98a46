use Rattle.std.proofs.Common.{◌≡◌, ◌≤◌, ℕ, List, map, length, get_or, ap, ◌∙◌, subst, arith}
use Rattle.pg_maps.proofs.Common.{take_all, IsPermutation}
use Rattle.pg_maps.proofs.SortedImages.{sorted_by_table}
use Rattle.pg_maps.proofs.fitting.image_row.Goals as goal

pub returns : goal.returns
returns c = λ f back is.
    let items = c.as_slice-v-items.ensures in
    let end : length c.args.line.now ≤ c.loop-v.v-index =
    omega (arith, c.loop-v-test.false, ap length items) in
    let whole : c.loop-v.row.items ≡ map (λ v. get_or c.args.table.now v 0) c.args.line.now =
    c.loop-v.invariant
    ∙ ap (map (λ v. get_or c.args.table.now v 0)) (take_all c.loop-v.v-index c.args.line.now end) in
    sorted_by_table f back c.args.table.now c.args.line.now c.sort_unstable.new.self.items is
    c.requires
    (subst (λ (row : List ℕ). IsPermutation row c.sort_unstable.new.self.items) whole
    c.sort_unstable.ensures.permutation) c.sort_unstable.ensures.sorted
