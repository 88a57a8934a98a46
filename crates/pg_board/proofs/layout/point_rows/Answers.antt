use Rattle.std.proofs.Common.{List, ℕ, map, length, [], ap, ◌∙◌}
use Rattle.pg_board.proofs.Common.{length-replicate, range_with_len}
use Rattle.pg_board.specs.Shape.{lines_holding}
use Rattle.pg_board.proofs.Gathering.{gathered-none}
use Rattle.pg_board.proofs.layout.point_rows.Goals as goal

pub gathered-requires-clause-before : goal.gathered-requires-clause-before
gathered-requires-clause-before c = rw (c.as_mut_slice.ensures.value, c.in_ok-rows.ensures)
    (gathered-none c.args.lines.now c.args.points)

pub gathered-requires-clause-range : goal.gathered-requires-clause-range
gathered-requires-clause-range c =
    let count = ap length (c.as_mut_slice.ensures.value ∙ c.in_ok-rows.ensures)
    ∙ length-replicate {A = List ℕ} c.args.points [] in
    rw count c.requires.range

pub returns : goal.returns
returns c =
    let count = ap length (c.as_mut_slice.ensures.value ∙ c.in_ok-rows.ensures)
    ∙ length-replicate {A = List ℕ} c.args.points [] in
    c.in_ok-all.ensures ∙ ap (λ n. map (lines_holding c.args.lines.now) (range_with_len 0 n)) count
