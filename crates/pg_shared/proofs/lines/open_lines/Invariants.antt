use Rattle.std.proofs.Common.{◌≡◌, not, map, take, List, ℕ}
use Rattle.pg_shared.specs.Prelude.{filter, is_touched, lines_of}
use Rattle.pg_shared.specs.Lines.{free_of, points_in}
use Rattle.pg_shared.proofs.lines.open_lines.Given as goal

abbrev pub invariant-loop-line : goal.invariant-loop-line
invariant-loop-line l = points_in l.lines.items
    ≡ map (free_of l.p)
    (filter (λ (line : List ℕ). not (is_touched l.own line)) (take l.line-index (lines_of l.g)))
