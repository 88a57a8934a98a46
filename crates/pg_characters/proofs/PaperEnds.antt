-- The ends of the edges of a graph that is drawn as a Bridg-It board.
use Rattle.std.proofs.Common.{◌≡◌, ◌∙◌, ℕ, ◌+◌, ◌*◌, ◌<◌, ◌≤◌, true}
use Rattle.std.proofs.Common.{suc}
use Rattle.std.proofs.Common.{sym, ap, ap₂, arith, true≢false}
use Rattle.std.specs.Prelude.{Option, Some, None}
use Rattle.std.proofs.Math.Nat.{mul-le-mul_right, suc-mul}
use Rattle.std.proofs.lemmas.Bool.{and_parts, eqb-true}
use Rattle.std.proofs.lemmas.Nat.{div-mul-add, mod-mul-add}
use Rattle.pg_gen.specs.declared.limits.TheConstants.{MAX_BRIDGE_ROWS}
use Rattle.pg_graph.specs.declared.graph.Graph.{Graph}
use Rattle.pg_characters.specs.Bridges.{are_ends, fits_paper, fits_place, is_bridge, is_sized}
use Rattle.pg_characters.specs.Bridges.{paper_rows, spot_fits}
use Rattle.pg_characters.specs.Spots.{span_of, spot_at}
use Rattle.pg_characters.specs.declared.spots.Spot.{Spot}
use Rattle.pg_characters.proofs.Ranges.{each_passes, found_passes}

-- the graph is the board that is found
found : (h : Graph) (r : ℕ) → paper_rows h ≡ Some r → fits_paper h r ≡ true
unfolding paper_rows
found h r is =
    let passes = found_passes (is_bridge h) 1 MAX_BRIDGE_ROWS r is in
    (and_parts (is_sized h r) (fits_paper h r) passes.2).1

-- what is at a place fits
pub fits_at : (h : Graph) (r row column : ℕ) (spot : Spot)
    → paper_rows h ≡ Some r
    → row < span_of r
    → column < span_of r
    → spot_at r row column ≡ spot
    → spot_fits h r row column spot ≡ true
unfolding fits_paper
fits_at h r row column spot is low left at =
    let rows : suc row * span_of r ≤ span_of r * span_of r =
    mul-le-mul_right (span_of r) (omega arith) in
    let one = suc-mul row (span_of r) in
    let inside : row * span_of r + column < span_of r * span_of r =
    omega (arith, rows, one, left) in
    let fits = each_passes (fits_place h r) 0 (span_of r * span_of r) (row * span_of r + column)
    (found h r is) (omega arith) (omega (arith, inside)) in
    let down = div-mul-add row (span_of r) column left in
    let over = mod-mul-add row (span_of r) column left in
    sym (ap (spot_fits h r row column) at)
    ∙ sym (ap₂ (λ (a b : ℕ). spot_fits h r a b (spot_at r a b)) down over)
    ∙ fits

-- both ends are what they are compared with
pub ends_are : (o : Option (ℕ × ℕ)) (one other : ℕ)
    → are_ends o one other ≡ true
    → o ≡ Some (one, other)
ends_are None one other is = absurd (true≢false (sym is))
ends_are (Some e) one other is =
    let both = and_parts _ _ is in
    ap₂ (λ (a b : ℕ). Some (a, b)) (eqb-true _ _ both.0) (eqb-true _ _ both.1)
