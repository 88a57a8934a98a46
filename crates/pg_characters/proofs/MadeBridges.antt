-- The Bridg-It boards that are made are found.
use Rattle.std.proofs.Common.{◌≡◌, ◌∙◌, ℕ, ◌+◌, ◌-◌, ◌*◌, ◌≤◌, Bool, true, false}
use Rattle.std.proofs.Common.{ap, arith, refl, sym, true≢false}
use Rattle.std.specs.Prelude.{nat_le, ◌==◌, Option, Some, None}
use Rattle.std.specs.List.{list_all, range_with_len}
use Rattle.std.proofs.lemmas.Bool.{and_parts, eqb-true}
use Rattle.std.proofs.lemmas.Bool.Decides.{nat_tests}
use Rattle.pg_game.specs.declared.field.Field.{Field}
use Rattle.pg_game.specs.declared.field.Field.TheVariants.{Lines, Graph as OnGraph}
use Rattle.pg_gen.specs.Bridge.{bridge_ends, bridge_field, has_bridge}
use Rattle.pg_gen.specs.declared.limits.TheConstants.{MAX_BRIDGE_ROWS}
use Rattle.pg_graph.specs.declared.graph.Graph.{Graph}
unfoldable use Rattle.pg_characters.specs.Bridges.{fits_paper, paper_rows}
use Rattle.pg_characters.proofs.Ranges.{each_passes}

-- the graph of a board
abbrev made : ℕ → Graph
made r = record { vertices = r * (r - 1) + 2; s = 0; t = 1; ends = bridge_ends r }

-- whether this number of rows was found
abbrev is_number : ℕ → Option ℕ → Bool
is_number r None = false
is_number r (Some n) = n == r

abbrev passes : ℕ → Bool
passes r = is_number r (paper_rows (made r))

all_pass : list_all passes (range_with_len 1 22) ≡ true
unfolding fits_paper paper_rows
all_pass = refl

is_some : (r : ℕ) (found : Option ℕ) → is_number r found ≡ true → found ≡ Some r
is_some r None on = absurd (true≢false (sym on))
is_some r (Some n) on = ap Some (eqb-true n r on)

-- the graph of a field, or this one
abbrev graph_of : Graph → Field → Graph
graph_of other (OnGraph h) = h
graph_of other (Lines f) = other

pub is_found : (r : ℕ) (h : Graph)
    → has_bridge r ≡ true
    → bridge_field r ≡ OnGraph h
    → paper_rows h ≡ Some r
is_found r h has is =
    let parts = and_parts (nat_le 1 r) (nat_le r MAX_BRIDGE_ROWS) has in
    let low : 1 ≤ r = grind (arith, nat_tests, parts.0) in
    let high : r ≤ 22 = grind (arith, nat_tests, parts.1) in
    let found = is_some r (paper_rows (made r))
    (each_passes passes 1 22 r all_pass low (omega (arith, high))) in
    ap paper_rows (sym (ap (graph_of (made r)) is)) ∙ found
