use Rattle.std.proofs.Common.{ℕ, ◌+◌, ◌-◌}
use Rattle.std.specs.Prelude.{slice_get}
use Rattle.pg_base.specs.declared.side.Side.TheVariants.{X, Y}
use Rattle.pg_graph.specs.declared.graph.Graph.{Graph}
use Rattle.pg_characters.specs.Bridges.{vertex_at}
use Rattle.pg_characters.specs.declared.spots.Spot.TheVariants.{Edge}
use Rattle.pg_characters.proofs.PaperEnds.{ends_are, fits_at}
use Rattle.pg_characters.proofs.PaperPlaces.{once, somewhere}
use Rattle.pg_characters.proofs.laws.edges_have_their_places.Goals as goal

pub returns-clause-somewhere : goal.returns-clause-somewhere
returns-clause-somewhere c = λ r e some inside. somewhere r e some inside

pub returns-clause-once : goal.returns-clause-once
returns-clause-once c = λ r row column e low left is. once r row column e low left is

pub returns-clause-across : goal.returns-clause-across
returns-clause-across c = λ (h : Graph). λ (r row column e : ℕ). λ is low left at.
    ends_are (slice_get h.ends e) (vertex_at r row (column - 1)) (vertex_at r row (column + 1))
    (fits_at h r row column (Edge e X) is low left at)

pub returns-clause-down : goal.returns-clause-down
returns-clause-down c = λ (h : Graph). λ (r row column e : ℕ). λ is low left at.
    ends_are (slice_get h.ends e) (vertex_at r (row - 1) column) (vertex_at r (row + 1) column)
    (fits_at h r row column (Edge e Y) is low left at)
