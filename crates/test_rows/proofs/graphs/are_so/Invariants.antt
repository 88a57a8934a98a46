use Rattle.pg_graph.specs.Joiner.{IsMadeFor}
use Rattle.test_rows.proofs.graphs.are_so.Given as goal

abbrev pub invariant-loop-question : goal.invariant-loop-question
invariant-loop-question l = IsMadeFor l.joiner l.graph
