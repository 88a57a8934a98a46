use Rattle.pg_results.proofs.Differing.{solution_differs}
use Rattle.pg_cli.proofs.laws.solutions_differ_in_position.Goals as goal

pub returns : goal.returns
returns c = solution_differs
