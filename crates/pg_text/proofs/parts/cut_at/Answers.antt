use Rattle.pg_text.proofs.Cuts.{found_at, not_found}
use Rattle.pg_text.proofs.parts.cut_at.Goals as goal

pub returns-in-Some-clause-found : goal.returns-in-Some-clause-found
returns-in-Some-clause-found c =
    found_at c.args.sign c.args.text.now c.in-Some.end c.in-Some.ensures

pub returns-in-None-clause-none : goal.returns-in-None-clause-none
returns-in-None-clause-none c = not_found c.args.sign c.args.text.now c.in-None.ensures
