use Rattle.pg_binding.proofs.opening.tell_on.Goals as goal

pub returns-in-Connectivity-clause-found : goal.returns-in-Connectivity-clause-found
returns-in-Connectivity-clause-found g c =
    rw c.in-Connectivity.is (c.tell_on_span.ensures.found c.args.layout c.args.depth)

pub returns-in-Vectors-clause-found : goal.returns-in-Vectors-clause-found
returns-in-Vectors-clause-found g c =
    rw c.in-Vectors.is (c.tell_on_vectors.ensures.found c.args.layout c.args.depth)
