use Rattle.std.proofs.Common.{◌∙◌, sym, ap, Some}
use Rattle.pg_span.proofs.ClassLemmas.{span_class-solved}
use Rattle.pg_span.proofs.SolveLemmas.{claims_small}
use Rattle.pg_span.specs.declared.solved.SpanClass.{SpanClass}
use Rattle.pg_span.specs.Solved.{named}
use Rattle.pg_span.proofs.solve.span_solve.Goals as goal

pub returns-clause-class : goal.returns-clause-class
returns-clause-class c =
    span_class-solved c.args.g.now c.in_ok-solved.solved c.in_ok-solved.ensures.holds
    ∙ sym (ap (λ (k : SpanClass). Some (named k)) c.class-class.ensures)

pub returns-clause-small : goal.returns-clause-small
returns-clause-small c = claims_small c.args.g.now c.in_ok-solved.solved
    c.in_ok-certificate.certificate.claims c.in_ok-certificate.ensures c.in_ok-solved.ensures.small
