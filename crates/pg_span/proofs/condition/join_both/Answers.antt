use Rattle.std.proofs.Common.{◌∙◌, ap, sym}
use Rattle.pg_span.proofs.Common.{both_ways, contains, contains-union_either}
use Rattle.pg_span.specs.Judge.{connects}
use Rattle.pg_span.proofs.condition.join_both.Goals as goal

pub returns-then-connects-clause-join : goal.returns-then-connects-clause-join
returns-then-connects-clause-join c =
    let h = c.args.g.now.graph in
    let first = ap (connects h)
    (ap contains c.union.ensures.union ∙ contains-union_either c.args.claimed.now c.args.a1.now) in
    let second = ap (connects h)
    (ap contains c.union-then-connects.ensures.union
    ∙ contains-union_either c.args.claimed.now c.args.a2.now) in (
      (λ on. (
        sym first ∙ (sym c.connects.ensures.joins ∙ c.if-connects.true),
        sym second ∙ (sym c.connects-then-connects.ensures.joins ∙ on),
      )),
      (λ both. c.connects-then-connects.ensures.joins ∙ (second ∙ both.1)),
    )

pub returns-else-connects-clause-join : goal.returns-else-connects-clause-join
returns-else-connects-clause-join c =
    let h = c.args.g.now.graph in
    let first = ap (connects h)
    (ap contains c.union.ensures.union
    ∙ contains-union_either c.args.claimed.now c.args.a1.now) in (
      (λ on. absurd (both_ways _ c.if-connects.false on)),
      (λ both. c.connects.ensures.joins ∙ (first ∙ both.0)),
    )
