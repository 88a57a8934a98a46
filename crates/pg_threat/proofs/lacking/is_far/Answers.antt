use Rattle.std.proofs.Common.{◌≡◌, ◌∙◌, sym, subst, eqb-true}
use Rattle.pg_threat.proofs.Common.{Side, live_with}
use Rattle.pg_threat.proofs.LineCounts.{none-lacking}
use Rattle.pg_threat.proofs.lacking.is_far.Goals as goal

pub returns-clause-one : goal.returns-clause-one
returns-clause-one c =
    let g = c.args.b.now.game in
    let p = c.args.b.now.stand.position in
    let none = subst (λ (s : Side). live_with g p s 1 ≡ 0) c.other-enemy.ensures
    (sym c.live_with.ensures ∙ c.if-live_with-ne0.false) in
    λ _ v. none-lacking g p c.args.side 1 none v

pub returns-clause-two : goal.returns-clause-two
returns-clause-two c =
    let g = c.args.b.now.game in
    let p = c.args.b.now.stand.position in
    λ on v. none-lacking g p c.args.side 2
    (subst (λ (s : Side). live_with g p s 2 ≡ 0) c.other-enemy.ensures
    (sym c.live_with-2.ensures ∙ eqb-true _ _ on)) v
