use Rattle.std.proofs.Common.{sym, subst}
use Rattle.pg_potential.proofs.Common.{Win, Side, PotentialHolds, Forces}
use Rattle.pg_potential.proofs.PotentialLaws.{Forces-potential_breaker, Forces-potential_draw}
use Rattle.pg_potential.proofs.condition.holds.Goals as goal

pub returns : goal.returns
returns c =
    let g = c.args.g.now in
    let p = c.args.p.now in
    let side = c.args.side in
    record {
      exact = c.is_low.ensures;
      breaker = λ on kind is_y. subst (λ (s : Side). Forces g p s Win) (sym is_y)
          (Forces-potential_breaker g p kind c.requires.position
          (subst (λ (s : Side). PotentialHolds g p s) is_y (c.is_low.ensures.0 on)));
      draw = λ on kind. Forces-potential_draw g p side kind c.requires.position
          (c.is_low.ensures.0 on);
    }
