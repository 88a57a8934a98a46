use Rattle.std.proofs.Common.{◌∙◌, sym, ap, arith}
use Rattle.std.proofs.Common.{eqb-true}
use Rattle.pg_leaf.proofs.Common.{Side, live_with}
use Rattle.pg_base.specs.Side.{other}
use Rattle.pg_base.specs.declared.side.Side.TheVariants.{Y}
use Rattle.pg_game.specs.Threat.{is_race}
use Rattle.pg_leaf.proofs.Foreseeing.{no-race, on-few, on-light, on-waiting, same-side}
use Rattle.pg_leaf.proofs.ahead.Ahead.goes_on.Goals as goal

pub returns-then-total-self : goal.returns-then-total-self
returns-then-total-self c = λ t q v a m is h.
    on-light c.args.b.now q v m t c.args.self.now a c.args.total is c.if-total-eq0.false
    (omega (arith, c.if-free_count-lt2.false, c.free_count.ensures))
    (no-race _ (sym (ap is_race c.kind.ensures.exact) ∙ sym c.is_race.ensures
    ∙ c.if-not-is_race.true)) c.if-total-self.true

pub returns-then-is_same : goal.returns-then-is_same
returns-then-is_same c = λ t q v a m is h.
    on-waiting c.args.b.now q v m t c.args.self.now a c.args.total is c.if-total-eq0.false
    (omega (arith, c.if-free_count-lt2.false, c.free_count.ensures))
    (no-race _ (sym (ap is_race c.kind.ensures.exact) ∙ sym c.is_race.ensures
    ∙ c.if-not-is_race.true))
    (sym c.turn.ensures ∙ sym (same-side Y c.turn.result (sym c.is_same.ensures
    ∙ c.if-is_same.true)))

pub returns : goal.returns
returns c = λ t q v a m is h.
    let g = c.args.b.now.game in
    let p = c.args.b.now.stand.position in
    on-few c.args.b.now q v m t c.args.self.now a c.args.total is c.if-total-eq0.false
    (omega (arith, c.if-free_count-lt2.false, c.free_count.ensures))
    (ap (λ (s : Side). live_with g p s 1) (sym (c.other.ensures ∙ ap other c.turn-2.ensures))
    ∙ sym c.live_with.ensures
    ∙ eqb-true _ _ h)
