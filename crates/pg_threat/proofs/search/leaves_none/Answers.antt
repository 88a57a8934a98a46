use Rattle.std.proofs.Common.{◌≡◌, ◌∙◌, sym, subst}
use Rattle.pg_threat.proofs.Common.{not-true, Side, live_with}
use Rattle.pg_threat.proofs.Gains.{none-lacked}
use Rattle.pg_threat.proofs.search.leaves_none.Goals as goal

pub returns : goal.returns
returns c =
    let g = c.args.b.now.game in
    let p = c.args.b.now.stand.position in
    let only = subst (λ (s : Side). live_with g p s 2 ≡ 1) c.other.ensures
    (sym c.live_with.ensures ∙ c.if-live_with-ne1.false) in
    λ on w. none-lacked g p c.args.side c.requires.single c.requires.attacking c.args.v c.args.u
    c.requires.attack only c.requires.reply (c.gains.ensures (not-true _ on)) w
