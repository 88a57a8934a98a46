use Rattle.std.proofs.Common.{◌∙◌, sym}
use Rattle.pg_game.specs.PositionLemmas.{equal_positions-decides}
use Rattle.pg_met.proofs.Meeting.{key-same}
use Rattle.pg_pns.proofs.descent.stands_at.Goals as goal

pub returns : goal.returns
returns c = λ on.
    let here = key-same c.args.board.now.game c.position.result c.of-here.result c.requires
    c.position.ensures.fits c.of-here.ensures in
    sym
    ((equal_positions-decides c.of-here.result c.args.position.now).0 (sym c.eq.ensures ∙ on))
    ∙ here
    ∙ c.position.ensures.exact
