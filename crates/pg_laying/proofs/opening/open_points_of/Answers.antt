use Rattle.pg_game.specs.Fit.{IsFit}
use Rattle.pg_laying.proofs.opening.open_points_of.Goals as goal

pub returns-in-Lines-clause-few : goal.returns-in-Lines-clause-few
returns-in-Lines-clause-few c =
    let game = c.args.game.now in
    let fits : IsFit game.kind game.field game.x game.y game.bias = game.fits in
    (fits.within.on_lines c.in-Lines.on c.in-Lines.is).few_points
