use Rattle.pg_game.proofs.NoWorse.{IsNoWorse-refl, IsNoWorse-trans}
use Rattle.pg_game.proofs.laws.no_worse_is_an_order.Goals as goal

pub returns : goal.returns
returns c = record { itself = IsNoWorse-refl; further = IsNoWorse-trans }
