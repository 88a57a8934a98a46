use Rattle.std.proofs.Common.{◌∙◌, List, length, sym, ap, subst, arith}
use Rattle.pg_pns.proofs.Common.{Position, IsTable}
use Rattle.pg_pns.proofs.TableLaws.{table-none}
use Rattle.pg_pns.proofs.expansion.explore.Goals as goal

pub explore_on-requires-clause-reads : goal.explore_on-requires-clause-reads
explore_on-requires-clause-reads c = record {
  asked = c.requires.can;
  starts = record {
    game = c.in_ok-board.ensures.game;
    position = c.in_ok-board.ensures.position ∙ c.start.ensures;
    earlier = c.in_ok-board.ensures.earlier;
  };
  fits = c.requires.fits;
}

pub returns-in_err-board-clause-listed : goal.returns-in_err-board-clause-listed
returns-in_err-board-clause-listed c = record {
  rules = subst (λ (w : List Position). IsTable c.args.asked.game.now c.args.asked.question w)
      (sym c.requires.empty) (table-none c.args.asked.game.now c.args.asked.question);
  count = omega (arith, ap length c.requires.empty);
}
