use Rattle.pg_pns.proofs.Descending.{keeps-played}
use Rattle.pg_pns.proofs.descent.bring.Goals as goal

pub returns-then-is_free : goal.returns-then-is_free
returns-then-is_free c = keeps-played c.args.board.now c.take_back.new.board c.play.new.self
    c.take_back.ensures c.play.ensures.game c.play.ensures.earlier
