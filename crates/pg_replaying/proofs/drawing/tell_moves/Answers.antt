use Rattle.pg_record.proofs.Standing.{legal-first}
use Rattle.pg_replaying.proofs.Common.{start}
use Rattle.pg_replaying.proofs.drawing.tell_moves.Goals as goal

pub moves_text-requires : goal.moves_text-requires
moves_text-requires c = legal-first c.args.game.now (start c.args.game.now) c.wanted-count.result
    c.args.moves.now c.requires
