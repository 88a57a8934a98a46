use Rattle.pg_split.proofs.Pieces.{piece_more}
use Rattle.pg_split.proofs.numbering.give_files.Goals as goal

pub loop-i-preserved : goal.loop-i-preserved
loop-i-preserved c =
    piece_more c.args.game.now c.args.first c.loop-i.next c.loop-i.pieces.items
    c.push.new.self.items c.in-Some.piece c.in-Some.ensures.piece c.in-Some.ensures.numbered
    c.in_ok-push.ensures.items c.loop-i.invariant
