use Rattle.std.proofs.lemmas.Result.{on_ok_weaker}
use Rattle.pg_book_parts.proofs.Shown.{bow_steps}
use Rattle.pg_book_parts.proofs.shapes.push_bow.Goals as goal

pub returns : goal.returns
returns c =
    on_ok_weaker c.push_bent-2.result
    (bow_steps c.args.from c.args.bend c.args.to c.midway-near.result c.midway-far.result
    c.midway-middle.result c.args.paint c.args.pieces.now.items _ _ c.midway-near.ensures
    c.midway-far.ensures c.midway-middle.ensures c.in_ok-push_bent.ensures)
    c.push_bent-2.ensures
