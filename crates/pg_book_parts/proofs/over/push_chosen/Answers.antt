use Rattle.std.proofs.lemmas.Result.{on_ok_weaker}
use Rattle.pg_book_parts.proofs.Steps.{filled_two}
use Rattle.pg_book_parts.proofs.over.push_chosen.Goals as goal

pub returns : goal.returns
returns c =
    let chosen = rw (c.other.ensures, c.place_of.ensures) at c.in_ok-push_mark.ensures in
    let answer = rw c.place_of-2.ensures at c.in_ok-push_mark-2.ensures in
    on_ok_weaker c.push_close.result
    (filled_two c.args.pieces.now.items _ _ _ _ _ _ _ _ c.in_ok-open_group.ensures chosen
    answer)
    c.push_close.ensures
