use Rattle.std.proofs.Common.{◌∙◌, sym, subst}
use Rattle.pg_record.proofs.Common.{Position, start, IsPosition, judged_move, IsPosition-start}
use Rattle.pg_record.proofs.Common.{IsPosition-played}
use Rattle.pg_record.specs.declared.table.Table.{Table}
use Rattle.pg_record.specs.Session.{refusal_of, IsBoardAfter, IsTableAfter}
use Rattle.pg_record.proofs.Boards.{board-position, board-played}
use Rattle.pg_record.proofs.table.Table.play.Goals as goal

pub play-requires-clause-range : goal.play-requires-clause-range
play-requires-clause-range c =
    let is : IsPosition c.args.g.now c.replayed-position.result =
    subst (λ (p : Position). IsPosition c.args.g.now p) (sym c.replayed-position.ensures)
    (IsPosition-played c.args.g.now (start c.args.g.now) c.args.moves.now
    (IsPosition-start c.args.g.now) c.requires.legal) in
    is.x_range

pub returns-in-Lines-clause-result : goal.returns-in-Lines-clause-result
returns-in-Lines-clause-result c =
    let fits : IsBoardAfter c.args.g.now c.args.moves.now c.in-Lines.board = subst
    (λ (t : Table). IsTableAfter c.args.g.now c.args.moves.now t) c.in-Lines.is c.requires.fits in
    let position = board-position c.args.g.now c.args.moves.now c.in-Lines.board fits in
    c.play_on_board.ensures.result
    ∙ (λ i. refusal_of (judged_move (fits.same i) (position i) c.args.v))

pub returns-in-Lines-clause-played : goal.returns-in-Lines-clause-played
returns-in-Lines-clause-played c =
    let fits : IsBoardAfter c.args.g.now c.args.moves.now c.in-Lines.board = subst
    (λ (t : Table). IsTableAfter c.args.g.now c.args.moves.now t) c.in-Lines.is c.requires.fits in
    board-played c.args.g.now c.args.moves.now c.in-Lines.board c.play_on_board.new.board c.args.v
    c.play_on_board.result fits c.play_on_board.ensures.game c.play_on_board.ensures.position
    c.play_on_board.ensures.earlier
