use Rattle.std.proofs.Common.{refl}
use Rattle.pg_replaying.proofs.Found.{game_due, refusal_due}
use Rattle.pg_replaying.proofs.opening.tell_on_board.Goals as goal

pub returns-in-Positional-clause-found : goal.returns-in-Positional-clause-found
returns-in-Positional-clause-found g c = game_due c.args.look c.args.order.moves c.args.board.now
    c.in-Positional.game (g.F.Files.told c.args.files.now).held c.args.order.record.now
    c.in-Positional.is c.tell_on_game.result c.tell_on_game.ensures.found

pub returns-in-Connectivity-clause-found : goal.returns-in-Connectivity-clause-found
returns-in-Connectivity-clause-found g c = refusal_due c.args.look c.args.order.moves
    c.args.board.now (g.F.Files.told c.args.files.now).held c.args.order.record.now
    (λ bytes. rw c.in-Connectivity.is (refl, refl))

pub returns-in-Vectors-clause-found : goal.returns-in-Vectors-clause-found
returns-in-Vectors-clause-found g c = refusal_due c.args.look c.args.order.moves
    c.args.board.now (g.F.Files.told c.args.files.now).held c.args.order.record.now
    (λ bytes. rw c.in-Vectors.is (refl, refl))
