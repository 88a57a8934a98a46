use Rattle.std.proofs.Common.{ℕ, Global, List, Ok, Vec, string_bytes, subst}
use Rattle.pg_replaying.specs.Due.{IsMovesDue, wanted}
use Rattle.pg_replaying.proofs.Found.{moves_due}
use Rattle.pg_replaying.proofs.opening.tell_on_game.Goals as goal

pub returns-clause-found : goal.returns-clause-found
returns-clause-found g c =
    let told = c.in_ok-tell_moves.field-0 in
    moves_due c.args.look c.args.order.moves
    (λ (moves : Vec ℕ Global). moves.items) c.args.game.now
    (g.F.Files.told c.args.files.now).held c.args.order.record.now c.in_ok-moves.moves
    c.in_ok-moves.ensures.opened (Ok told)
    (subst (λ (moves : List ℕ). IsMovesDue c.args.look c.args.game.now moves
    (wanted c.args.order.moves moves) (string_bytes told.words) told.status)
    c.deref.ensures.value c.in_ok-tell_moves.ensures)
