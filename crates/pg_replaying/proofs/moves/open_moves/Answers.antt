use Rattle.std.proofs.Common.{ℕ, Global, Vec, subst}
use Rattle.pg_replaying.proofs.Common.{Bytes, IsReadAs, record_of}
use Rattle.pg_replaying.proofs.Opened.{opens_moves}
use Rattle.pg_replaying.specs.Records.{moves_told}
use Rattle.pg_replaying.proofs.moves.open_moves.Goals as goal

pub returns-clause-opened : goal.returns-clause-opened
returns-clause-opened g c =
    let game = c.args.game.now in
    opens_moves (λ (moves : Vec ℕ Global). moves.items) game (g.F.Files.told c.args.files.now).held
    c.args.name.now c.in_ok-text.text.items c.read_moves.result c.in_ok-text.ensures.bytes
    (subst (λ (text : Bytes).
    IsReadAs (λ (moves : Vec ℕ Global). moves.items) (moves_told (record_of game text))
    c.read_moves.result) c.deref.ensures.value c.read_moves.ensures.read)
