use Rattle.std.proofs.Common.{◌≡◌, false, nat_lt, ℕ, Global, Vec, subst}
use Rattle.pg_sessions.proofs.Common.{le-ltb, Bytes, record_of, IsReadAs}
use Rattle.pg_sessions.proofs.Opened.{opens_moves}
use Rattle.pg_sessions.specs.Review.{moves_told}
use Rattle.pg_sessions.proofs.opening.open_moves.Goals as goal

pub returns-clause-opened : goal.returns-clause-opened
returns-clause-opened g c =
    let game = c.args.game.now in
    let single : nat_lt 1 game.bias ≡ false = le-ltb 1 game.bias c.if-game-gt1.false in
    opens_moves (λ (moves : Vec ℕ Global). moves.items) game (g.F.Files.told c.args.files.now).held
    c.args.name.now c.in_ok-text.text.items c.read_moves.result single c.in_ok-text.ensures.bytes
    (subst (λ (text : Bytes).
    IsReadAs (λ (moves : Vec ℕ Global). moves.items) (moves_told (record_of game text))
    c.read_moves.result) c.deref.ensures.value c.read_moves.ensures.read)
