use Rattle.std.proofs.Common.{ℕ, ◌<◌, Option, subst, sym}
use Rattle.std.specs.Prelude.{IfSome}
use Rattle.pg_duel.proofs.Common.{point_count}
use Rattle.pg_duel.proofs.Answering.{last_within}
use Rattle.pg_duel.proofs.words.seat_screen.Goals as goal

pub put_own-requires-clause-reply : goal.put_own-requires-clause-reply
put_own-requires-clause-reply c =
    subst (λ (reply : Option ℕ). IfSome reply (λ v. v < point_count c.args.game.now))
    (sym c.last_reply-reply.ensures)
    (last_within (λ v. v < point_count c.args.game.now) c.args.seat.now.replies.items
    c.requires.replies)
