use Rattle.pg_opponent.proofs.Recording.{has_room}
use Rattle.pg_opponent.proofs.seat.record.Goals as goal

pub play-requires : goal.play-requires
play-requires c =
    has_room c.args.session.now.game c.args.session.now.events c.requires.legal
