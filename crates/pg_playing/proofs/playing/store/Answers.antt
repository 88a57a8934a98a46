use Rattle.pg_playing.proofs.Runs.{stores_none}
use Rattle.pg_playing.proofs.playing.store.Goals as goal

pub returns-in-Some-clause-stored : goal.returns-in-Some-clause-stored
returns-in-Some-clause-stored g c = rw c.in-Some.is c.store_record.ensures.stored

pub returns-in-None-clause-stored : goal.returns-in-None-clause-stored
returns-in-None-clause-stored g c = rw c.in-None.is
    (stores_none c.args.session.now.game c.args.session.now.events
    (g.F.Files.told c.args.files.now) (g.C.Console.told c.args.console.now))
