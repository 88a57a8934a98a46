use Rattle.pg_settle.proofs.Settles.{settles_lines, settles_switching}
use Rattle.pg_settle.specs.Settling.{form_of}
use Rattle.pg_settle.proofs.settling.settle_game.Goals as goal

pub returns-in-Switching-clause-settled : goal.returns-in-Switching-clause-settled
returns-in-Switching-clause-settled g c = settles_switching (g.S.Finder.brings c.args.finder.now)
    (form_of c.args.order.images c.args.order.json c.args.order.game.now) c.args.game.now
    c.args.order.certificate.now c.args.order.budget (g.F.Files.told c.args.files.now)
    (g.F.Files.told c.settle_switching.new.files) (g.C.Console.told c.args.console.now)
    (g.C.Console.told c.settle_switching.new.console) c.settle_switching.result c.in-Switching.is
    c.settle_switching.ensures.settled

pub returns-in_default-clause-settled : goal.returns-in_default-clause-settled
returns-in_default-clause-settled g c = settles_lines (g.S.Finder.brings c.args.finder.now)
    (form_of c.args.order.images c.args.order.json c.args.order.game.now) c.args.game.now
    c.args.order.certificate.now c.args.order.budget (g.F.Files.told c.args.files.now)
    (g.F.Files.told c.settle_lines.new.files) (g.C.Console.told c.args.console.now)
    (g.C.Console.told c.settle_lines.new.console) c.settle_lines.result c.in_default.not-Switching
    c.settle_lines.ensures.settled
