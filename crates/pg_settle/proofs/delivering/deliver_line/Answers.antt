use Rattle.std.proofs.Common.{inr, refl}
use Rattle.pg_settle.proofs.Common.{err_from_is_err_and}
use Rattle.pg_settle.proofs.LineDelivered.{line_cut, line_said, line_unstored}
use Rattle.pg_talk.proofs.Delivering.{is_write, keep_others}
use Rattle.pg_settle.proofs.delivering.deliver_line.Goals as goal

pub returns-in_err-store-clause-delivered : goal.returns-in_err-store-clause-delivered
returns-in_err-store-clause-delivered g c =
    let p = err_from_is_err_and c.from_residual.result c.from_residual.ensures.1 in
    let stop = c.in_err-store.field-0.0 in
    rw (p.1, p.2)
    (line_unstored (g.F.Files.told c.args.files.now) (g.F.Files.told c.store.new.files)
    (c.args.name.now, c.args.text.now) c.args.line.now (g.C.Console.told c.args.console.now) stop
    (is_write _ stop refl c.in_err-store.ensures.fed c.in_err-store.ensures.written)
    c.in_err-store.ensures.stored)

pub returns-in_err-store-clause-files : goal.returns-in_err-store-clause-files
returns-in_err-store-clause-files g c = inr (
  c.in_err-store.ensures.idle,
  keep_others (g.F.Files.told c.args.files.now) (g.F.Files.told c.store.new.files)
      (c.args.name.now, c.args.text.now) _ c.in_err-store.ensures.stored,
)

pub returns-in_err-say_text-clause-delivered : goal.returns-in_err-say_text-clause-delivered
returns-in_err-say_text-clause-delivered g c =
    let p = err_from_is_err_and c.from_residual-in_err-say_text.result
    c.from_residual-in_err-say_text.ensures.1 in
    rw (p.1, p.2)
    (line_cut (g.F.Files.told c.args.files.now) (g.F.Files.told c.store.new.files)
    (c.args.name.now, c.args.text.now) c.args.line.now (g.C.Console.told c.args.console.now)
    (g.C.Console.told c.say_text.new.console) c.in_err-say_text.field-0.0
    c.in_err-say_text.ensures.write c.in_ok-store.ensures.stored c.in_err-say_text.ensures.said
    c.in_err-say_text.ensures.left)

pub returns-in_err-say_text-clause-files : goal.returns-in_err-say_text-clause-files
returns-in_err-say_text-clause-files g c = inr (
  c.in_ok-store.ensures.idle,
  keep_others (g.F.Files.told c.args.files.now) (g.F.Files.told c.store.new.files)
      (c.args.name.now, c.args.text.now) _ c.in_ok-store.ensures.stored,
)

pub returns-clause-delivered : goal.returns-clause-delivered
returns-clause-delivered g c =
    line_said (g.F.Files.told c.args.files.now) (g.F.Files.told c.store.new.files)
    (c.args.name.now, c.args.text.now) c.args.line.now (g.C.Console.told c.args.console.now)
    (g.C.Console.told c.say_text.new.console) c.in_ok-store.ensures.stored
    c.in_ok-say_text.ensures.said c.in_ok-say_text.ensures.left

pub returns-clause-files : goal.returns-clause-files
returns-clause-files g c = inr (
  c.in_ok-store.ensures.idle,
  keep_others (g.F.Files.told c.args.files.now) (g.F.Files.told c.store.new.files)
      (c.args.name.now, c.args.text.now) _ c.in_ok-store.ensures.stored,
)
