use Rattle.std.proofs.Common.{◌≡◌, Err, Result, sym, subst, refl}
use Rattle.pg_families.proofs.Common.{err_from_is_err_and, Halt, Refused, not_opened, opened}
use Rattle.pg_families.proofs.Common.{runs_halt, SpanEntry, span_entry}
use Rattle.pg_families.specs.Connectivity.{SolvesSpan, SolvesSpanGame, span_held}
use Rattle.pg_families.proofs.Commands.{runs_does}
use Rattle.pg_families.proofs.span_solve.solve_span.Goals as goal

pub returns-in_err-game-clause-ran : goal.returns-in_err-game-clause-ran
returns-in_err-game-clause-ran g c =
    let p = err_from_is_err_and c.from_residual.result c.from_residual.ensures.1 in
    rw (p.1, p.2)
    (runs_halt (g.F.Files.told c.args.files.now)
    (g.F.Files.told c.open_span.new.files) c.open_span.ensures.kept.held
    (λ held refusal. span_held (held c.args.game.now) ≡ Err (Refused refusal))
    (λ held. SolvesSpan (span_held (held c.args.game.now)) c.args.certificate.now)
    (g.C.Console.told c.args.console.now) c.in_err-game.field-0.0
    (λ held refusal is this. not_opened span_entry span_held (g.F.Files.told c.args.files.now).held
    c.args.game.now held is c.in_err-game.field-0.0 refusal this c.in_err-game.ensures.opened))

pub returns-clause-ran : goal.returns-clause-ran
returns-clause-ran g c =
    runs_does (λ held refusal. span_held (held c.args.game.now) ≡ Err (Refused refusal))
    (λ held. SolvesSpan (span_held (held c.args.game.now)) c.args.certificate.now)
    (SolvesSpanGame c.in_ok-game.game c.args.certificate.now) (g.F.Files.told c.args.files.now)
    (g.F.Files.told c.open_span.new.files) (g.F.Files.told c.deliver_class.new.files)
    (g.C.Console.told c.args.console.now) (g.C.Console.told c.deliver_class.new.console)
    c.deliver_class.result c.open_span.ensures.kept.held (λ held is done end act.
    subst (λ (read : Result SpanEntry Halt). SolvesSpan read c.args.certificate.now done end)
    (sym (opened span_entry span_held (g.F.Files.told c.args.files.now).held c.args.game.now held is
    c.in_ok-game.game c.in_ok-game.ensures.opened)) (c.in_ok-game.game, refl, act))
    c.deliver_class.ensures.solved
