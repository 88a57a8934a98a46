use Rattle.std.proofs.Common.{refl}
use Rattle.std.proofs.lemmas.Result.{err_from_is_err_and}
use Rattle.pg_families.specs.Connectivity.{AcceptsSpans, RefusesSpanCheck, span_both_held}
use Rattle.pg_families.specs.Connectivity.{span_pair}
use Rattle.pg_families.proofs.Judging.{runs_both, runs_unread}
use Rattle.pg_families.proofs.span_check.check_span.Goals as goal

pub returns-in_err-both-clause-ran : goal.returns-in_err-both-clause-ran
returns-in_err-both-clause-ran g c =
    let p = err_from_is_err_and c.from_residual.result c.from_residual.ensures.1 in
    rw (p.1, p.2)
    (runs_unread span_pair span_both_held RefusesSpanCheck AcceptsSpans c.args.game.now
    c.args.certificate.now (g.F.Files.told c.args.files.now)
    (g.F.Files.told c.open_span_both.new.files) c.open_span_both.ensures.kept.held (λ refusal. refl)
    (g.C.Console.told c.args.console.now) c.in_err-both.field-0.0 c.in_err-both.ensures.opened)

pub returns-clause-ran : goal.returns-clause-ran
returns-clause-ran g c = runs_both span_pair span_both_held RefusesSpanCheck AcceptsSpans
    c.args.game.now c.args.certificate.now (g.F.Files.told c.args.files.now)
    (g.F.Files.told c.open_span_both.new.files) c.open_span_both.ensures.kept.held c.in_ok-both.both
    c.in_ok-both.ensures.opened (g.C.Console.told c.args.console.now)
    (g.C.Console.told c.judge_spans.new.console) c.judge_spans.result c.judge_spans.ensures.judged
