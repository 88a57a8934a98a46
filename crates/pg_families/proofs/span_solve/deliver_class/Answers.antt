use Rattle.std.proofs.Common.{[], ◌∷◌, ◌∙◌, refl, ap, subst}
use Rattle.pg_families.proofs.Common.{err_from_is_err_and, Bytes, Memory, message_text, Does}
use Rattle.pg_families.proofs.Common.{Delivers, stopped_first}
use Rattle.pg_families.specs.Connectivity.{SolvesSpanGame}
use Rattle.pg_families.proofs.SpanRanges.{ranges_kept}
use Rattle.pg_families.proofs.Spans.{delivers_class}
use Rattle.pg_families.proofs.span_solve.deliver_class.Goals as goal

pub returns-in_err-class-clause-solved : goal.returns-in_err-class-clause-solved
returns-in_err-class-clause-solved g c =
    let p = err_from_is_err_and c.from_residual.result c.from_residual.ensures.1 in
    rw (p.1, p.2)
    (stopped_first (SolvesSpanGame c.args.game.now c.args.certificate.now)
    (g.F.Files.told c.args.files.now) (g.F.Files.told c.args.files.now)
    (g.C.Console.told c.args.console.now)
    (g.C.Console.told c.args.console.now) Memory refl refl refl)

pub returns-in_err-text-clause-solved : goal.returns-in_err-text-clause-solved
returns-in_err-text-clause-solved g c =
    let p =
    err_from_is_err_and c.from_residual-in_err-text.result c.from_residual-in_err-text.ensures.1 in
    rw (p.1, p.2)
    (stopped_first (SolvesSpanGame c.args.game.now c.args.certificate.now)
    (g.F.Files.told c.args.files.now) (g.F.Files.told c.args.files.now)
    (g.C.Console.told c.args.console.now)
    (g.C.Console.told c.args.console.now) Memory refl refl refl)

pub returns-clause-solved : goal.returns-clause-solved
returns-clause-solved g c =
    let solved = c.in_ok-class.ensures in
    let texts = message_text c.class_message.result ∷ [] in
    delivers_class c.args.game.now c.args.certificate.now c.in_ok-class.class c.in_ok-class.shown
    texts (g.F.Files.told c.args.files.now) (g.F.Files.told c.deliver.new.files)
    (g.C.Console.told c.args.console.now) (g.C.Console.told c.deliver.new.console) c.deliver.result
    (record {
      class_is = solved.class;
      valid = solved.valid;
      ranges = ranges_kept c.args.game.now c.in_ok-class.class c.in_ok-class.shown solved.claims
          solved.valid solved.small;
      claims = solved.claims;
    }) (ap (λ (t : Bytes). t ∷ []) c.class_message.ensures) (subst (λ (b : Bytes). Does (Delivers (
      c.args.certificate.now,
      b,
    ) texts) (g.F.Files.told c.args.files.now) (g.F.Files.told c.deliver.new.files)
    (g.C.Console.told c.args.console.now) (g.C.Console.told c.deliver.new.console) c.deliver.result)
    (c.deref.ensures.value ∙ c.in_ok-text.ensures) c.deliver.ensures.delivered)
