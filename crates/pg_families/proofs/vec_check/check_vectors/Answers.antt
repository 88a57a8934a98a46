use Rattle.std.proofs.Common.{refl}
use Rattle.std.proofs.lemmas.Result.{err_from_is_err_and}
use Rattle.pg_families.specs.Vectors.{AcceptsVectors, RefusesVectorCheck, vectors_both_held}
use Rattle.pg_families.specs.Vectors.{vectors_pair}
use Rattle.pg_families.proofs.Judging.{runs_both, runs_unread}
use Rattle.pg_families.proofs.vec_check.check_vectors.Goals as goal

pub returns-in_err-both-clause-ran : goal.returns-in_err-both-clause-ran
returns-in_err-both-clause-ran g c =
    let p = err_from_is_err_and c.from_residual.result c.from_residual.ensures.1 in
    rw (p.1, p.2)
    (runs_unread vectors_pair vectors_both_held RefusesVectorCheck AcceptsVectors c.args.game.now
    c.args.certificate.now (g.F.Files.told c.args.files.now)
    (g.F.Files.told c.open_vectors_both.new.files) c.open_vectors_both.ensures.kept.held
    (λ refusal. refl)
    (g.C.Console.told c.args.console.now) c.in_err-both.field-0.0 c.in_err-both.ensures.opened)

pub returns-clause-ran : goal.returns-clause-ran
returns-clause-ran g c = runs_both vectors_pair vectors_both_held RefusesVectorCheck AcceptsVectors
    c.args.game.now c.args.certificate.now (g.F.Files.told c.args.files.now)
    (g.F.Files.told c.open_vectors_both.new.files) c.open_vectors_both.ensures.kept.held
    c.in_ok-both.both c.in_ok-both.ensures.opened (g.C.Console.told c.args.console.now)
    (g.C.Console.told c.judge_vectors.new.console) c.judge_vectors.result
    c.judge_vectors.ensures.judged
