use Rattle.std.proofs.Common.{◌≡◌, subst, Err}
use Rattle.pg_evidence.proofs.Common.{IsReadAs, number_of}
use Rattle.pg_text.specs.declared.error.FileError.{FileError}
use Rattle.pg_image.specs.Gathering.{said_within}
use Rattle.pg_evidence.specs.declared.evidence.Evidence.TheVariants.{Folded}
use Rattle.pg_evidence.proofs.Judged.{bad_folded, held_bad, held_ok, said_folded}
use Rattle.pg_evidence.proofs.SameVerdicts.{fails_like, found_same, says_like}
use Rattle.pg_evidence.proofs.judging.judge_images.Goals as goal

pub judge_folded-requires : goal.judge_folded-requires
judge_folded-requires c =
    c.in-Ok.ensures.limits c.requires.text c.requires.short c.requires.gathers

pub returns-in_ok-judge_folded-in-Ok-clause-judged :
    goal.returns-in_ok-judge_folded-in-Ok-clause-judged
returns-in_ok-judge_folded-in-Ok-clause-judged c text short gathers alike has =
    let like = says_like text short c.in-Ok.certificate alike
    (c.in-Ok.ensures.read text short gathers) in (
      Folded like.cert,
      held_ok text (Folded like.cert) (said_folded text like.cert has like.says),
      found_same c.args.game.now like.cert c.in-Ok.certificate like.same like.limits
          c.in_ok-judge_folded-in-Ok.field-0 c.in_ok-judge_folded-in-Ok.ensures,
    )

pub returns-in-Err-Bad-clause-judged : goal.returns-in-Err-Bad-clause-judged
returns-in-Err-Bad-clause-judged c text short gathers alike has =
    let number = c.in-Err-Bad.number in
    let line = c.in-Err-Bad.line in
    rw c.in-Err-Bad.field-0-is (held_bad text number line (bad_folded text number line has
    (fails_like text short (λ bad. (number ≡ number_of bad.0) × (line ≡ bad.1)) alike
    (subst (λ (f : FileError). IsReadAs (Err f) (said_within text short))
    c.in-Err-Bad.field-0-is (c.in-Err-Bad.ensures.read text short gathers)))))
