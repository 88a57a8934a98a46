use Rattle.pg_cert_files.proofs.ShortTexts.{certificates_alike}
use Rattle.pg_cert_files.proofs.Within.{is_past, is_within}
use Rattle.pg_judge.proofs.ShortCerts.{judged_alike, judged_large}
use Rattle.pg_judge.proofs.Steps.{fed-short}
use Rattle.pg_judge.proofs.judging.Judging.end.Goals as goal

pub returns-then-self-gt-MAX_CERT_BYTES : goal.returns-then-self-gt-MAX_CERT_BYTES
returns-then-self-gt-MAX_CERT_BYTES c =
    λ text stands. judged_large c.args.self.told.checking.game.now text c.number.result
    (is_past text c.args.self.size stands.size c.if-self-gt-MAX_CERT_BYTES.true) c.number.ensures

pub conclude-requires : goal.conclude-requires
conclude-requires c = fed-short c.args.self c.requires

pub returns : goal.returns
returns c = λ text stands.
    let within = is_within text c.args.self.size stands.size c.if-self-gt-MAX_CERT_BYTES.false in
    judged_alike c.args.self.told.checking.game.now text stands.short
    (certificates_alike text stands.short within.0 stands.fewer stands.alike) c.conclude.result
    (c.conclude.ensures stands.short stands.fed)
