use Rattle.std.proofs.lemmas.Result.{IfOk-weaker}
use Rattle.pg_cert_files.proofs.Within.{is_past, is_within}
use Rattle.pg_drawing.proofs.Coming.{read_alike, read_large}
use Rattle.pg_drawing.proofs.incoming.Incoming.end.Goals as goal

pub returns-then-self-gt-MAX_CERT_BYTES-clause-read :
    goal.returns-then-self-gt-MAX_CERT_BYTES-clause-read
returns-then-self-gt-MAX_CERT_BYTES-clause-read c = λ text come. read_large text c.number.result
    (is_past text c.args.self.size come.size c.if-self-gt-MAX_CERT_BYTES.true) c.number.ensures

pub returns-clause-read : goal.returns-clause-read
returns-clause-read c = λ text come.
    let within = is_within text c.args.self.size come.size c.if-self-gt-MAX_CERT_BYTES.false in
    read_alike c.args.self text c.end.result within.0 come
    (c.end.ensures.read come.short come.gathered)

pub returns-clause-limits : goal.returns-clause-limits
returns-clause-limits c = IfOk-weaker c.end.result _ _
    (λ cert within. within c.requires.come.short c.requires.come.gathered) c.end.ensures.limits
