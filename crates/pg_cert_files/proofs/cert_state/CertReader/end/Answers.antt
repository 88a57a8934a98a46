use Rattle.pg_cert_files.proofs.Within.{end_within, end_past, last_begins}
use Rattle.pg_cert_files.proofs.cert_state.CertReader.end.Goals as goal

pub returns-then-self-gt-MAX_CERT_BYTES-clause-end :
    goal.returns-then-self-gt-MAX_CERT_BYTES-clause-end
returns-then-self-gt-MAX_CERT_BYTES-clause-end c =
    end_past c.args.self c.at_line.result c.if-self-gt-MAX_CERT_BYTES.true c.at_line.ensures

pub returns-clause-end : goal.returns-clause-end
returns-clause-end c =
    end_within c.args.self c.end.result c.if-self-gt-MAX_CERT_BYTES.false c.end.ensures

pub returns-clause-begins : goal.returns-clause-begins
returns-clause-begins c = last_begins c.args.self c.end.result
    (end_within c.args.self c.end.result c.if-self-gt-MAX_CERT_BYTES.false c.end.ensures)
