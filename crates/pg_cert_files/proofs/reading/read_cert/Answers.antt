use Rattle.std.proofs.Common.{[]}
use Rattle.pg_cert_files.proofs.Common.{IfOk-weaker, Cert}
use Rattle.pg_cert_files.proofs.reading.read_cert.Goals as goal

pub returns : goal.returns
returns c =
    let all = c.in_ok-take.ensures [] c.new-gathering.ensures in
    record {
      read = c.end.ensures.read c.args.bytes.now all;
      limits =
          IfOk-weaker c.end.result _ _ (λ (cert : Cert) known. known c.args.bytes.now all)
          c.end.ensures.limits;
    }
