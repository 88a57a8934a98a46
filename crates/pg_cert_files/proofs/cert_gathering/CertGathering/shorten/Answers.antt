use Rattle.std.proofs.lemmas.Result.{IfOk-weaker}
use Rattle.pg_cert_files.proofs.ShortGathering.{gathered_short}
use Rattle.pg_cert_files.proofs.cert_gathering.CertGathering.shorten.Goals as goal

pub shorten-requires : goal.shorten-requires
shorten-requires c = record { text = c.requires.text; fed = c.requires.gathered.fed }

pub returns : goal.returns
returns c = IfOk-weaker c.shorten.result _ _
    (λ u cut text h. gathered_short c.args.self.now c.shorten.new.self text (cut text h.fed) h)
    c.shorten.ensures
