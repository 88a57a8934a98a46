use Rattle.pg_cert_files.proofs.Within.{parts_within, last_within}
use Rattle.pg_cert_files.proofs.cert_state.CertReader.feed_within.Goals as goal

pub returns-clause-parts : goal.returns-clause-parts
returns-clause-parts c = λ text fed. parts_within c.args.self.now text c.args.piece.now
    c.in_ok-fed.fed.used c.in_ok-fed.fed.part fed c.requires c.in_ok-fed.ensures.used
    (λ stands. (c.in_ok-fed.ensures.stands text stands).1)

pub returns-clause-last : goal.returns-clause-last
returns-clause-last c =
    last_within c.args.self.now c.args.piece.now c.in_ok-fed.fed.used c.in_ok-fed.fed.part
    c.requires c.in_ok-fed.ensures.used c.in_ok-fed.ensures.last
