use Rattle.std.proofs.Common.{◌++◌, ◌∙◌, refl, sym, ap, eqb-true}
use Rattle.std.specs.Prelude.{fold}
use Rattle.pg_cert_files.specs.CertFile.{listed, with_part}
use Rattle.pg_cert_files.specs.Gatherer.{view}
use Rattle.pg_cert_files.specs.declared.gathered_parts.Gatherer.{Gatherer}
use Rattle.pg_cert_files.proofs.ReadsWhole.{read_all, reads_more}
use Rattle.pg_cert_files.proofs.cert_gathering.CertGathering.take.Goals as goal

pub loop-rest-init : goal.loop-rest-init
loop-rest-init c = λ text has.
    record { front = text; cut = refl; fed = has.fed; parts = has.parts }

pub loop-rest-preserved : goal.loop-rest-preserved
loop-rest-preserved c = λ text has.
    let with =
    c.in_ok-self.ensures
    ∙ ap (λ (g : Gatherer). fold with_part (view g) (listed c.in_ok-fed.fed.part))
    c.replace-gatherer.ensures.value
    in
    reads_more c.loop-rest.self.reader c.feed.new.self c.loop-rest.self.gatherer
    c.in_ok-self.field-0 (text ++ c.args.piece.now) c.loop-rest.rest.now c.in_ok-fed.fed.used
    c.in_ok-fed.fed.part c.in_ok-fed.ensures.used (c.loop-rest.invariant text has)
    c.in_ok-fed.ensures.fed c.in_ok-fed.ensures.parts with

pub returns : goal.returns
returns c = λ text has.
    let all =
    read_all c.loop-rest.self.reader c.loop-rest.self.gatherer (text ++ c.args.piece.now)
    c.loop-rest.rest.now (c.loop-rest.invariant text has)
    (eqb-true _ 0 (sym c.is_empty.ensures ∙ c.loop-rest-test.false))
    in
    record { fed = all.0; parts = all.1 }
