use Rattle.std.proofs.Common.{◌≡◌, ◌++◌, ◌-◌, [], arith, refl, sym, subst}
use Rattle.pg_text.specs.Text.{Bytes}
use Rattle.pg_cert_files.specs.CertFile.{listed}
use Rattle.pg_cert_files.specs.Pieces.{parts_told, IsFed}
use Rattle.pg_cert_files.specs.declared.limits.TheConstants.{MAX_CERT_BYTES}
use Rattle.pg_cert_files.proofs.Within.{fed_past, parts_past, parts_over, front_taken, last_taken}
use Rattle.pg_cert_files.proofs.Within.{none_given}
use Rattle.pg_cert_files.proofs.cert_state.CertReader.feed.Goals as goal

pub returns-then-self-gt-MAX_CERT_BYTES-clause-parts :
    goal.returns-then-self-gt-MAX_CERT_BYTES-clause-parts
returns-then-self-gt-MAX_CERT_BYTES-clause-parts c = λ text fed. parts_over c.args.self.now text
    c.args.piece.now fed c.if-self-gt-MAX_CERT_BYTES.true

pub returns-then-is_some-clause-fed : goal.returns-then-is_some-clause-fed
returns-then-is_some-clause-fed c = λ text fed.
    let same = front_taken c.args.piece.now (MAX_CERT_BYTES - c.args.self.now.size)
    c.in_ok-fed.fed.used (omega arith) c.in_ok-fed.ensures.used in
    subst (λ (t : Bytes). IsFed c.feed_within-2.new.self (text ++ t)) same
    (c.in_ok-fed.ensures.fed text fed)

pub returns-then-is_some-clause-parts : goal.returns-then-is_some-clause-parts
returns-then-is_some-clause-parts c = λ text fed.
    let same = front_taken c.args.piece.now (MAX_CERT_BYTES - c.args.self.now.size)
    c.in_ok-fed.fed.used (omega arith) c.in_ok-fed.ensures.used in
    subst (λ (t : Bytes). parts_told (text ++ t) ≡ parts_told text ++ listed c.in_ok-fed.fed.part)
    same (c.in_ok-fed.ensures.parts text fed)

pub returns-then-is_some-clause-last : goal.returns-then-is_some-clause-last
returns-then-is_some-clause-last c = last_taken c.args.self.now c.args.piece.now
    (MAX_CERT_BYTES - c.args.self.now.size) c.in_ok-fed.fed.used c.in_ok-fed.fed.part
    (omega arith) c.in_ok-fed.ensures.used c.in_ok-fed.ensures.last

pub returns-clause-fed : goal.returns-clause-fed
returns-clause-fed c = λ text fed. fed_past c.args.self.now _ text c.args.piece.now fed
    c.if-self-gt-MAX_CERT_BYTES.false c.if-piece-room.false refl

pub returns-clause-parts : goal.returns-clause-parts
returns-clause-parts c = λ text fed. parts_past c.args.self.now text c.args.piece.now [] fed
    c.if-self-gt-MAX_CERT_BYTES.false c.if-piece-room.false
    (none_given text c.args.piece.now (parts_told text)
    (MAX_CERT_BYTES - c.args.self.now.size) c.in_ok-fed.fed.used c.in_ok-fed.fed.part
    (sym c.if-is_some.ensures) c.in_ok-fed.ensures.all (c.in_ok-fed.ensures.parts text fed))
