use Rattle.std.proofs.Common.{◌≡◌, ◌<◌, ◌++◌, ◌∷◌, [], arith, length, Some, None}
use Rattle.pg_cert_files.proofs.Common.{nat_tests, nil_from_length}
use Rattle.pg_cert_files.specs.CertFile.{fault_of}
use Rattle.pg_cert_files.proofs.Stands.{end_bad, end_whole, end_unfinished, is_bad}
use Rattle.pg_cert_files.proofs.reader.LineReader.end.Goals as goal

pub returns-in-Some : goal.returns-in-Some
returns-in-Some c = λ text stands. rw c.at_line.ensures
    (is_bad (fault_of text) c.in-Some.fault c.in-Some.line
    (end_bad c.args.self text (c.in-Some.fault, c.in-Some.line) stands c.in-Some.is))

pub returns-in-Some-outcome : goal.returns-in-Some-outcome
returns-in-Some-outcome c = λ text stands.
    let empty : length c.args.self.pending.items ≡ 0 =
    grind (arith, nat_tests, c.args.self.pending.ok.0) in
    rw c.at_line-in-Some-outcome.ensures
    (is_bad (fault_of text) c.in-Some-outcome.fault c.in-Some-outcome.line
    (end_whole c.args.self text
    (Some (c.in-Some-outcome.fault, c.in-Some-outcome.line)) stands c.in_default.is
    (nil_from_length c.args.self.pending.items empty) (c.in-Some-outcome.ensures text stands)).0)

pub returns-then-is_empty : goal.returns-then-is_empty
returns-then-is_empty c = λ text stands.
    let empty : length c.args.self.pending.items ≡ 0 =
    grind (arith, nat_tests, c.args.self.pending.ok.0) in
    end_whole c.args.self text None stands c.in_default.is
    (nil_from_length c.args.self.pending.items empty) (c.in_default-outcome.ensures text stands)

pub returns-in-Some-outcome-2 : goal.returns-in-Some-outcome-2
returns-in-Some-outcome-2 c = λ text stands.
    let some : 0 < length c.args.self.pending.items =
    grind (arith, nat_tests, c.args.self.pending.ok.0) in
    let fed = c.in_ok-part.ensures.stands text stands in
    rw c.at_line-in-Some-outcome-2.ensures
    (is_bad (fault_of text) c.in-Some-outcome-2.fault c.in-Some-outcome-2.line
    (end_unfinished c.args.self text (Some (c.in-Some-outcome-2.fault, c.in-Some-outcome-2.line))
    c.in_ok-part.part stands c.in_default.is some
    (c.in-Some-outcome-2.ensures (text ++ 10 ∷ []) fed.0) fed.1).0)

pub returns : goal.returns
returns c = λ text stands.
    let some : 0 < length c.args.self.pending.items =
    grind (arith, nat_tests, c.args.self.pending.ok.0) in
    let fed = c.in_ok-part.ensures.stands text stands in
    end_unfinished c.args.self text None c.in_ok-part.part stands c.in_default.is some
    (c.in-None.ensures (text ++ 10 ∷ []) fed.0) fed.1
