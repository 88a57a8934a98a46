use Rattle.std.proofs.Common.{◌∷◌, length, arith, ap, Some, None}
use Rattle.std.proofs.lemmas.List.{length-append}
use Rattle.pg_cert_files.proofs.Stands.{feeds, gives, gives_none, not_before}
use Rattle.pg_cert_files.proofs.reader.LineReader.feed.Goals as goal

pub returns-in-Some-2-clause-stands : goal.returns-in-Some-2-clause-stands
returns-in-Some-2-clause-stands c =
    let stands = rw c.in-Some-2.is at c.in_ok-part.ensures.stands in
    gives c.args.self.now c.end_line.new.self c.args.piece.now c.in-Some.behind.now
    (Some c.in-Some-2.part)
    (feeds c.args.self.now c.loop-line.self c.end_line.new.self c.args.piece.now
    c.loop-line.rest.now c.in-Some.line.now c.in-Some.behind.now
    (Some c.in-Some-2.part) c.loop-line.invariant.fed c.in-Some.ensures.found.0 stands)

pub loop-line-preserved : goal.loop-line-preserved
loop-line-preserved c =
    let stands = rw c.in_default-2.is at c.in_ok-part.ensures.stands in
    record {
      fed = gives_none c.args.self.now c.end_line.new.self c.args.piece.now c.in-Some.behind.now
          (feeds c.args.self.now c.loop-line.self c.end_line.new.self c.args.piece.now
          c.loop-line.rest.now c.in-Some.line.now c.in-Some.behind.now None
          c.loop-line.invariant.fed c.in-Some.ensures.found.0 stands);
      room = omega (
        arith,
        c.end_line.ensures.count,
        ap length c.in-Some.ensures.found.0,
        length-append c.in-Some.line.now (10 ∷ c.in-Some.behind.now),
      );
    }

pub returns-in-Some-2-clause-last : goal.returns-in-Some-2-clause-last
returns-in-Some-2-clause-last c = (
  omega (
    arith,
    ap length c.loop-line.invariant.fed.1,
    length-append c.loop-line.invariant.fed.0 c.loop-line.rest.now,
    ap length c.in-Some.ensures.found.0,
    length-append c.in-Some.line.now (10 ∷ c.in-Some.behind.now),
  ),
  not_before c.args.self.now c.loop-line.self c.args.piece.now c.loop-line.rest.now
      c.in-Some.line.now c.in-Some.behind.now c.loop-line.invariant.fed
      c.in-Some.ensures.found.0 c.in-Some.ensures.found.1,
)
