use Rattle.std.proofs.Common.{◌∙◌, sym, eqb-true}
use Rattle.pg_judge.proofs.Steps.{been-fed, fed-all, fed-more, part-given}
use Rattle.pg_judge.proofs.feeding.feed_piece.Goals as goal

pub take-requires : goal.take-requires
take-requires c = part-given c.loop-rest.reader c.loop-rest.told _ c.in_ok-fed.fed.part
    (been-fed c.args.reader.now c.args.told.now c.loop-rest.reader c.loop-rest.told c.args.piece.now
    c.loop-rest.rest.now c.requires c.loop-rest.invariant.fed) c.in_ok-fed.ensures.parts

pub loop-rest-preserved : goal.loop-rest-preserved
loop-rest-preserved c = record {
  game = c.take.ensures.game ∙ c.loop-rest.invariant.game;
  fed = fed-more c.args.reader.now c.args.told.now c.loop-rest.reader c.loop-rest.told
      c.feed.new.self c.take.new.self c.args.piece.now c.loop-rest.rest.now c.in_ok-fed.fed.used
      c.in_ok-fed.fed.part c.in_ok-fed.ensures.used c.loop-rest.invariant.fed
      c.in_ok-fed.ensures.fed c.in_ok-fed.ensures.parts c.in_ok-take.ensures.told;
}

pub returns-clause-fed : goal.returns-clause-fed
returns-clause-fed c = fed-all c.args.reader.now c.args.told.now c.loop-rest.reader c.loop-rest.told
    c.args.piece.now c.loop-rest.rest.now c.loop-rest.invariant.fed
    (eqb-true _ 0 (sym c.is_empty.ensures ∙ c.loop-rest-test.false))
