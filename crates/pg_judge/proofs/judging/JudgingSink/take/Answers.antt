use Rattle.std.proofs.Common.{◌++◌}
use Rattle.std.proofs.lemmas.Result.{IfOk-weaker}
use Rattle.pg_judge.specs.Judged.{IsReady}
use Rattle.pg_judge.specs.declared.judging.Judging.{Judging}
use Rattle.pg_judge.proofs.Steps.{come-more, fed-short, ready-more, stands-more}
use Rattle.pg_judge.proofs.judging.JudgingSink.take.Goals as goal

pub feed_piece-requires : goal.feed_piece-requires
feed_piece-requires c = fed-short c.args.self.now c.requires

pub shorten-requires : goal.shorten-requires
shorten-requires c =
    let been = fed-short c.args.self.now c.requires in
    record {
      text = been.text ++ c.args.piece.now;
      fed = (c.in_ok-feed_piece.ensures.fed been.text been.fed).read;
    }

pub returns-clause-ready : goal.returns-clause-ready
returns-clause-ready c =
    let after : Judging = record {
      reader = c.shorten.new.self;
      told = c.feed_piece.new.told;
      size = c.size_with-self.result;
    } in
    IfOk-weaker c.shorten.result _ (λ _. IsReady after)
    (λ u cut. ready-more c.args.self.now after c.args.piece.now c.requires
    (stands-more c.args.self.now c.feed_piece.new.reader c.shorten.new.self c.feed_piece.new.told
    c.size_with-self.result c.args.piece.now (λ text bytes is count.
    c.size_with-self.ensures text bytes is count) c.in_ok-feed_piece.ensures.fed cut))
    c.shorten.ensures

pub returns-clause-took : goal.returns-clause-took
returns-clause-took c =
    let after : Judging = record {
      reader = c.shorten.new.self;
      told = c.feed_piece.new.told;
      size = c.size_with-self.result;
    } in
    IfOk-weaker _ _ _
    (λ u cut. come-more c.args.self.now after c.args.piece.now c.feed_piece.ensures.game
    (stands-more c.args.self.now c.feed_piece.new.reader c.shorten.new.self c.feed_piece.new.told
    c.size_with-self.result c.args.piece.now (λ text bytes is count.
    c.size_with-self.ensures text bytes is count) c.in_ok-feed_piece.ensures.fed cut))
    c.shorten.ensures
