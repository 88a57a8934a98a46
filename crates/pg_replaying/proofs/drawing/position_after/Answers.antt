use Rattle.std.proofs.Common.{◌≡◌, ◌∙◌, ◌+◌, ◌<◌, ◌++◌, [], ◌∷◌, take, sym, ap, arith}
use Rattle.std.proofs.Common.{slice_index_or}
use Rattle.std.proofs.lemmas.List.{take_more}
use Rattle.pg_game.specs.Game.{after}
use Rattle.pg_game.specs.declared.position.Position.{Position}
use Rattle.pg_game.proofs.Limits.{point_count-le}
use Rattle.pg_record.specs.Replay.{position_after}
use Rattle.pg_record.proofs.Standing.{legal-point, played-more}
use Rattle.pg_replaying.proofs.Common.{point_count, start}
use Rattle.pg_replaying.proofs.drawing.position_after.Goals as goal

pub after-position-requires : goal.after-position-requires
after-position-requires c =
    let low : slice_index_or c.args.moves.now c.loop-v.v-index 0 < point_count c.args.game.now =
    legal-point c.args.game.now
    (start c.args.game.now) c.args.moves.now c.loop-v.v-index c.requires c.loop-v-test.true in
    omega (arith, low, point_count-le c.args.game.now)

pub loop-v-preserved : goal.loop-v-preserved
loop-v-preserved c =
    let v = slice_index_or c.args.moves.now c.loop-v.v-index 0 in
    let more : take (c.loop-v.v-index + 1) c.args.moves.now
    ≡ take c.loop-v.v-index c.args.moves.now ++ v ∷ [] =
    take_more c.args.moves.now c.loop-v.v-index 0 c.loop-v-test.true in
    c.after-position.ensures
    ∙ (ap (λ (p : Position). after c.args.game.now p v) c.loop-v.invariant
    ∙ (sym
    (played-more c.args.game.now (start c.args.game.now)
    (take c.loop-v.v-index c.args.moves.now) v)
    ∙ sym (ap (position_after c.args.game.now) more)))
