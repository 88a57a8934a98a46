use Rattle.std.proofs.Common.{inl, inr}
use Rattle.pg_player.proofs.Common.{member-free, member-within}
use Rattle.pg_player.proofs.Plays.{not-full}
use Rattle.pg_player.proofs.Keeping.{keeps-avoider, keeps-breaker, keeps-draw}
use Rattle.pg_player.proofs.moves.potential_point.Goals as goal

pub answer-requires-clause-some_free : goal.answer-requires-clause-some_free
answer-requires-clause-some_free c = not-full c.args.g.now c.args.p.now c.requires.going

pub answer-requires-in-MakerBreaker-clause-some_free :
    goal.answer-requires-in-MakerBreaker-clause-some_free
answer-requires-in-MakerBreaker-clause-some_free c =
    not-full c.args.g.now c.args.p.now c.requires.going

pub returns-in-AvoiderEnforcer : goal.returns-in-AvoiderEnforcer
returns-in-AvoiderEnforcer c = λ last h.
    let e = c.answer.ensures in
    let v = c.answer.result in
    keeps-avoider c.args.g.now c.args.claim.now c.args.p.now last v c.in-AvoiderEnforcer.is h
    c.requires.going c.requires.turn e.rule (member-within c.args.g.now c.args.p.now v e.free)
    (member-free c.args.g.now c.args.p.now v e.free) e.wins e.keeps

pub returns-in-MakerBreaker : goal.returns-in-MakerBreaker
returns-in-MakerBreaker c = λ last h.
    let e = c.answer-in-MakerBreaker.ensures in
    let v = c.answer-in-MakerBreaker.result in
    let within = member-within c.args.g.now c.args.p.now v e.free in
    let free = member-free c.args.g.now c.args.p.now v e.free in
    elim c.in-MakerBreaker.is [
      | inl breaker ↦ keeps-breaker c.args.g.now c.args.claim.now c.args.p.now last v breaker h
          c.requires.going c.requires.turn e.rule within free e.keeps_breaker
      | inr maker ↦ keeps-draw c.args.g.now c.args.claim.now c.args.p.now last v maker h
          c.requires.going c.requires.turn e.rule within free e.keeps_draw
    ]
