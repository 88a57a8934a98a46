use Rattle.std.proofs.Common.{◌≡◌, ◌∙◌, ℕ, Some, refl, sym, subst}
use Rattle.pg_player.proofs.Common.{Room, rules_of, start, after, IsMadeForGame, replied}
use Rattle.pg_player.proofs.Common.{replied_by}
use Rattle.pg_player.specs.Player.{Play, Waits, TakesReply}
use Rattle.pg_player.specs.Stand.{body_of, standing_of}
use Rattle.pg_switch.proofs.Seats.{judged-legal, reached-next}
use Rattle.pg_player.proofs.Going.{x_range, x_range-next, small, heard-judged, IsPlaying-next}
use Rattle.pg_player.proofs.player.Player.take_reply.Goals as goal

pub play-requires-clause-range : goal.play-requires-clause-range
play-requires-clause-range c =
    x_range c.self.inside.game.now c.self.inside.position c.self.invariant.reached

pub free_or_lowest-reply-requires : goal.free_or_lowest-reply-requires
free_or_lowest-reply-requires c =
    let a = c.self.inside in
    let legal = judged-legal (rules_of a.game.now) a.position c.args.v c.in_ok-position.position
    (sym c.play.ensures.result ∙ c.in_ok-position.was) in
    small a.game.now c.args.v legal.within

pub over-self-inside-requires-clause-range : goal.over-self-inside-requires-clause-range
over-self-inside-requires-clause-range c =
    let a = c.self.inside in
    let legal = judged-legal (rules_of a.game.now) a.position c.args.v c.in_ok-position.position
    (sym c.play.ensures.result ∙ c.in_ok-position.was) in
    x_range-next a.game.now a.position c.args.v c.in_ok-position.position c.self.invariant.reached
    legal.within legal.free legal.leads

pub replied-self-inside-requires-clause-leads : goal.replied-self-inside-requires-clause-leads
replied-self-inside-requires-clause-leads c =
    let a = c.self.inside in
    (heard-judged a.game.now a.claim.now a.position (standing_of a.claim.now.nodes a.stand) c.args.v
    c.free_or_lowest-reply.result c.in_ok-position.position c.self.invariant.on
    (subst (λ (play : Play). Waits play) (sym c.self.view_is) c.requires)
    (sym c.play.ensures.result ∙ c.in_ok-position.was) c.free_or_lowest-reply.ensures).leads

pub replied-self-inside-requires-clause-small : goal.replied-self-inside-requires-clause-small
replied-self-inside-requires-clause-small c =
    let a = c.self.inside in
    small a.game.now c.free_or_lowest-reply.result
    (heard-judged a.game.now a.claim.now a.position (standing_of a.claim.now.nodes a.stand) c.args.v
    c.free_or_lowest-reply.result c.in_ok-position.position c.self.invariant.on
    (subst (λ (play : Play). Waits play) (sym c.self.view_is) c.requires)
    (sym c.play.ensures.result ∙ c.in_ok-position.was) c.free_or_lowest-reply.ensures).within

pub invariant_of-self-2 : goal.invariant_of-self-2
invariant_of-self-2 c =
    let a = c.self.inside in
    let i = c.self.invariant in
    let legal = judged-legal (rules_of a.game.now) a.position c.args.v c.in_ok-position.position
    (sym c.play.ensures.result ∙ c.in_ok-position.was) in
    let next = standing_of a.claim.now.nodes c.replied-self-inside.result in
    let hears =
    heard-judged a.game.now a.claim.now a.position (standing_of a.claim.now.nodes a.stand) c.args.v
    c.free_or_lowest-reply.result c.in_ok-position.position c.self.invariant.on
    (subst (λ (play : Play). Waits play) (sym c.self.view_is) c.requires)
    (sym c.play.ensures.result ∙ c.in_ok-position.was) c.free_or_lowest-reply.ensures in
    IsPlaying-next a.game.now a.claim.now (after a.game.now a.position c.args.v)
    c.in_ok-position.position next c.over-self-inside.result c.play.new.self
    c.over-self-inside.new.self a.joiner a.joiner (hears.on next c.replied-self-inside.ensures)
    (reached-next (rules_of a.game.now) (start a.game.now) a.position c.args.v i.reached legal.going
    legal.within legal.free) legal.leads c.over-self-inside.ensures.result
    (subst (λ (room : Room). IsMadeForGame room a.game.now) (sym c.play.ensures.kept) i.judged)
    c.over-self-inside.ensures.kept i.joined refl

pub returns-clause-taken : goal.returns-clause-taken
unfolding replied
returns-clause-taken c =
    let a = c.self.inside in
    let next = standing_of a.claim.now.nodes c.replied-self-inside.result in
    subst (λ (play : Play). TakesReply play (record {
      game = a.game.now;
      claim = a.claim.now;
      position = c.in_ok-position.position;
      standing = next;
    }) c.args.v) c.self.view_is (record {
      legal = sym c.play.ensures.result ∙ c.in_ok-position.was;
      replied = subst (λ (w : ℕ). replied_by (body_of a.claim.now.nodes a.stand.rest) a.game.now
          a.claim.now.nodes a.stand.imagined w ≡ Some next) c.free_or_lowest-reply.ensures
          c.replied-self-inside.ensures;
      same_game = refl;
      same_claim = refl;
    })
