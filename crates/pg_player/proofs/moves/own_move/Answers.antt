use Rattle.std.proofs.Common.{[], false, sym, subst}
use Rattle.pg_player.proofs.Common.{after, Threat}
use Rattle.pg_player.specs.declared.moves.Made.{Made}
use Rattle.pg_player.specs.declared.standing.Rest.{Rest}
use Rattle.pg_player.specs.InPlay.{InPlay, KeepsUp}
use Rattle.pg_player.specs.Stand.{body_of, standing_of}
use Rattle.pg_player.proofs.Going.{small}
use Rattle.pg_player.proofs.Keeping.{trees-turn, cuts-turn, keeps-threat}
use Rattle.pg_player.proofs.moves.own_move.Goals as goal

pub trees_move-requires-clause-turn : goal.trees_move-requires-clause-turn
trees_move-requires-clause-turn c =
    let s = c.args.stand in
    let h = subst (λ (r : Rest). InPlay c.args.g.now c.args.claim.now (record {
      body = body_of c.args.claim.now.nodes r;
      last = s.last;
      imagined = s.imagined;
    })) c.in-Short.is c.requires.playing in
    trees-turn c.args.g.now c.args.claim.now s.imagined false c.in-Short.plan.first
    c.in-Short.plan.second s.last h c.requires.going c.requires.turn

pub cuts_move-requires-clause-turn : goal.cuts_move-requires-clause-turn
cuts_move-requires-clause-turn c =
    let s = c.args.stand in
    let h = subst (λ (r : Rest). InPlay c.args.g.now c.args.claim.now (record {
      body = body_of c.args.claim.now.nodes r;
      last = s.last;
      imagined = s.imagined;
    })) c.in-Cut.is c.requires.playing in
    cuts-turn c.args.g.now c.args.claim.now s.imagined false c.in-Cut.plan.first
    c.in-Cut.plan.second s.last h c.requires.going c.requires.turn

pub stay-requires : goal.stay-requires
stay-requires c =
    let s = c.args.stand in
    let h = subst (λ (r : Rest). InPlay c.args.g.now c.args.claim.now (record {
      body = body_of c.args.claim.now.nodes r;
      last = s.last;
      imagined = s.imagined;
    })) c.in-Last.is c.requires.playing in
    small c.args.g.now c.in-Last.point
    (keeps-threat c.args.g.now c.args.claim.now s.imagined c.in-Last.point [] s.last h
    c.requires.going c.requires.turn).within

pub returns-in-Last-clause-keeps : goal.returns-in-Last-clause-keeps
returns-in-Last-clause-keeps c =
    let g = c.args.g.now in
    let claim = c.args.claim.now in
    let s = c.args.stand in
    let u = c.in-Last.point in
    let h = subst (λ (r : Rest). InPlay g claim (record {
      body = body_of claim.nodes r;
      last = s.last;
      imagined = s.imagined;
    })) c.in-Last.is c.requires.playing in
    let kept = keeps-threat g claim s.imagined u [] s.last h c.requires.going c.requires.turn in
    subst (λ (m : Made).
    KeepsUp g claim (standing_of claim.nodes s) m.point (standing_of claim.nodes m.stand))
    (sym c.stay.ensures) (subst (λ (r : Rest). KeepsUp g claim (record {
      body = body_of claim.nodes r;
      last = s.last;
      imagined = s.imagined;
    }) u (record {
      body = Threat [];
      last = s.last;
      imagined = after g s.imagined u;
    })) (sym c.in-Last.is) kept)
