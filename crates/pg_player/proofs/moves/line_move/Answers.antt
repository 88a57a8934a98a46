use Rattle.std.proofs.Common.{ℕ, List, drop, get_or, slice_get, ap, sym, subst}
use Rattle.pg_player.proofs.Common.{Standing, Threat}
use Rattle.pg_player.specs.InPlay.{KeepsUp}
use Rattle.pg_player.specs.Stand.{body_at, threat_of, standing_of}
use Rattle.pg_player.specs.declared.moves.Made.{Made}
use Rattle.pg_player.proofs.Going.{small}
use Rattle.pg_player.proofs.Keeping.{keeps-line}
use Rattle.pg_player.proofs.moves.line_move.Goals as goal

pub stay-requires : goal.stay-requires
stay-requires c =
    let kept = keeps-line c.args.g.now c.args.claim.now c.args.p.now
    (threat_of (body_at (slice_get c.args.claim.now.nodes c.args.number))) c.args.from
    (get_or c.threat_at.result.now c.args.from 0) c.args.last
    (ap (λ (xs : List ℕ). get_or xs c.args.from 0) c.threat_at.ensures) c.requires.playing
    c.requires.going c.requires.turn in
    small c.args.g.now (get_or c.threat_at.result.now c.args.from 0) kept.within

pub returns : goal.returns
returns c =
    let kept = keeps-line c.args.g.now c.args.claim.now c.args.p.now
    (threat_of (body_at (slice_get c.args.claim.now.nodes c.args.number))) c.args.from
    (get_or c.threat_at.result.now c.args.from 0) c.args.last
    (ap (λ (xs : List ℕ). get_or xs c.args.from 0) c.threat_at.ensures) c.requires.playing
    c.requires.going c.requires.turn in
    let here : Standing = record {
      body = Threat
          (drop c.args.from (threat_of (body_at (slice_get c.args.claim.now.nodes c.args.number))));
      last = c.args.last;
      imagined = c.args.p.now;
    } in
    subst
    (λ (m : Made). KeepsUp c.args.g.now c.args.claim.now here m.point
    (standing_of c.args.claim.now.nodes m.stand)) (sym c.stay.ensures) kept
