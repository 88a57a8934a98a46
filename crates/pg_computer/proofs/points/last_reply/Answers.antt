use Rattle.std.proofs.Common.{◌≡◌, ◌<◌, ◌∙◌, ◌+◌, ℕ, Option, ap, arith, length, not, subst, sym}
use Rattle.std.proofs.Common.{take}
use Rattle.pg_computer.proofs.Common.{Position, after, is_same_side, legal-point, legal-standing}
use Rattle.pg_computer.proofs.Common.{point_count-le, position_after, standing, start}
use Rattle.pg_computer.specs.Points.{IsLastBelow}
use Rattle.pg_computer.proofs.Standing.{last_reply_is, last_stays, position_more}
use Rattle.pg_computer.proofs.points.last_reply.Goals as goal
use Rattle.pg_computer.proofs.points.last_reply.Goals.{then-not-is_side, else-not-is_side}

pub after-position-requires : goal.after-position-requires
after-position-requires c =
    let session = c.args.session.now in
    let low : c.loop-i.i < length (standing session.events) =
    omega (arith, c.loop-i-test.true, c.standing-i-end.ensures) in
    omega (
      arith,
      c.move_at.ensures,
      point_count-le session.game,
      legal-point session.game (start session.game) (standing session.events) c.loop-i.i
          (legal-standing session.game session.events c.requires.points.allowed) low,
    )

pub loop-i-preserved : goal.loop-i-preserved
loop-i-preserved c =
    let session = c.args.session.now in
    let side = c.args.side in
    let n = c.loop-i.i in
    let was = c.loop-i.invariant in
    let low : c.loop-i.i < length (standing session.events) =
    omega (arith, c.loop-i-test.true, c.standing-i-end.ensures) in
    let reply : not (is_same_side
    (position_after session.game (take n (standing session.events))).turn side)
    ≡ not c.is_side.result =
    ap not (ap (λ (p : Position). is_same_side p.turn side) (sym was.place)
    ∙ sym c.is_side.ensures) in
    let place = c.after-position.ensures
    ∙ (λ i. after (c.requires.game i) (was.place i) (c.move_at.ensures i))
    ∙ sym (position_more session.game (standing session.events) n low) in
    elim c.if-not-is_side.branch [
      | then-not-is_side w ↦ record {
        last = subst (λ (l : Option ℕ). IsLastBelow side session.game session.events (n + 1) l)
            (sym w.last-is) (last_reply_is side session.game session.events n
            (reply ∙ ap not w.if-not-is_side.true));
        place = place;
      }
      | else-not-is_side w ↦ record {
        last = subst (λ (l : Option ℕ). IsLastBelow side session.game session.events (n + 1) l)
            (sym w.last-is) (last_stays side session.game session.events n c.loop-i.last
            (reply ∙ ap not w.if-not-is_side.false) was.last);
        place = place;
      }
    ]
