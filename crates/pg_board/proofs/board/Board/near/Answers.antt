use Rattle.std.proofs.Common.{true, ltb, length, Some, arith, ap, ◌∙◌, sym, subst, inl, inr}
use Rattle.std.specs.Prelude.{slice_get, nat_lt}
use Rattle.pg_board.proofs.Common.{cases_eq, ltb-false, false≢true, find, other, first_of_all}
use Rattle.pg_board.proofs.Common.{lines_of}
use Rattle.pg_board.specs.Board.{live_lines}
use Rattle.pg_board.specs.Near.{WalksNear, place_of}
use Rattle.pg_board.proofs.Walks.{walked, beyond, live-below}
use Rattle.pg_board.proofs.board.Board.near.Goals as goal

pub loop-next-init : goal.loop-next-init
loop-next-init c =
    let g = c.args.self.now.game in
    let p = c.args.self.now.stand.position in
    walked g p c.args.side (λ _. true) c.first_live-next.result c.first_live-next.ensures.disjoint
    (c.first_live-next.ensures.line
    ∙ (ap (λ e. slice_get (live_lines g p e) 0) c.other-enemy.ensures
    ∙ first_of_all (live_lines g p (other c.args.side))))
    (λ j u low early. absurd (false≢true (sym early)))

pub last_point-requires-clause-range : goal.last_point-requires-clause-range
last_point-requires-clause-range c =
    let at : WalksNear c.args.self.now.game c.args.self.now.stand.position c.args.side
    (Some c.in-Some.line) =
    subst (λ o. WalksNear c.args.self.now.game c.args.self.now.stand.position c.args.side o)
    c.in-Some.is c.loop-next.invariant in
    live-below c.args.self.now.game c.args.self.now.stand.position
    (other c.args.side) c.in-Some.line at.live

pub loop-next-preserved : goal.loop-next-preserved
loop-next-preserved c =
    let g = c.args.self.now.game in
    let p = c.args.self.now.stand.position in
    let at : WalksNear g p c.args.side (Some c.in-Some.line) =
    subst (λ o. WalksNear g p c.args.side o) c.in-Some.is c.loop-next.invariant in
    walked g p c.args.side (ltb c.in-Some.line) c.next_live-next.result at.disjoint
    (c.next_live-next.ensures
    ∙ ap (λ e. find (nat_lt c.in-Some.line) (live_lines g p e)) c.other-enemy.ensures)
    (λ j u low early. elim (cases_eq j c.in-Some.line) [
      | inl e ↦ rw e (c.in_default-last_point.ensures.none u)
      | inr ne ↦ (let under = ltb-false c.in-Some.line j early in at.none j u (omega arith))
    ])

pub loop-next-smaller : goal.loop-next-smaller
loop-next-smaller c =
    let g = c.args.self.now.game in
    let p = c.args.self.now.stand.position in
    let at : WalksNear g p c.args.side (Some c.in-Some.line) =
    subst (λ o. WalksNear g p c.args.side o) c.in-Some.is c.loop-next.invariant in
    let low = live-below g p (other c.args.side) c.in-Some.line at.live in
    let more = beyond g p c.other-enemy.result c.in-Some.line c.next_live-next.result
    c.next_live-next.ensures low in
    let here = ap (place_of (length (lines_of g))) c.in-Some.is in
    omega arith
