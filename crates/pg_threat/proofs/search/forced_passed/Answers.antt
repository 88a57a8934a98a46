use Rattle.std.proofs.Common.{◌≡◌, ◌∙◌, false, true, sym, ap, subst}
use Rattle.pg_threat.proofs.Common.{Game, Position, Side, View, is_over, may_attack, other, passed}
use Rattle.pg_board.proofs.Passing.{passed-back}
use Rattle.pg_board.specs.Passing.{IsPassed}
use Rattle.pg_threat.specs.Forced.{IsAnswer}
use Rattle.pg_threat.proofs.Boards.{at_same}
use Rattle.pg_threat.proofs.Passing.{passed-going}
use Rattle.pg_threat.proofs.search.forced_passed.Goals as goal

pub forced-found-requires-clause-turn : goal.forced-found-requires-clause-turn
forced-found-requires-clause-turn c = ap (λ (p : Position). p.turn) c.pass.ensures.position
    ∙ sym (c.other-side.ensures ∙ ap other c.turn.ensures)

pub forced-found-requires-clause-going : goal.forced-found-requires-clause-going
forced-found-requires-clause-going c =
    let b = c.args.b.now in
    at_same (λ g p. is_over g p ≡ false) b.game c.pass.new.self.game (passed b.stand.position)
    c.pass.new.self.stand.position c.pass.ensures.game c.pass.ensures.position
    (passed-going b.game b.stand.position c.requires.going)

pub forced-found-requires-clause-single : goal.forced-found-requires-clause-single
forced-found-requires-clause-single c =
    ap (λ (g : Game). g.bias) c.pass.ensures.game ∙ c.requires.single

pub forced-found-requires-clause-may : goal.forced-found-requires-clause-may
forced-found-requires-clause-may c =
    let b = c.args.b.now in
    subst (λ (g : Game). may_attack g.kind c.other-side.result ≡ true) (sym c.pass.ensures.game)
    (subst (λ (s : Side). may_attack b.game.kind s ≡ true)
    (sym (c.other-side.ensures ∙ ap other c.turn.ensures)) c.requires.may)

pub pass-requires-2 : goal.pass-requires-2
pass-requires-2 c = ap (λ (v : View). v.game.bias) c.forced-found.ensures.kept
    ∙ ap (λ (g : Game). g.bias) c.pass.ensures.game
    ∙ c.requires.single

pub returns-clause-answer : goal.returns-clause-answer
returns-clause-answer c =
    let b = c.args.b.now in
    subst (λ (s : Side). IsAnswer b.game (passed b.stand.position) s c.args.depth
    c.forced-found.result) (c.other-side.ensures ∙ ap other c.turn.ensures)
    (at_same (λ g p. IsAnswer g p c.other-side.result c.args.depth c.forced-found.result)
    c.pass.new.self.game b.game c.pass.new.self.stand.position (passed b.stand.position)
    (sym c.pass.ensures.game) (sym c.pass.ensures.position) c.forced-found.ensures.answer)

pub returns-clause-kept : goal.returns-clause-kept
returns-clause-kept c = passed-back c.args.b.now c.pass.new.self c.pass-2.new.self c.pass.ensures
    (subst (λ (v : View). IsPassed v c.pass-2.new.self) c.forced-found.ensures.kept
    c.pass-2.ensures)
