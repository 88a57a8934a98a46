use Rattle.std.proofs.Common.{◌∙◌, List, ap, subst, sym}
use Rattle.pg_moves.proofs.Common.{IsPosition, IsPosition-start, Position, is_over}
use Rattle.pg_moves.proofs.Tried.{none_legal}
use Rattle.pg_moves.specs.Trials.{AreTrials}
use Rattle.pg_moves.specs.declared.trial.Trial.{Trial}
use Rattle.pg_moves.proofs.trying.try_moves.Goals as goal

pub is_over-requires : goal.is_over-requires
is_over-requires g c = subst (IsPosition c.args.game.now) (sym c.start.ensures)
    (IsPosition-start c.args.game.now)

pub try_points-requires-clause-going : goal.try_points-requires-clause-going
try_points-requires-clause-going g c =
    let own = c.args.game.now in
    sym (c.in_ok-over.ensures ∙ ap (λ (p : Position). is_over own p) c.start.ensures)
    ∙ c.if-over.false

pub returns-then-over-clause-trials : goal.returns-then-over-clause-trials
returns-then-over-clause-trials g c =
    let brings = g.S.Finder.brings c.args.finder.now in
    let own = c.args.game.now in
    subst (λ (ts : List Trial). AreTrials brings c.args.budget own ts)
    (sym c.new.ensures.items)
    (none_legal brings c.args.budget own
    (sym (c.in_ok-over.ensures ∙ ap (λ (p : Position). is_over own p) c.start.ensures)
    ∙ c.if-over.true))
