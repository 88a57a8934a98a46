use Rattle.std.proofs.Common.{refl}
use Rattle.pg_settle.proofs.Headings.{answer_of, answer_shows}
use Rattle.pg_moves.proofs.worth.worth_on_lines.Goals as goal

pub node_count-nodes-requires : goal.node_count-nodes-requires
node_count-nodes-requires g c =
    let shows = answer_shows (g.S.Finder.brings c.args.finder.now) c.args.game.now c.args.budget
    c.in_ok-found.found c.in_ok-found.ensures.answered c.shown_scores_are_values.ensures
    c.in-Certificate.score c.in-Certificate.certificate c.in-Certificate.is in
    shows.limits.nodes

pub returns-in-Certificate-clause-worth : goal.returns-in-Certificate-clause-worth
returns-in-Certificate-clause-worth g c =
    let brings = g.S.Finder.brings c.args.finder.now in
    let here = c.args.game.now in
    let answer = c.in_ok-found.found in
    let is = c.in_ok-found.ensures.answered in (
      c.in-Certificate.certificate,
      answer_shows brings here c.args.budget answer is c.shown_scores_are_values.ensures
          c.in-Certificate.score c.in-Certificate.certificate c.in-Certificate.is,
      c.node_count-nodes.ensures,
      answer_of brings here c.args.budget answer is _ answer.expanded c.in-Certificate.is refl,
    )

pub returns-clause-worth : goal.returns-clause-worth
returns-clause-worth g c = answer_of (g.S.Finder.brings c.args.finder.now) c.args.game.now
    c.args.budget c.in_ok-found.found c.in_ok-found.ensures.answered _ c.in_ok-found.found.expanded
    c.in-Open.is refl
