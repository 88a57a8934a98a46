use Rattle.std.proofs.Common.{false, sym, subst, ◌∙◌}
use Rattle.pg_cert.specs.declared.node.Body.TheVariants.{Trees}
use Rattle.pg_player.specs.InPlay.{KeepsUp}
use Rattle.pg_player.specs.Stand.{standing_of}
use Rattle.pg_player.specs.declared.moves.Made.{Made}
use Rattle.pg_player.proofs.Going.{small}
use Rattle.pg_player.proofs.Keeping.{trees_kind, keeps-trees}
use Rattle.pg_player.proofs.moves.trees_move.Goals as goal

pub stay-requires : goal.stay-requires
stay-requires c = small c.args.g.now c.answer-point.result c.answer-point.ensures.leaves.within

pub returns-clause-keeps : goal.returns-clause-keeps
returns-clause-keeps c = λ claim h.
    let e = c.answer-point.ensures in
    let mine =
    c.requires.turn.turn ∙ sym (trees_kind c.args.g.now.kind claim.side h.stands.allowed).1 in
    subst (λ (m : Made). KeepsUp c.args.g.now claim (record {
      body = Trees false c.args.plan.first c.args.plan.second;
      last = c.args.last;
      imagined = c.args.p.now;
    }) m.point (standing_of claim.nodes m.stand)) (sym c.stay.ensures)
    (keeps-trees c.args.g.now claim c.args.p.now c.args.plan.first c.args.plan.second c.args.last
    c.answer-point.result c.answer-point.new.self.first c.answer-point.new.self.second h
    c.requires.turn.going mine e.rule e.leaves)
