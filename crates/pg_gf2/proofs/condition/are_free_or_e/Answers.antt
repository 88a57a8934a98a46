use Rattle.std.proofs.Common.{◌≡◌, length, sym, ap, ◌∙◌}
use Rattle.pg_gf2.proofs.Common.{both_ways, false_from_ne_true, not-true, not_from_false, contains}
use Rattle.pg_gf2.proofs.Common.{minus, without_point}
use Rattle.pg_gf2.specs.Classes.{at_turn}
use Rattle.pg_gf2.proofs.ConditionLemmas.{free_mine, free_none, free_rest, turn_of}
use Rattle.pg_gf2.proofs.condition.are_free_or_e.Goals as goal

pub returns-then-moves : goal.returns-then-moves
returns-then-moves c =
    let g = c.args.g.now in
    let n = length g.vectors in
    let taken = without_point c.args.set.now c.take.new.self c.number_of_e-e.result c.take.ensures
    ∙ ap (minus (contains c.args.set.now)) c.number_of_e-e.ensures.number in (
      λ t. free_mine n (at_turn g c.args.turn) c.args.side c.args.set.now c.take.new.self taken
          ((c.are_free.ensures c.args.turn).0 c.if-are_free.true) (c.moves.ensures.0 t),
      λ f. c.if-moves.true,
    )

pub returns-else-moves : goal.returns-else-moves
returns-else-moves c =
    let g = c.args.g.now in
    let n = length g.vectors in
    let taken = without_point c.args.set.now c.take.new.self c.number_of_e-e.result c.take.ensures
    ∙ ap (minus (contains c.args.set.now)) c.number_of_e-e.ensures.number in
    let has : c.has.result ≡ contains c.args.set.now n =
    c.has.ensures ∙ ap (contains c.args.set.now) c.number_of_e-e.ensures.number in (
      λ t. free_none n (at_turn g c.args.turn) c.args.side c.args.set.now c.take.new.self taken
          ((c.are_free.ensures c.args.turn).0 c.if-are_free.true) (sym has ∙ not-true _ t),
      λ f. not_from_false _ (has
          ∙ false_from_ne_true _ (λ h. both_ways _ c.if-moves.false (c.moves.ensures.1 (turn_of n
          (at_turn g c.args.turn) c.args.side c.args.set.now c.take.new.self taken f h)))),
    )

pub returns-else-are_free : goal.returns-else-are_free
returns-else-are_free c =
    let g = c.args.g.now in
    let n = length g.vectors in
    let taken = without_point c.args.set.now c.take.new.self c.number_of_e-e.result c.take.ensures
    ∙ ap (minus (contains c.args.set.now)) c.number_of_e-e.ensures.number in (
      λ t. absurd (both_ways _ c.if-are_free.false t),
      λ f. absurd
          (both_ways _ c.if-are_free.false
          ((c.are_free.ensures c.args.turn).1 (free_rest n
          (at_turn g c.args.turn) c.args.side c.args.set.now c.take.new.self taken f))),
    )
