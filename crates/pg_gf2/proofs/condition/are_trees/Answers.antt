use Rattle.std.proofs.Common.{◌≡◌, ℕ, ◌↔◌, Bool, true, length, refl, IsTrue}
use Rattle.pg_gf2.proofs.Common.{both_ways, IfOk-weaker, contains, X, of_either}
use Rattle.pg_gf2.specs.Vectors.{vector_spans}
use Rattle.pg_gf2.specs.Classes.{with_target, at_turn, TreesAt}
use Rattle.pg_gf2.proofs.ConditionLemmas.{trees_from, trees_first, trees_second, second_below}
use Rattle.pg_gf2.proofs.ConditionLemmas.{first_below}
use Rattle.pg_gf2.proofs.VectorConditions.{within_list, with_e_is, SpansWith-told, SpansWith-owed}
use Rattle.pg_gf2.proofs.condition.are_trees.Goals as goal

pub spans_all-requires-clause-wanted : goal.spans_all-requires-clause-wanted
spans_all-requires-clause-wanted c =
    let g = c.args.g.now in
    let apart = c.are_apart.ensures.0 c.if-not-are_apart.false in
    let e = c.number_of_e-e.result in
    let is_e = c.number_of_e-e.ensures.number in
    within_list g c.args.turn c.args.vectors.now c.requires e is_e c.with_point.result _
    (with_e_is g c.args.turn c.args.vectors.now c.requires e is_e c.args.second.now
    c.with_point.result c.with_point.ensures)
    (second_below (vector_spans (with_target g)) (length g.vectors)
    (at_turn g c.args.turn) c.args.second.now apart.1)

pub spans_all-requires-2-clause-wanted : goal.spans_all-requires-2-clause-wanted
spans_all-requires-2-clause-wanted c =
    let g = c.args.g.now in
    let apart = c.are_apart.ensures.0 c.if-not-are_apart.false in
    let e = c.number_of_e-e.result in
    let is_e = c.number_of_e-e.ensures.number in
    within_list g c.args.turn c.args.vectors.now c.requires e is_e c.with_point-2.result _
    (with_e_is g c.args.turn c.args.vectors.now c.requires e is_e c.args.first.now
    c.with_point-2.result c.with_point-2.ensures)
    (first_below (vector_spans (with_target g)) (length g.vectors)
    (at_turn g c.args.turn) X c.args.first.now apart.0)

pub returns-then-not-branch : goal.returns-then-not-branch
returns-then-not-branch c =
    let g = c.args.g.now in
    let e = c.number_of_e-e.result in
    let is_e = c.number_of_e-e.ensures.number in
    let all = of_either g.x c.args.first.now c.union.result c.union.ensures.union in (
      λ t. absurd (both_ways _ refl t),
      λ t. absurd
          (both_ways _ c.if-not-branch.true
          (c.in_ok-spans_all.ensures.1
          (SpansWith-owed g c.args.turn c.args.vectors.now c.requires e is_e c.args.first.now
          c.args.second.now c.union.result c.with_point.result all c.with_point.ensures
          (trees_first (vector_spans (with_target g)) (length g.vectors)
          (at_turn g c.args.turn) c.args.first.now c.args.second.now t)))),
    )

pub returns : goal.returns
returns c =
    let g = c.args.g.now in
    let vs = c.args.vectors.now in
    let a1 = c.args.first.now in
    let a2 = c.args.second.now in
    let e = c.number_of_e-e.result in
    let is_e = c.number_of_e-e.ensures.number in
    let spans = vector_spans (with_target g) in
    let n = length g.vectors in
    let p = at_turn g c.args.turn in
    let apart = c.are_apart.ensures.0 c.if-not-are_apart.false in
    let one = of_either g.x a1 c.union.result c.union.ensures.union in
    let two = of_either g.x a2 c.union-2.result c.union-2.ensures.union in
    let first =
    SpansWith-told g c.args.turn vs c.requires e is_e a1 a2 c.union.result c.with_point.result one
    c.with_point.ensures (c.in_ok-spans_all.ensures.0 c.if-not-branch.false) in
    let step : (b : Bool) → (IsTrue b
    ↔ ((f : ℕ) → contains c.with_point-2.result f ≡ true
    → vector_spans vs (contains c.union-2.result) f ≡ true))
    → (IsTrue b ↔ TreesAt g c.args.turn a1 a2) = λ b told. (
      λ t. trees_from spans n p a1 a2 apart first
          (SpansWith-told g c.args.turn vs c.requires e is_e a2 a1 c.union-2.result
          c.with_point-2.result two c.with_point-2.ensures (told.0 t)),
      λ t. told.1
          (SpansWith-owed g c.args.turn vs c.requires e is_e a2 a1 c.union-2.result
          c.with_point-2.result two c.with_point-2.ensures (trees_second spans n p a1 a2 t)),
    ) in
    IfOk-weaker _ _ _ step c.spans_all-2.ensures
