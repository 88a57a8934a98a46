use Rattle.std.proofs.Common.{◌≡◌, ℕ, ◌↔◌, Bool, true, length, refl, IsTrue}
use Rattle.pg_gf2.proofs.Common.{both_ways, IfOk-weaker, contains, Y, plus, IsSpanBridge}
use Rattle.pg_gf2.proofs.Common.{of_outside}
use Rattle.pg_gf2.specs.Vectors.{vector_spans}
use Rattle.pg_gf2.specs.Classes.{with_target, at_turn, CutsAt}
use Rattle.pg_gf2.proofs.ConditionLemmas.{cuts_from, cuts_first, cuts_second, parted, parted_left}
use Rattle.pg_gf2.proofs.ConditionLemmas.{parted_below, first_left, first_below}
use Rattle.pg_gf2.proofs.VectorConditions.{within_list, within_sets, with_e_is, parted_is, left_is}
use Rattle.pg_gf2.proofs.VectorConditions.{PartsWithout-told, PartsWithout-owed}
use Rattle.pg_gf2.proofs.condition.are_cuts.Goals as goal

pub are_bridges-requires-clause-bridges : goal.are_bridges-requires-clause-bridges
are_bridges-requires-clause-bridges c =
    let g = c.args.g.now in
    let turn = c.args.turn in
    let vs = c.args.vectors.now in
    let d1 = c.args.first.now in
    let d2 = c.args.second.now in
    let e = c.number_of_e-e.result in
    let is_e = c.number_of_e-e.ensures.number in
    let spans = vector_spans (with_target g) in
    let n = length g.vectors in
    let p = at_turn g turn in
    let apart = c.are_apart.ensures.0 c.if-not-are_apart.false in
    let bridges = parted_is g turn vs c.requires e is_e d1 d2 c.with_point.result
    c.without-parted.result c.with_point.ensures
    (of_outside c.with_point.result d1 c.without-parted.result
    c.without-parted.ensures.difference) in
    within_list g turn vs c.requires e is_e c.without-parted.result (parted spans n p d1 d2) bridges
    (parted_below spans n p g.fits.y_range d1 d2 apart.1)

pub are_bridges-requires-clause-within : goal.are_bridges-requires-clause-within
are_bridges-requires-clause-within c =
    let g = c.args.g.now in
    let turn = c.args.turn in
    let vs = c.args.vectors.now in
    let d1 = c.args.first.now in
    let d2 = c.args.second.now in
    let e = c.number_of_e-e.result in
    let is_e = c.number_of_e-e.ensures.number in
    let spans = vector_spans (with_target g) in
    let n = length g.vectors in
    let p = at_turn g turn in
    let apart = c.are_apart.ensures.0 c.if-not-are_apart.false in
    let bridges = parted_is g turn vs c.requires e is_e d1 d2 c.with_point.result
    c.without-parted.result c.with_point.ensures
    (of_outside c.with_point.result d1 c.without-parted.result
    c.without-parted.ensures.difference) in
    let left = left_is g turn vs c.requires e is_e c.kept-left.result c.without.result d1
    (c.kept-left.ensures turn)
    (of_outside c.kept-left.result d1 c.without.result c.without.ensures.difference) in
    within_sets g turn vs c.requires e is_e c.without-parted.result c.without.result _ _ bridges
    left (parted_left spans n p g.fits.y_range d1 d2 apart.1)

pub returns-then-not-branch : goal.returns-then-not-branch
returns-then-not-branch c =
    let g = c.args.g.now in
    let turn = c.args.turn in
    let vs = c.args.vectors.now in
    let d1 = c.args.first.now in
    let d2 = c.args.second.now in
    let e = c.number_of_e-e.result in
    let is_e = c.number_of_e-e.ensures.number in
    let spans = vector_spans (with_target g) in
    let n = length g.vectors in
    let p = at_turn g turn in
    let bridges = parted_is g turn vs c.requires e is_e d1 d2 c.with_point.result
    c.without-parted.result c.with_point.ensures
    (of_outside c.with_point.result d1 c.without-parted.result
    c.without-parted.ensures.difference) in
    let left = left_is g turn vs c.requires e is_e c.kept-left.result c.without.result d1
    (c.kept-left.ensures turn)
    (of_outside c.kept-left.result d1 c.without.result c.without.ensures.difference) in (
      λ t. absurd (both_ways _ refl t),
      λ t. absurd
          (both_ways _ c.if-not-branch.true
          (c.in_ok-are_bridges.ensures.1 (PartsWithout-owed g turn vs c.requires e is_e d1
          c.without.result c.without-parted.result _ left bridges (cuts_first spans n p d1 d2 t)))),
    )

pub are_bridges-requires-2-clause-bridges : goal.are_bridges-requires-2-clause-bridges
are_bridges-requires-2-clause-bridges c =
    let g = c.args.g.now in
    let turn = c.args.turn in
    let vs = c.args.vectors.now in
    let d1 = c.args.first.now in
    let e = c.number_of_e-e.result in
    let is_e = c.number_of_e-e.ensures.number in
    let spans = vector_spans (with_target g) in
    let n = length g.vectors in
    let p = at_turn g turn in
    let apart = c.are_apart.ensures.0 c.if-not-are_apart.false in
    let others =
    with_e_is g turn vs c.requires e is_e d1 c.with_point-2.result c.with_point-2.ensures in
    within_list g turn vs c.requires e is_e c.with_point-2.result _ others
    (first_below spans n p Y d1 apart.0)

pub are_bridges-requires-2-clause-within : goal.are_bridges-requires-2-clause-within
are_bridges-requires-2-clause-within c =
    let g = c.args.g.now in
    let turn = c.args.turn in
    let vs = c.args.vectors.now in
    let d1 = c.args.first.now in
    let d2 = c.args.second.now in
    let e = c.number_of_e-e.result in
    let is_e = c.number_of_e-e.ensures.number in
    let spans = vector_spans (with_target g) in
    let n = length g.vectors in
    let p = at_turn g turn in
    let apart = c.are_apart.ensures.0 c.if-not-are_apart.false in
    let others =
    with_e_is g turn vs c.requires e is_e d1 c.with_point-2.result c.with_point-2.ensures in
    let rest = left_is g turn vs c.requires e is_e c.kept-left.result c.without-2.result d2
    (c.kept-left.ensures turn)
    (of_outside c.kept-left.result d2 c.without-2.result c.without-2.ensures.difference) in
    within_sets g turn vs c.requires e is_e c.with_point-2.result c.without-2.result _ _ others rest
    (first_left spans n p g.fits.y_range d1 d2 apart.0 apart.1 apart.2)

pub returns : goal.returns
returns c =
    let g = c.args.g.now in
    let turn = c.args.turn in
    let vs = c.args.vectors.now in
    let d1 = c.args.first.now in
    let d2 = c.args.second.now in
    let e = c.number_of_e-e.result in
    let is_e = c.number_of_e-e.ensures.number in
    let spans = vector_spans (with_target g) in
    let n = length g.vectors in
    let p = at_turn g turn in
    let apart = c.are_apart.ensures.0 c.if-not-are_apart.false in
    let bridges = parted_is g turn vs c.requires e is_e d1 d2 c.with_point.result
    c.without-parted.result c.with_point.ensures
    (of_outside c.with_point.result d1 c.without-parted.result
    c.without-parted.ensures.difference) in
    let left = left_is g turn vs c.requires e is_e c.kept-left.result c.without.result d1
    (c.kept-left.ensures turn)
    (of_outside c.kept-left.result d1 c.without.result c.without.ensures.difference) in
    let others =
    with_e_is g turn vs c.requires e is_e d1 c.with_point-2.result c.with_point-2.ensures in
    let rest = left_is g turn vs c.requires e is_e c.kept-left.result c.without-2.result d2
    (c.kept-left.ensures turn)
    (of_outside c.kept-left.result d2 c.without-2.result c.without-2.ensures.difference) in
    let first = PartsWithout-told g turn vs c.requires e is_e d1 c.without.result
    c.without-parted.result _ left bridges (c.in_ok-are_bridges.ensures.0 c.if-not-branch.false) in
    let step : (b : Bool) → (IsTrue b
    ↔ ((f : ℕ) → contains c.with_point-2.result f ≡ true
    → IsSpanBridge (vector_spans vs) (contains c.without-2.result) f))
    → (IsTrue b ↔ CutsAt g turn d1 d2) = λ b told. (
      λ t. cuts_from spans n p d1 d2 apart first
          (PartsWithout-told g turn vs c.requires e is_e d2 c.without-2.result c.with_point-2.result
          (plus (contains d1) n) rest others (told.0 t)),
      λ t. told.1
          (PartsWithout-owed g turn vs c.requires e is_e d2 c.without-2.result c.with_point-2.result
          (plus (contains d1) n) rest others (cuts_second spans n p d1 d2 t)),
    ) in
    IfOk-weaker _ _ _ step c.are_bridges-2.ensures
