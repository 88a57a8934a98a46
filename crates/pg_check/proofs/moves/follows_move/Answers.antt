use Rattle.std.proofs.Common.{◌≡◌, ◌∙◌, ◌<◌, ℕ, true, sym, subst}
use Rattle.pg_check.proofs.Common.{is_free, point_count}
use Rattle.pg_check.proofs.Common.{IsPosition-after}
use Rattle.pg_potential.proofs.FlatMarks.{fits-row}
use Rattle.pg_check.proofs.moves.follows_move.Goals as goal

pub returns : goal.returns
returns c =
    let range : c.args.point < point_count c.args.g.now =
    subst (λ (n : ℕ). c.args.point < n) c.points.ensures.count c.if-point-points.false in
    let free : is_free c.args.p.now c.args.point ≡ true =
    sym c.is_free.ensures ∙ c.if-not-is_free.false in (
      λ on. record { leads = λ _ _. c.is_node_after.ensures.0 on },
      λ h. c.is_node_after.ensures.1 (h.leads range free),
    )

pub is_node_after-requires-clause-flat : goal.is_node_after-requires-clause-flat
is_node_after-requires-clause-flat c = c.requires.made.flat

pub is_node_after-requires-clause-x : goal.is_node_after-requires-clause-x
is_node_after-requires-clause-x c =
    let range : c.args.point < point_count c.args.g.now =
    subst (λ (n : ℕ). c.args.point < n) c.points.ensures.count c.if-point-points.false in
    let free : is_free c.args.p.now c.args.point ≡ true =
    sym c.is_free.ensures ∙ c.if-not-is_free.false in
    let next =
    IsPosition-after c.args.g.now c.args.p.now c.args.point c.requires.position range free in
    fits-row c.args.g.now c.args.marks.now _ c.requires.made next.x_range

pub is_node_after-requires-clause-y : goal.is_node_after-requires-clause-y
is_node_after-requires-clause-y c =
    let range : c.args.point < point_count c.args.g.now =
    subst (λ (n : ℕ). c.args.point < n) c.points.ensures.count c.if-point-points.false in
    let free : is_free c.args.p.now c.args.point ≡ true =
    sym c.is_free.ensures ∙ c.if-not-is_free.false in
    let next =
    IsPosition-after c.args.g.now c.args.p.now c.args.point c.requires.position range free in
    fits-row c.args.g.now c.args.marks.now _ c.requires.made next.y_range
