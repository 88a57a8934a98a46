use Rattle.std.proofs.Common.{◌∙◌, ◌<◌, length, sym, arith}
use Rattle.std.proofs.lemmas.Bool.{false≢true}
use Rattle.pg_potential.proofs.Common.{after}
use Rattle.pg_potential.proofs.FlatMarks.{kept-past, at-parts, at-from}
use Rattle.pg_potential.proofs.marks.Marks.is_after.Goals as goal

pub returns-then-k-len : goal.returns-then-k-len
returns-then-k-len c = (
  λ f. absurd (false≢true f),
  λ e. absurd
      (kept-past c.args.self.now c.args.k (after c.args.g.now c.args.p.now c.args.v) (omega (
        arith,
        c.if-k-len.true,
        c.len.ensures,
      )) e),
)

pub returns-then-not-has_next_turn : goal.returns-then-not-has_next_turn
returns-then-not-has_next_turn c =
    let m = c.args.self.now in
    let lt : c.args.k < length m.turns.items = omega (arith, c.if-k-len.false, c.len.ensures) in (
      λ f. absurd (false≢true f),
      λ e.
          let is = at-parts m c.args.k (after c.args.g.now c.args.p.now c.args.v) lt e in
          absurd (false≢true (sym c.if-not-has_next_turn.true
          ∙ c.has_next_turn.ensures.1 (record { side = is.side; left = is.left }))),
    )

pub returns : goal.returns
returns c =
    let m = c.args.self.now in
    let lt : c.args.k < length m.turns.items = omega (arith, c.if-k-len.false, c.len.ensures) in
    let turn = c.has_next_turn.ensures.0 c.if-not-has_next_turn.false in (
      λ on.
          let points = c.has_points_after.ensures.0 on in
          at-from m c.args.k (after c.args.g.now c.args.p.now c.args.v) lt (record {
            x = points.x;
            y = points.y;
            side = turn.side;
            left = turn.left;
          }),
      λ e.
          let is = at-parts m c.args.k (after c.args.g.now c.args.p.now c.args.v) lt e in
          c.has_points_after.ensures.1 (record { x = is.x; y = is.y }),
    )
