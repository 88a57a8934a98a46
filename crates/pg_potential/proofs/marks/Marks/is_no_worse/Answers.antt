use Rattle.std.proofs.Common.{◌∙◌, ◌<◌, length, sym, subst, arith}
use Rattle.pg_potential.proofs.Common.{false≢true, Position}
use Rattle.pg_potential.specs.Marks.{position_at, KeepsPoints}
use Rattle.pg_potential.proofs.FlatMarks.{kept-past, kept-get, kept-is, at-parts}
use Rattle.pg_potential.proofs.marks.Marks.is_no_worse.Goals as goal

pub returns-then-k-len : goal.returns-then-k-len
returns-then-k-len c = (
  λ f. absurd (false≢true f),
  λ h. absurd (kept-past c.args.self.now c.args.k h.position (omega (
    arith,
    c.if-k-len.true,
    c.len.ensures,
  )) h.at),
)

pub returns-then-not-has_turn : goal.returns-then-not-has_turn
returns-then-not-has_turn c =
    let m = c.args.self.now in
    let lt : c.args.k < length m.turns.items = omega (arith, c.if-k-len.false, c.len.ensures) in (
      λ f. absurd (false≢true f),
      λ h. let is = at-parts m c.args.k h.position lt h.at in
          absurd (false≢true (sym c.if-not-has_turn.true
          ∙ c.has_turn.ensures.1 (record {
            side = is.side ∙ sym h.no_worse.turn;
            left = is.left ∙ sym h.no_worse.left;
          }))),
    )

pub returns : goal.returns
returns c =
    let m = c.args.self.now in
    let lt : c.args.k < length m.turns.items = omega (arith, c.if-k-len.false, c.len.ensures) in
    let turn = c.has_turn.ensures.0 c.if-not-has_turn.false in (
      λ on. let points = c.keeps_points.ensures.0 on in record {
        position = position_at m.words.items m.width m.turns.items c.args.k;
        at = kept-get m c.args.k lt;
        no_worse = record {
          own = points.own;
          theirs = points.theirs;
          turn = sym turn.side;
          left = sym turn.left;
        };
      },
      λ h. c.keeps_points.ensures.1
          (subst (λ (q : Position). KeepsPoints c.args.side q c.args.p.now)
          (sym (kept-is m c.args.k h.position lt h.at)) (record {
            own = h.no_worse.own;
            theirs = h.no_worse.theirs;
          })),
    )
