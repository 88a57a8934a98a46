use Rattle.std.proofs.Common.{◌≡◌, ℕ, ◌<◌, true, false, length, arith, ap, ◌∙◌, sym, subst}
use Rattle.std.specs.Prelude.{IfSome, IfNone}
use Rattle.pg_game.specs.Threat.{is_near}
use Rattle.pg_board.specs.Shape.{shape_of}
use Rattle.pg_board.specs.Fits.{position_of}
use Rattle.pg_board.proofs.Fitting.{fit-first}
use Rattle.pg_board.specs.Shape.{Shape, line_in}
use Rattle.pg_board.specs.Fits.{held_in}
use Rattle.pg_board.proofs.Lasts.{other-count, last-found, last-none}
use Rattle.pg_board.proofs.board.Board.last_point.Goals as goal

pub line-len-requires : goal.line-len-requires
line-len-requires c =
    let shape : c.self.inside.layout ≡ shape_of c.args.self.now.game =
    c.self.invariant.layout ∙ ap (λ v. shape_of v.game) c.self.view_is in
    subst (λ (s : Shape). c.args.line < length s.lines) (sym shape) c.requires.range

pub returns-then-from-len-clause-none : goal.returns-then-from-len-clause-none
returns-then-from-len-clause-none c =
    let fits = fit-first _ _ _ _ _ _ c.self.invariant.fit in
    let shape : c.self.inside.layout ≡ shape_of c.args.self.now.game =
    c.self.invariant.layout ∙ ap (λ v. shape_of v.game) c.self.view_is in
    let at : position_of c.self.inside.layout c.self.inside.trail.cells
    ≡ c.args.self.now.stand.position = ap (λ v. v.stand.position) c.self.view_is in
    let low : c.args.line < length c.self.inside.layout.lines =
    subst (λ (s : Shape). c.args.line < length s.lines) (sym shape) c.requires.range in
    let count : c.count.result ≡ held_in c.self.inside.layout
    (position_of c.self.inside.layout c.self.inside.trail.cells) c.args.side c.args.line =
    c.count.ensures ∙ (λ i. held_in (sym shape i) (sym at i) c.args.side c.args.line) in
    let own = c.from.ensures in
    let len = ap length c.line-len.ensures.points in
    let none = other-count c.self.inside.layout c.self.inside.trail.cells c.args.side c.args.line
    fits.shape low (λ e. c.if-from-len.true (omega arith)) in
    λ u. (λ i. is_near (sym at i) c.args.side (line_in (sym shape i) c.args.line) u) ∙ none u

pub free_point-requires-clause-width : goal.free_point-requires-clause-width
free_point-requires-clause-width c = (fit-first _ _ _ _ _ _ c.self.invariant.fit).counted.width

pub free_point-requires-clause-range : goal.free_point-requires-clause-range
free_point-requires-clause-range c =
    let shape : c.self.inside.layout ≡ shape_of c.args.self.now.game =
    c.self.invariant.layout ∙ ap (λ v. shape_of v.game) c.self.view_is in
    subst (λ (s : Shape). c.args.line < length s.lines) (sym shape) c.requires.range

pub returns-clause-found : goal.returns-clause-found
returns-clause-found c =
    let fits = fit-first _ _ _ _ _ _ c.self.invariant.fit in
    let shape : c.self.inside.layout ≡ shape_of c.args.self.now.game =
    c.self.invariant.layout ∙ ap (λ v. shape_of v.game) c.self.view_is in
    let at : position_of c.self.inside.layout c.self.inside.trail.cells
    ≡ c.args.self.now.stand.position = ap (λ v. v.stand.position) c.self.view_is in
    let low : c.args.line < length c.self.inside.layout.lines =
    subst (λ (s : Shape). c.args.line < length s.lines) (sym shape) c.requires.range in
    let count : c.count.result ≡ held_in c.self.inside.layout
    (position_of c.self.inside.layout c.self.inside.trail.cells) c.args.side c.args.line =
    c.count.ensures ∙ (λ i. held_in (sym shape i) (sym at i) c.args.side c.args.line) in
    let own = c.from.ensures in
    let len = ap length c.line-len.ensures.points in
    let found = last-found c.self.inside.layout c.self.inside.trail.cells c.args.side c.args.line
    c.free_point.result fits.shape low c.free_point.ensures (omega (arith, c.if-from-len.false)) in
    subst
    (λ p. IfSome c.free_point.result
    (λ u. is_near p c.args.side (line_in (shape_of c.args.self.now.game) c.args.line) u ≡ true)) at
    (subst (λ s. IfSome c.free_point.result
    (λ u. is_near (position_of c.self.inside.layout c.self.inside.trail.cells) c.args.side
    (line_in s c.args.line) u ≡ true)) shape found)

pub returns-clause-none : goal.returns-clause-none
returns-clause-none c =
    let fits = fit-first _ _ _ _ _ _ c.self.invariant.fit in
    let shape : c.self.inside.layout ≡ shape_of c.args.self.now.game =
    c.self.invariant.layout ∙ ap (λ v. shape_of v.game) c.self.view_is in
    let at : position_of c.self.inside.layout c.self.inside.trail.cells
    ≡ c.args.self.now.stand.position = ap (λ v. v.stand.position) c.self.view_is in
    let low : c.args.line < length c.self.inside.layout.lines =
    subst (λ (s : Shape). c.args.line < length s.lines) (sym shape) c.requires.range in
    let none = last-none c.self.inside.layout c.self.inside.trail.cells c.args.side c.args.line
    c.free_point.result fits.shape low c.free_point.ensures in
    subst
    (λ p. IfNone c.free_point.result
    ((u : ℕ)
    → is_near p c.args.side (line_in (shape_of c.args.self.now.game) c.args.line) u ≡ false)) at
    (subst (λ s. IfNone c.free_point.result
    ((u : ℕ) → is_near (position_of c.self.inside.layout c.self.inside.trail.cells) c.args.side
    (line_in s c.args.line) u ≡ false)) shape none)
