use Rattle.std.proofs.Common.{arith, ap, ◌∙◌, sym}
use Rattle.pg_board.proofs.Common.{X, Y, Cells}
use Rattle.pg_board.specs.Fits.{fewer, left_by}
use Rattle.pg_board.specs.declared.rings.Rings.{Rings}
use Rattle.pg_board.proofs.Fitting.{some-cells, left_by-own, left_by-other, fewer-none}
use Rattle.pg_board.proofs.plays.undo_play.Goals as goal
use Rattle.pg_board.proofs.plays.undo_play.Goals.{in-X, in-Y}

pub turn-requires : goal.turn-requires
turn-requires c = rw c.undo_to.ensures (some-cells _ _ _ _ _ c.requires.before)

pub relink_lines-requires-clause-many : goal.relink_lines-requires-clause-many
relink_lines-requires-clause-many c =
    let own = left_by-own c.args.layout.now c.undo_to.new.self.cells X c.args.play.point
    (sym c.in-X.is ∙ c.turn.ensures) in
    let low = c.requires.played.lists X in
    let same =
    ap (λ (t : Cells). left_by c.args.layout.now t.cells X c.args.play.point) c.undo_to.ensures in
    omega arith

pub relink_lines-requires-in-Y-clause-many : goal.relink_lines-requires-in-Y-clause-many
relink_lines-requires-in-Y-clause-many c =
    let own = left_by-own c.args.layout.now c.undo_to.new.self.cells Y c.args.play.point
    (sym c.in-Y.is ∙ c.turn.ensures) in
    let low = c.requires.played.lists Y in
    let same =
    ap (λ (t : Cells). left_by c.args.layout.now t.cells Y c.args.play.point) c.undo_to.ensures in
    omega arith

pub returns-clause-live_x : goal.returns-clause-live_x
returns-clause-live_x c =
    let back = ap (λ (t : Cells). fewer (left_by c.args.layout.now t.cells X c.args.play.point)
    c.args.rings.now.live_x) c.undo_to.ensures in
    elim c.match-turn.branch [
      | in-X w ↦
          let own = left_by-own c.args.layout.now c.undo_to.new.self.cells X c.args.play.point
          (sym w.in-X.is ∙ c.turn.ensures) in
          ap (λ (k : Rings). k.live_x) w.rings-is
          ∙ (w.relink_lines.ensures ∙ (ap (λ n. fewer n c.args.rings.now.live_x) (sym own) ∙ back))
      | in-Y w ↦
          let none = left_by-other c.args.layout.now c.undo_to.new.self.cells Y c.args.play.point
          (sym w.in-Y.is ∙ c.turn.ensures) in
          ap (λ (k : Rings). k.live_x) w.rings-is
          ∙ (fewer-none _ c.args.rings.now.live_x none ∙ back)
    ]

pub returns-clause-live_y : goal.returns-clause-live_y
returns-clause-live_y c =
    let back = ap (λ (t : Cells). fewer (left_by c.args.layout.now t.cells Y c.args.play.point)
    c.args.rings.now.live_y) c.undo_to.ensures in
    elim c.match-turn.branch [
      | in-X w ↦
          let none = left_by-other c.args.layout.now c.undo_to.new.self.cells X c.args.play.point
          (sym w.in-X.is ∙ c.turn.ensures) in
          ap (λ (k : Rings). k.live_y) w.rings-is
          ∙ (fewer-none _ c.args.rings.now.live_y none ∙ back)
      | in-Y w ↦
          let own = left_by-own c.args.layout.now c.undo_to.new.self.cells Y c.args.play.point
          (sym w.in-Y.is ∙ c.turn.ensures) in
          ap (λ (k : Rings). k.live_y) w.rings-is
          ∙ (w.relink_lines-in-Y.ensures
          ∙ (ap (λ n. fewer n c.args.rings.now.live_y) (sym own) ∙ back))
    ]
