use Rattle.std.proofs.Common.{◌≡◌, ◌-◌, ◌<◌, length, arith, sym, ap, ◌∙◌}
use Rattle.pg_undo.proofs.Undoing.{back_to-level, back_to-more, length-back_to}
use Rattle.pg_undo.proofs.trail.Trail.undo_to.Goals as goal

pub loop-self-init : goal.loop-self-init
loop-self-init c = (sym (back_to-level c.args.self.now), c.requires, omega arith)

pub loop-self-smaller : goal.loop-self-smaller
loop-self-smaller c =
    let more : c.args.level < length c.loop-self.self.entries =
    omega (arith, c.loop-self-test.true, c.level.ensures) in
    let fewer : length c.take_back.new.self.entries ≡ length c.loop-self.self.entries - 1 =
    ap (λ t. length t.entries) c.take_back.ensures
    ∙ length-back_to (length c.loop-self.self.entries - 1) c.loop-self.self (omega arith) in
    omega arith

pub loop-self-preserved : goal.loop-self-preserved
loop-self-preserved c =
    let more : c.args.level < length c.loop-self.self.entries =
    omega (arith, c.loop-self-test.true, c.level.ensures) in
    back_to-more c.args.self.now c.loop-self.self c.take_back.new.self c.args.level
    c.take_back.ensures c.loop-self.invariant.0 more c.loop-self.invariant.2
