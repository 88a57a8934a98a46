use Rattle.std.proofs.Common.{◌≡◌, ◌-◌, ◌<◌, ℕ, length, ap, sym, ◌∙◌, true, false, Some, arith}
use Rattle.std.proofs.Common.{subst}
use Rattle.pg_unfold.proofs.Common.{both_ways, slice_get-get_or, get_or_from_slice_get, IsMarked}
use Rattle.pg_unfold.proofs.MetCopies.{passed-hand, passed-skip, AreMet-passed}
use Rattle.pg_unfold.specs.Marks.{HasPassed}
use Rattle.pg_unfold.proofs.met.pass_down.Goals as goal

pub loop-key-preserved-then-marks-key : goal.loop-key-preserved-then-marks-key
loop-key-preserved-then-marks-key c =
    let marks = c.loop-key.marks in
    let key = c.loop-key.key - 1 in
    let within : key < length marks = omega arith in
    let on : IsMarked marks key =
    slice_get-get_or marks key false within ∙ ap Some c.if-marks-key.true in
    record {
      place = omega arith;
      passed = passed-hand c.args.nodes.now c.requires.earlier c.loop-key.key key marks
          c.hand_on.new.marks (omega arith) on c.hand_on.ensures
          (omega arith) c.loop-key.invariant.passed;
    }

pub loop-key-preserved : goal.loop-key-preserved
loop-key-preserved c = record {
  place = omega arith;
  passed = passed-skip c.args.nodes.now c.loop-key.key (c.loop-key.key - 1) c.loop-key.marks
      (omega arith)
      (λ on. both_ways _ c.if-marks-key.false
      (get_or_from_slice_get c.loop-key.marks (c.loop-key.key - 1) true false on))
      c.loop-key.invariant.passed;
}

pub loop-key-init : goal.loop-key-init
loop-key-init c = record {
  place = omega arith;
  passed = subst (λ (n : ℕ). HasPassed c.args.nodes.now n c.args.marks.now)
      (sym c.requires.root.size) c.requires.root;
}

pub returns : goal.returns
returns c =
    let e : c.loop-key.key ≡ 0 = omega arith in
    AreMet-passed c.args.nodes.now c.loop-key.marks
    (subst (λ (n : ℕ). HasPassed c.args.nodes.now n c.loop-key.marks) e c.loop-key.invariant.passed)
