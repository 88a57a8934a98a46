use Rattle.std.proofs.Common.{◌≡◌, ◌∙◌, ◌+◌, ◌-◌, ◌*◌, ◌∷◌, ◌++◌, [], Some, length, sym, subst, ap}
use Rattle.std.proofs.Common.{refl, arith}
use Rattle.pg_check.proofs.Common.{AreBelow, Position, kept}
use Rattle.pg_cert.specs.declared.node_fault.NodeFault.TheVariants as faults
use Rattle.pg_potential.proofs.FlatMarks.{fits-row, made-more}
use Rattle.pg_check.specs.Checking.{Stands}
use Rattle.pg_check.specs.Present.{IsLeastSoFar, IsSoundSoFar}
use Rattle.pg_check.specs.Tester.{IsReadyFor}
use Rattle.pg_cert.specs.declared.part.Part.TheVariants as parts
use Rattle.pg_check.specs.declared.present.Present.{Present}
use Rattle.pg_check.specs.declared.tester.Tester.{Tester}
use Rattle.pg_check.proofs.CheckingSteps.{stands-next, at-next, in-hand, some-hand, due-next}
use Rattle.pg_check.proofs.CheckingSteps.{hand-more, hand-faulty, longer}
use Rattle.pg_check.proofs.ForcedNodes.{some-left}
use Rattle.pg_check.proofs.checking.Checking.test.Goals as goal

pub unreachable-requires : goal.unreachable-requires
unreachable-requires c = some-hand c.args.self.now.game.now c.args.self.now.found
    c.args.self.now.present c.args.self.now.begun c.requires.next.begins.cert c.args.node.now
    c.requires.next.begins.rest c.requires.sound (sym c.take.ensures.value ∙ c.in_default.is)
    (at-next c.args.self.now (parts.Node c.args.node.now) c.requires.next)

pub first_fault-requires-clause-kept : goal.first_fault-requires-clause-kept
first_fault-requires-clause-kept c =
    (due-next c.args.self.now c.in-Some.present c.args.node.now c.requires.sound
    (sym c.take.ensures.value ∙ c.in-Some.is) c.requires.next).made

pub push-requires-clause-flat : goal.push-requires-clause-flat
push-requires-clause-flat c =
    (due-next c.args.self.now c.in-Some.present c.args.node.now c.requires.sound
    (sym c.take.ensures.value ∙ c.in-Some.is) c.requires.next).made.flat

pub push-requires-clause-x : goal.push-requires-clause-x
push-requires-clause-x c =
    let made =
    (due-next c.args.self.now c.in-Some.present c.args.node.now c.requires.sound
    (sym c.take.ensures.value ∙ c.in-Some.is) c.requires.next).made in
    subst (λ (q : Position). AreBelow q.x (64 * c.in-Some.present.marks.width))
    (sym c.position-p.ensures)
    (fits-row c.args.self.now.game.now c.in-Some.present.marks c.args.node.now.x made
    (c.in_default-first_fault.ensures.sound faults.Marks).0.x)

pub push-requires-clause-y : goal.push-requires-clause-y
push-requires-clause-y c =
    let made =
    (due-next c.args.self.now c.in-Some.present c.args.node.now c.requires.sound
    (sym c.take.ensures.value ∙ c.in-Some.is) c.requires.next).made in
    subst (λ (q : Position). AreBelow q.y (64 * c.in-Some.present.marks.width))
    (sym c.position-p.ensures)
    (fits-row c.args.self.now.game.now c.in-Some.present.marks c.args.node.now.y made
    (c.in_default-first_fault.ensures.sound faults.Marks).0.y)

pub first_fault-requires-clause-place : goal.first_fault-requires-clause-place
first_fault-requires-clause-place c =
    let due = due-next c.args.self.now c.in-Some.present c.args.node.now c.requires.sound
    (sym c.take.ensures.value ∙ c.in-Some.is) c.requires.next in
    omega (arith, due.place, c.count-k.ensures)

pub first_fault-requires-clause-position : goal.first_fault-requires-clause-position
first_fault-requires-clause-position c =
    let due = due-next c.args.self.now c.in-Some.present c.args.node.now c.requires.sound
    (sym c.take.ensures.value ∙ c.in-Some.is) c.requires.next in
    record {
      same = c.position-p.ensures;
      apart = due.node.apart;
      some_left = some-left c.args.node.now.turn c.args.node.now.left due.node.turn;
    }

pub overflow_sub-self : goal.overflow_sub-self
overflow_sub-self c =
    (due-next c.args.self.now c.in-Some.present c.args.node.now c.requires.sound
    (sym c.take.ensures.value ∙ c.in-Some.is) c.requires.next).begun_some

pub overflow_cast-self : goal.overflow_cast-self
overflow_cast-self c =
    let due = due-next c.args.self.now c.in-Some.present c.args.node.now c.requires.sound
    (sym c.take.ensures.value ∙ c.in-Some.is) c.requires.next in
    omega (arith, due.place, due.few, c.count-k.ensures)

pub returns-in-Some-first_fault-clause-stands : goal.returns-in-Some-first_fault-clause-stands
returns-in-Some-first_fault-clause-stands c = λ fed s.
    let some = sym c.take.ensures.value ∙ c.in-Some.is in
    let place : c.count-k.result ≡ length (kept c.in-Some.present.marks) =
    omega (arith, c.count-k.ensures) in
    let due = due-next c.args.self.now c.in-Some.present c.args.node.now c.requires.sound some
    c.requires.next in
    let number : c.args.self.now.begun ≡ (c.args.self.now.begun - 1) + 1 =
    omega (arith, due.begun_some) in
    stands-next c.args.self.now _ fed (parts.Node c.args.node.now)
    (subst (λ (t : Tester). IsReadyFor t c.args.self.now.game.now)
    (sym c.in-Some-first_fault.ensures.kept) s.ready)
    (λ cert rest limits h. hand-faulty c.args.self.now.game.now c.in-Some.present
    c.args.self.now.begun cert c.args.node.now rest c.in-Some-first_fault.fault
    (c.args.self.now.begun - 1) c.count-k.result c.number.result number place c.number.ensures
    (subst (λ k. IsLeastSoFar c.args.self.now.game.now c.in-Some.present k c.args.node.now
    c.in-Some-first_fault.fault) place c.in-Some-first_fault.ensures.least)
    (in-hand c.args.self.now.game.now c.args.self.now.found c.args.self.now.present
    c.in-Some.present c.args.self.now.begun cert
    (parts.Node c.args.node.now ∷ rest) c.requires.sound some h)) s

pub returns-clause-stands : goal.returns-clause-stands
returns-clause-stands c = λ fed s.
    let some = sym c.take.ensures.value ∙ c.in-Some.is in
    let place : c.count-k.result ≡ length (kept c.in-Some.present.marks) =
    omega (arith, c.count-k.ensures) in
    let next : Present = record {
      turn = c.in-Some.present.turn;
      side = c.in-Some.present.side;
      goal = c.in-Some.present.goal;
      count = c.in-Some.present.count;
      marks = c.push.new.self;
    } in
    let items = c.in_ok-push.ensures.kept
    ∙ ap (λ (p : Position). kept c.in-Some.present.marks ++ p ∷ []) c.position-p.ensures in
    stands-next c.args.self.now _ fed (parts.Node c.args.node.now)
    (subst (λ (t : Tester). IsReadyFor t c.args.self.now.game.now)
    (sym c.first_fault.ensures.kept) s.ready) (λ cert rest limits h.
    let made = made-more c.args.self.now.game.now c.in-Some.present.marks c.push.new.self
    (due-next c.args.self.now c.in-Some.present c.args.node.now c.requires.sound
    (sym c.take.ensures.value ∙ c.in-Some.is) c.requires.next).made c.in_ok-push.ensures.flat
    c.push.ensures.width in
    let more = hand-more c.args.self.now.game.now c.in-Some.present next c.args.self.now.begun cert
    c.args.node.now rest made
    (subst (λ k. IsSoundSoFar c.args.self.now.game.now c.in-Some.present k c.args.node.now) place
    c.in_default-first_fault.ensures.sound) items (longer (kept c.in-Some.present.marks) _ _ items)
    refl refl refl refl (in-hand c.args.self.now.game.now c.args.self.now.found
    c.args.self.now.present c.in-Some.present c.args.self.now.begun cert
    (parts.Node c.args.node.now ∷ rest) c.requires.sound some h) in
    subst (λ f. Stands c.args.self.now.game.now f (Some next) c.args.self.now.begun cert rest)
    (sym c.requires.sound) more) s
