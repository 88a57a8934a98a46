use Rattle.std.proofs.Common.{◌∙◌, Bool, Some, arith, sym, ap, subst}
use Rattle.pg_met.proofs.Common.{IsPosition, Position, after, point_count-le}
use Rattle.pg_game.proofs.Moves.{IsPosition-after}
use Rattle.pg_met.specs.Met.{IsLeafOf, IsMeeting}
use Rattle.pg_met.specs.Tree.{IsMetFrom}
use Rattle.pg_met.proofs.Meeting.{key-same, met-from, met-known}
use Rattle.pg_met.proofs.table.meet_after.Goals as goal

pub after-q-requires : goal.after-q-requires
after-q-requires c =
    let few = point_count-le c.args.asked.game.now in
    omega (arith, few, c.requires.moves.point)

pub returns-then-not-is_new-clause-met : goal.returns-then-not-is_new-clause-met
returns-then-not-is_new-clause-met c =
    let g = c.args.asked.game.now in
    let reads = c.requires.reads.reads in
    let position : IsPosition g c.after-q.result = subst (λ (q : Position). IsPosition g q)
    (sym c.after-q.ensures) (IsPosition-after g c.args.expansion.now.position c.args.v
    reads.position c.requires.moves.point c.requires.moves.free) in
    let same =
    key-same g c.after-q.result c.of-key.result reads.asked.lines position c.of-key.ensures in
    met-known g c.args.asked.question c.args.table.now c.meet.new.self
    (after g c.args.expansion.now.position c.args.v) c.in_ok-place.place c.requires.tree
    (c.in_ok-place.ensures.known c.if-not-is_new.true)
    (c.in_ok-place.ensures.at ∙ ap Some (same ∙ c.after-q.ensures))

pub add-requires-clause-position : goal.add-requires-clause-position
add-requires-clause-position c =
    let g = c.args.asked.game.now in
    let reads = c.requires.reads.reads in
    let position : IsPosition g c.after-q.result = subst (λ (q : Position). IsPosition g q)
    (sym c.after-q.ensures) (IsPosition-after g c.args.expansion.now.position c.args.v
    reads.position c.requires.moves.point c.requires.moves.free) in
    let same =
    key-same g c.after-q.result c.of-key.result reads.asked.lines position c.of-key.ensures in
    subst (λ (q : Position). IsPosition g q) (sym same) position

pub add-requires-clause-found : goal.add-requires-clause-found
add-requires-clause-found c =
    let g = c.args.asked.game.now in
    let reads = c.requires.reads.reads in
    let position : IsPosition g c.after-q.result = subst (λ (q : Position). IsPosition g q)
    (sym c.after-q.ensures) (IsPosition-after g c.args.expansion.now.position c.args.v
    reads.position c.requires.moves.point c.requires.moves.free) in
    let same =
    key-same g c.after-q.result c.of-key.result reads.asked.lines position c.of-key.ensures in
    subst (λ (q : Position). IsLeafOf g c.args.asked.question q c.in_ok-found.found) (sym same)
    c.in_ok-found.ensures.found

pub returns-clause-met : goal.returns-clause-met
returns-clause-met c =
    let g = c.args.asked.game.now in
    let reads = c.requires.reads.reads in
    let old = c.args.table.now in
    let position : IsPosition g c.after-q.result = subst (λ (q : Position). IsPosition g q)
    (sym c.after-q.ensures) (IsPosition-after g c.args.expansion.now.position c.args.v
    reads.position c.requires.moves.point c.requires.moves.free) in
    let same =
    key-same g c.after-q.result c.of-key.result reads.asked.lines position c.of-key.ensures in
    subst (λ (q : Position). IsMetFrom g c.args.asked.question old.positions.items old
    c.add.new.self q c.in_ok-place.place) (same ∙ c.after-q.ensures)
    (met-from g c.args.asked.question old.positions.items old c.add.new.self c.meet.new.self
    c.of-key.result c.in_ok-place.place
    (c.in_ok-add.ensures old.positions.items c.in_ok-place.place c.requires.tree
    (subst (λ (b : Bool). IsMeeting c.of-key.result old.positions.items c.meet.new.self.items
    c.in_ok-place.place b) c.if-not-is_new.false c.in_ok-place.ensures)))
