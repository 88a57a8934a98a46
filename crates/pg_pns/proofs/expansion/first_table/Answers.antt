use Rattle.std.proofs.Common.{◌≡◌, ◌∙◌, ◌<◌, ◌^◌, Bool, List, length, lit<, sym, subst}
use Rattle.pg_pns.proofs.Common.{Game, IsPosition, Position, start}
use Rattle.pg_game.proofs.Moves.{IsPosition-start}
use Rattle.pg_met.specs.Met.{IsLeafOf, IsMeeting}
use Rattle.pg_met.specs.Tree.{IsMetAt}
use Rattle.pg_met.proofs.Meeting.{first-new, key-same, met-from}
use Rattle.pg_pns.proofs.Searching.{first-search}
use Rattle.pg_pns.proofs.expansion.first_table.Goals as goal

root-position : (g : Game) (p : Position) → p ≡ start g → IsPosition g p
root-position g p is = subst (λ (q : Position). IsPosition g q) (sym is) (IsPosition-start g)

pub leaf-requires-clause-asked : goal.leaf-requires-clause-asked
leaf-requires-clause-asked c = record {
  question = c.requires.reads.asked.question;
  lines = c.requires.reads.asked.lines;
  position = root-position c.args.asked.game.now c.start-root.result c.start-root.ensures;
}

pub leaf-requires-clause-stands : goal.leaf-requires-clause-stands
leaf-requires-clause-stands c = record {
  game = c.requires.reads.starts.game;
  position = c.requires.reads.starts.position ∙ sym c.start-root.ensures;
}

pub add-requires-clause-position : goal.add-requires-clause-position
add-requires-clause-position c =
    let g = c.args.asked.game.now in
    let position = root-position g c.start-root.result c.start-root.ensures in
    let same = key-same g c.start-root.result c.of-key.result c.requires.reads.asked.lines position
    c.of-key.ensures in
    subst (λ (q : Position). IsPosition g q) (sym same) position

pub add-requires-clause-found : goal.add-requires-clause-found
add-requires-clause-found c =
    let g = c.args.asked.game.now in
    let position = root-position g c.start-root.result c.start-root.ensures in
    let same = key-same g c.start-root.result c.of-key.result c.requires.reads.asked.lines position
    c.of-key.ensures in
    subst (λ (q : Position). IsLeafOf g c.args.asked.question q c.in_ok-found.found) (sym same)
    (record { answer = c.in_ok-found.ensures.decided; body = c.in_ok-found.ensures.body })

pub add-requires-clause-tree : goal.add-requires-clause-tree
add-requires-clause-tree c = (
  c.new-table.result.positions.items,
  c.new-table.ensures.tree c.args.asked.game.now c.args.asked.question,
  subst (λ (ps : List Position). length ps < 2 ^ 32) (sym c.new-table.ensures.positions) (lit< tt),
)

pub returns-clause-search : goal.returns-clause-search
returns-clause-search c =
    let g = c.args.asked.game.now in
    let t = c.args.asked.question in
    let old = c.new-table.result in
    let position = root-position g c.start-root.result c.start-root.ensures in
    let same = key-same g c.start-root.result c.of-key.result c.requires.reads.asked.lines position
    c.of-key.ensures in
    let met = c.in_ok-meet.ensures in
    let new = first-new c.of-key.result old.positions.items c.meet.new.self.items
    c.in_ok-meet.field-0.0 c.in_ok-meet.field-0.1 met c.new-table.ensures.positions in
    first-search g t old c.add.new.self c.in_ok-meet.field-0.0
    (subst (λ (p : Position). IsMetAt g t old c.add.new.self p c.in_ok-meet.field-0.0)
    (same ∙ c.start-root.ensures)
    (met-from g t old.positions.items old c.add.new.self c.meet.new.self c.of-key.result
    c.in_ok-meet.field-0.0
    (c.in_ok-add.ensures old.positions.items c.in_ok-meet.field-0.0 (c.new-table.ensures.tree g t)
    (subst (λ (b : Bool). IsMeeting c.of-key.result old.positions.items c.meet.new.self.items
    c.in_ok-meet.field-0.0 b) new met))))
    c.new-table.ensures.positions c.new-table.ensures.moves c.new-table.ensures.parents
