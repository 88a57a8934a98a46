use Rattle.std.proofs.Common.{◌≡◌, ◌∙◌, ◌+◌, ◌-◌, ◌*◌, ◌≤◌, ℕ, List, length, take, drop, sym, ap}
use Rattle.std.proofs.Common.{arith}
use Rattle.pg_base.specs.WordLemmas.{with_bit}
use Rattle.pg_potential.proofs.Common.{insert, length-drop, take_all}
use Rattle.pg_potential.proofs.FlatMarks.{set-iff, row-within}
use Rattle.pg_potential.proofs.RowsWithin.{rest-long, words-with}
use Rattle.pg_potential.proofs.marks.Marks.has_more.Goals as goal

pub are_same_with-requires-clause-mine : goal.are_same_with-requires-clause-mine
are_same_with-requires-clause-mine c = rest-long c.args.self.now c.args.row c.deref.result.now
    c.requires.flat c.requires.row c.deref.ensures.value

pub returns : goal.returns
returns c =
    let m = c.args.self.now in
    let more = insert c.args.set.now c.args.v in
    let start = m.width * c.args.row in
    let all = c.deref.result.now in
    let rest = take (length all - start) (drop start all) in
    let rest_is : rest ≡ drop start m.words.items =
    take_all (length all - start) (drop start all)
    (let n = length-drop start all in omega (arith, n)) ∙ ap (drop start) c.deref.ensures.value in
    let found = take m.width rest in
    let is = ap (λ (l : List ℕ). take m.width l) rest_is in
    let inside = row-within m.width c.args.row (2 * length m.turns.items) c.requires.row in
    let iff = set-iff m.words.items m.width c.args.row more found c.requires.flat.few
    c.requires.flat.fit (omega (arith, inside, c.requires.flat.count)) c.requires.below is in
    let words = ap (λ (l : List ℕ). take m.width (with_bit l c.args.v)) c.words.ensures.words
    ∙ ap (λ (l : List ℕ). take m.width l) (words-with c.args.set.now c.args.v m.width
    c.requires.flat.few c.requires.small c.requires.below) in (
      λ on. iff.0 (c.are_same_with.ensures.0 on ∙ words),
      λ s. c.are_same_with.ensures.1 (iff.1 s ∙ sym words),
    )
