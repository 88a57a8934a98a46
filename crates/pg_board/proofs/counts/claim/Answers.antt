use Rattle.std.proofs.Common.{◌≡◌, ◌+◌, ◌-◌, ◌==◌, length, get_or, set, arith, sym, ap, ◌∙◌}
use Rattle.pg_board.proofs.Common.{other, with_set, extends-set, extends-both}
use Rattle.pg_board.specs.Shape.{line_in, count_cell}
use Rattle.pg_board.specs.Counts.{count_in, free_by}
use Rattle.pg_board.proofs.CellPlaces.{count_cell-within}
use Rattle.pg_board.proofs.Claiming.{sides-sum, some-line, few-lines, free-short, claimed-more}
use Rattle.pg_board.proofs.Claiming.{claimed-counted}
use Rattle.pg_board.proofs.counts.claim.Goals as goal

pub get-own-requires : goal.get-own-requires
get-own-requires c =
    let within =
    count_cell-within c.args.layout.now c.args.side c.args.line c.requires.unfilled.range in
    omega (arith, c.count_cell-cell.ensures, c.requires.counted.width)

pub get-theirs-requires : goal.get-theirs-requires
get-theirs-requires c =
    let within = count_cell-within c.args.layout.now c.other-enemy.result c.args.line
    c.requires.unfilled.range in
    omega (arith, c.count_cell.ensures, c.requires.counted.width)

pub leave-requires-clause-short : goal.leave-requires-clause-short
leave-requires-clause-short c = rw c.line_len.ensures.count
    (free-short c.args.layout.now c.args.line
    (c.get-own.result + c.get-theirs.result) c.line_len.ensures.shape c.requires.unfilled.range)

pub leave-requires-clause-some : goal.leave-requires-clause-some
leave-requires-clause-some c = λ none.
    let cells = c.args.trail.now.cells in
    let own : c.get-own.result ≡ count_in c.args.layout.now cells c.args.side c.args.line =
    c.get-own.ensures ∙ ap (λ k. get_or cells k 0) c.count_cell-cell.ensures in
    let theirs : c.get-theirs.result
    ≡ count_in c.args.layout.now cells (other c.args.side) c.args.line = c.get-theirs.ensures
    ∙ (ap (λ k. get_or cells k 0) c.count_cell.ensures
    ∙ ap (λ k. count_in c.args.layout.now cells k c.args.line) c.other-enemy.ensures) in
    let sum =
    sides-sum c.args.layout.now (count_in c.args.layout.now cells) c.args.side c.args.line in
    let free : free_by c.args.layout.now (count_in c.args.layout.now cells) c.args.line
    ≡ length (line_in c.args.layout.now c.args.line) - (c.get-own.result + c.get-theirs.result) =
    omega arith in
    rw c.line_len.ensures.count
    (some-line c.args.layout.now cells c.args.side c.args.line _ c.requires.counted
    c.requires.unfilled.range
    (free-short c.args.layout.now c.args.line (c.get-own.result + c.get-theirs.result)
    c.line_len.ensures.shape c.requires.unfilled.range) (sym own ∙ none) free)

pub narrow-requires-clause-range : goal.narrow-requires-clause-range
narrow-requires-clause-range c =
    let cells = c.args.trail.now.cells in
    let own : c.get-own.result ≡ count_in c.args.layout.now cells c.args.side c.args.line =
    c.get-own.ensures ∙ ap (λ k. get_or cells k 0) c.count_cell-cell.ensures in
    let theirs : c.get-theirs.result
    ≡ count_in c.args.layout.now cells (other c.args.side) c.args.line = c.get-theirs.ensures
    ∙ (ap (λ k. get_or cells k 0) c.count_cell.ensures
    ∙ ap (λ k. count_in c.args.layout.now cells k c.args.line) c.other-enemy.ensures) in
    let sum =
    sides-sum c.args.layout.now (count_in c.args.layout.now cells) c.args.side c.args.line in
    rw c.line_len.ensures.count (
      omega (arith, own, theirs, sum, c.requires.unfilled.free),
      free-short c.args.layout.now c.args.line (c.get-own.result + c.get-theirs.result)
          c.line_len.ensures.shape c.requires.unfilled.range,
    )

pub narrow-requires-clause-some : goal.narrow-requires-clause-some
narrow-requires-clause-some c = λ none.
    let cells = c.args.trail.now.cells in
    let own : c.get-own.result ≡ count_in c.args.layout.now cells c.args.side c.args.line =
    c.get-own.ensures ∙ ap (λ k. get_or cells k 0) c.count_cell-cell.ensures in
    let theirs : c.get-theirs.result
    ≡ count_in c.args.layout.now cells (other c.args.side) c.args.line = c.get-theirs.ensures
    ∙ (ap (λ k. get_or cells k 0) c.count_cell.ensures
    ∙ ap (λ k. count_in c.args.layout.now cells k c.args.line) c.other-enemy.ensures) in
    let sum =
    sides-sum c.args.layout.now (count_in c.args.layout.now cells) c.args.side c.args.line in
    let f =
    length (line_in c.args.layout.now c.args.line) - (c.get-own.result + c.get-theirs.result) in
    let free : free_by c.args.layout.now (count_in c.args.layout.now cells) c.args.line
    ≡ length (line_in c.args.layout.now c.args.line) - (c.get-own.result + c.get-theirs.result) =
    omega arith in
    let short = free-short c.args.layout.now c.args.line
    (c.get-own.result + c.get-theirs.result) c.line_len.ensures.shape c.requires.unfilled.range in
    let before = some-line c.args.layout.now cells (other c.args.side) c.args.line _
    c.requires.counted c.requires.unfilled.range short (sym theirs ∙ none) free in
    let stayed = c.leave.ensures.lines.theirs _ short in
    rw (c.other-enemy.ensures, c.line_len.ensures.count) (omega (arith, before, stayed))

pub narrow-requires-clause-few : goal.narrow-requires-clause-few
narrow-requires-clause-few c = λ f short.
    let before = few-lines c.args.layout.now c.args.trail.now.cells
    (other c.args.side) f c.requires.counted short in
    let stayed = c.leave.ensures.lines.theirs f short in
    rw c.other-enemy.ensures (omega (arith, c.line_len.ensures.shape.few_lines))

pub set-requires-clause-within : goal.set-requires-clause-within
set-requires-clause-within c =
    let within =
    count_cell-within c.args.layout.now c.args.side c.args.line c.requires.unfilled.range in
    omega (
      arith,
      c.count_cell-cell.ensures,
      c.requires.counted.width,
      c.leave.ensures.trail.width,
      c.narrow.ensures.trail.width,
    )

pub returns-clause-counted : goal.returns-clause-counted
unfolding with_set
returns-clause-counted c =
    let cells = c.args.trail.now.cells in
    let own : c.get-own.result ≡ count_in c.args.layout.now cells c.args.side c.args.line =
    c.get-own.ensures ∙ ap (λ k. get_or cells k 0) c.count_cell-cell.ensures in
    let theirs : c.get-theirs.result
    ≡ count_in c.args.layout.now cells (other c.args.side) c.args.line = c.get-theirs.ensures
    ∙ (ap (λ k. get_or cells k 0) c.count_cell.ensures
    ∙ ap (λ k. count_in c.args.layout.now cells k c.args.line) c.other-enemy.ensures) in
    let now : c.set.new.self.cells ≡ set c.narrow.new.trail.cells
    (count_cell c.args.layout.now c.args.side c.args.line) (c.get-own.result + 1) =
    ap (λ t. t.cells) c.set.ensures
    ∙ ap (λ k. set c.narrow.new.trail.cells k (c.get-own.result + 1)) c.count_cell-cell.ensures in
    let narrowed = rw c.other-enemy.ensures at c.narrow.ensures.lines in
    rw now
    (claimed-counted c.args.layout.now c.args.side c.args.line cells c.leave.new.trail.cells
    c.narrow.new.trail.cells c.get-own.result c.get-theirs.result _ c.requires.counted
    c.requires.unfilled.range own theirs
    (ap (λ n. n - (c.get-own.result + c.get-theirs.result)) c.line_len.ensures.count)
    c.requires.unfilled.free c.leave.ensures.lines narrowed
    (c.narrow.ensures.trail.width ∙ (c.leave.ensures.trail.width ∙ c.requires.counted.width)))

pub returns-clause-more : goal.returns-clause-more
unfolding with_set
returns-clause-more c =
    let cells = c.args.trail.now.cells in
    let own : c.get-own.result ≡ count_in c.args.layout.now cells c.args.side c.args.line =
    c.get-own.ensures ∙ ap (λ k. get_or cells k 0) c.count_cell-cell.ensures in
    let theirs : c.get-theirs.result
    ≡ count_in c.args.layout.now cells (other c.args.side) c.args.line = c.get-theirs.ensures
    ∙ (ap (λ k. get_or cells k 0) c.count_cell.ensures
    ∙ ap (λ k. count_in c.args.layout.now cells k c.args.line) c.other-enemy.ensures) in
    let now : c.set.new.self.cells ≡ set c.narrow.new.trail.cells
    (count_cell c.args.layout.now c.args.side c.args.line) (c.get-own.result + 1) =
    ap (λ t. t.cells) c.set.ensures
    ∙ ap (λ k. set c.narrow.new.trail.cells k (c.get-own.result + 1)) c.count_cell-cell.ensures in
    let narrowed = rw c.other-enemy.ensures at c.narrow.ensures.lines in
    rw now
    (claimed-more c.args.layout.now c.args.side c.args.line cells c.leave.new.trail.cells
    c.narrow.new.trail.cells c.get-own.result c.get-theirs.result _ c.requires.counted
    c.requires.unfilled.range own theirs
    (ap (λ n. n - (c.get-own.result + c.get-theirs.result)) c.line_len.ensures.count)
    c.requires.unfilled.free c.leave.ensures.lines narrowed
    (c.narrow.ensures.trail.width ∙ (c.leave.ensures.trail.width ∙ c.requires.counted.width)))

pub returns-clause-trail : goal.returns-clause-trail
returns-clause-trail c =
    let first = c.leave.ensures.trail in
    let second = extends-both 1 2 _ _ _ first c.narrow.ensures.trail in
    rw c.set.ensures
    (extends-both 3 1 _ _ _ second
    (extends-set c.narrow.new.trail c.count_cell-cell.result (c.get-own.result + 1)
    (omega (arith, second.spare, second.bound, c.requires.room))))

pub returns-clause-clear : goal.returns-clause-clear
returns-clause-clear c =
    let cells = c.args.trail.now.cells in
    let own : c.get-own.result ≡ count_in c.args.layout.now cells c.args.side c.args.line =
    c.get-own.ensures ∙ ap (λ k. get_or cells k 0) c.count_cell-cell.ensures in
    ap (λ n. n == 0) own
