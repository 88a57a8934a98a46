use Rattle.std.proofs.Common.{◌≡◌, ◌*◌, ◌+◌, ◌/◌, ◌^◌, false, subst, get_or, w64}
use Rattle.pg_base.proofs.Common.{trailing_zeros, FinSet, contains, nat_cmp}
use Rattle.pg_base.specs.Points.{IsLeastFrom}
use Rattle.pg_base.proofs.RowLemmas.{none-in_row, least-in_row, AreBelow-words}
use Rattle.pg_base.proofs.point_set.PointSet.first_in_row.Goals as goal

pub returns-then-word-eq0-clause-none : goal.returns-then-word-eq0-clause-none
returns-then-word-eq0-clause-none c q above below =
    subst (λ (s : FinSet nat_cmp). contains s q ≡ false) c.self.view_is
    (none-in_row c.self.inside.words c.args.row c.args.column c.requires.row c.if-word-eq0.true q
    above below)

pub returns-else-word-eq0-clause-found : goal.returns-else-word-eq0-clause-found
returns-else-word-eq0-clause-found c = subst
    (λ (s : FinSet nat_cmp). IsLeastFrom s (64 * c.args.row + c.args.column)
    (64 * c.args.row + c.args.column + trailing_zeros w64
    (get_or c.self.inside.words c.args.row 0 / 2 ^ c.args.column))) c.self.view_is
    (least-in_row c.self.inside.words c.args.row c.args.column c.self.invariant c.requires.row
    c.requires.column c.if-word-eq0.false)

pub returns-else-word-eq0-clause-range : goal.returns-else-word-eq0-clause-range
returns-else-word-eq0-clause-range c = AreBelow-words c.self.inside.words _
    (least-in_row c.self.inside.words c.args.row c.args.column c.self.invariant c.requires.row
    c.requires.column c.if-word-eq0.false).member
