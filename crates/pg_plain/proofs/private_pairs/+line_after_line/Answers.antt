use Rattle.std.proofs.Common.{ℕ, List, sym, ap, ◌∙◌}
use Rattle.std.proofs.Common.{filter, take, drop, length, ◌-◌}
use Rattle.pg_plain.proofs.Common.{list_any, contains}
use Rattle.pg_plain.specs.PairSearch.{is_pair, is_lesser}
use Rattle.pg_plain.proofs.PairSearches.{passes-one, passes-none_all, pairs-none, pairs-first}
use Rattle.pg_plain.proofs.private_pairs.+line_after_line.Goals as goal

pub has_greater-returns-then-is_rest : goal.has_greater-returns-then-is_rest
has_greater-returns-then-is_rest t c = sym
    (passes-one (is_pair c.args.own.now c.args.others.now (contains c.args.free.now) c.args.a)
    (contains c.args.free.now) c.args.line.now c.loop-b.b-index c.loop-b-test.true
    (sym c.has.ensures ∙ c.if-has.true) (sym c.is_rest.ensures ∙ c.if-is_rest.true))

pub has_greater-returns : goal.has_greater-returns
has_greater-returns t c = sym
    (passes-none_all (is_pair c.args.own.now c.args.others.now (contains c.args.free.now) c.args.a)
    (contains c.args.free.now) c.args.line.now c.loop-b.b-index c.loop-b-test.false
    c.loop-b.invariant)

pub has_pair-returns-then-has_greater : goal.has_pair-returns-then-has_greater
has_pair-returns-then-has_greater t c = sym (passes-one
    (is_lesser c.args.own.now c.args.others.now (contains c.args.free.now) c.args.line.now)
    (contains c.args.free.now) c.args.line.now c.loop-a.a-index c.loop-a-test.true
    (sym c.has.ensures ∙ c.if-has.true) (sym c.has_greater.ensures ∙ c.if-has_greater.true))

pub has_pair-returns : goal.has_pair-returns
has_pair-returns t c = sym (passes-none_all (is_lesser c.args.own.now c.args.others.now
    (contains c.args.free.now) c.args.line.now) (contains c.args.free.now) c.args.line.now
    c.loop-a.a-index c.loop-a-test.false c.loop-a.invariant)

pub have_private_pairs-returns-in-empty : goal.have_private_pairs-returns-in-empty
have_private_pairs-returns-in-empty t c =
    sym (pairs-none c.args.own.now c.args.lines.now (contains c.args.free.now) c.in-empty.len_below)

pub have_private_pairs-returns-else-meets : goal.have_private_pairs-returns-else-meets
have_private_pairs-returns-else-meets t c =
    let lines = c.args.lines.now in
    let found = c.has_pair.ensures
    ∙ ap (λ (x : List ℕ). list_any
    (is_lesser c.args.own.now (take (length lines - 1) (drop 1 lines)) (contains c.args.free.now) x)
    (filter (contains c.args.free.now) x)) c.as_slice-else-meets.ensures in
    pairs-first c.args.own.now lines c.line-item.result
    (contains c.args.free.now) c.has_pair.result c.in-len1-up.len_at_least c.line-item.is
    (sym (c.meets.ensures ∙ ap (list_any (contains c.args.own.now)) c.as_slice.ensures)
    ∙ c.if-meets.false) found
