use Rattle.std.proofs.Common.{◌≡◌, ℕ, ◌<◌, List, [], length, ◌/◌, ap, arith, get_or}
use Rattle.pg_match.proofs.Common.{Contains-get_or, get_or_read, filter, contains}
use Rattle.pg_match.specs.Private.{line_at}
use Rattle.pg_match.proofs.ByCount.{short-from_many, short-from_one}
use Rattle.pg_match.proofs.matching.short_by_count.Goals as goal

pub returns-then-wanted-most-clause-short : goal.returns-then-wanted-most-clause-short
returns-then-wanted-most-clause-short c = short-from_many c.args.lines.now c.args.wanted.now
    c.args.free.now (c.len.result / 2) c.in_ok-to_vec.field-0.items c.requires.can.different
    c.if-wanted-most.true (ap (λ n. n / 2) c.len.ensures.exact)
    (c.in_ok-to_vec.ensures.items_if_clones_equal (λ x y e. e))

pub returns-then-count_free-lt2-clause-short : goal.returns-then-count_free-lt2-clause-short
returns-then-count_free-lt2-clause-short c =
    let j_in : get_or c.args.wanted.now c.loop-j.j-index 0 < length c.args.lines.now =
    c.requires.can.range c.loop-j.j-index 0 c.loop-j-test.true in
    let line : c.index-lines-j.result
    ≡ line_at c.args.lines.now (get_or c.args.wanted.now c.loop-j.j-index 0) =
    get_or_read c.args.lines.now (get_or c.args.wanted.now c.loop-j.j-index 0)
    c.index-lines-j.result j_in c.index-lines-j.is [] in
    short-from_one c.args.lines.now c.args.wanted.now c.args.free.now
    (get_or c.args.wanted.now c.loop-j.j-index 0) c.in_ok-vec.field-0.items
    (Contains-get_or c.args.wanted.now c.loop-j.j-index 0 c.loop-j-test.true) (omega (
      arith,
      ap (λ (l : List ℕ). length (filter (contains c.args.free.now) l)) line,
      c.count_free.ensures,
      c.if-count_free-lt2.true,
    )) c.in_ok-vec.ensures.items
