use Rattle.std.proofs.Common.{◌≡◌, ◌-◌}
use Rattle.pg_book_parts.specs.Origins.{origin_from, origin_of}
use Rattle.pg_book_parts.proofs.origins.origin_of.Given as goal

abbrev pub invariant-loop-number : goal.invariant-loop-number
invariant-loop-number l = origin_of l.claim l.fn.page.chapter l.fn.page.number
    ≡ origin_from l.claim l.count l.child l.number (l.fn.page.number - l.number)
