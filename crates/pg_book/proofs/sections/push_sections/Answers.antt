use Rattle.std.proofs.Common.{◌+◌}
use Rattle.pg_gen.proofs.Boards.{flat_next}
use Rattle.pg_book.specs.Books.{section_at}
use Rattle.pg_book.proofs.sections.push_sections.Goals as goal

pub loop-i-preserved : goal.loop-i-preserved
loop-i-preserved c = flat_next
    (λ i. section_at c.args.g.now c.args.layout.now c.args.claim.now c.args.chapter (i + 1))
    c.loop-i.i c.args.pieces.now.items _ _ c.in_ok-push_section.ensures c.loop-i.invariant
