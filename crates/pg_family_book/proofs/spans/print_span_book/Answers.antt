use Rattle.pg_family_book.proofs.spans.print_span_book.Goals as goal

pub returns : goal.returns
returns c = rw (c.as_slice.ensures.value, c.in_ok-leaves.ensures) at c.print_leaves.ensures
