use Rattle.pg_family_book.proofs.vectors.print_vector_book.Goals as goal

pub returns : goal.returns
returns c =
    let leaves = rw c.as_slice.ensures at c.in_ok-leaves.ensures in
    rw (c.as_slice-2.ensures.value, leaves) at c.print_leaves.ensures
