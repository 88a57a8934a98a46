use Rattle.std.proofs.Common.{◌∷◌, [], map}
use Rattle.pg_family_files.proofs.Common.{last_lines, each_text}
use Rattle.pg_family_files.specs.Print.{printed_vectors, header, numbered, worded, signs_of}
use Rattle.pg_family_files.specs.Print.{vector_words}
use Rattle.pg_family_files.specs.declared.family.Family.TheVariants as families
use Rattle.pg_family_files.specs.declared.family.Key.TheVariants as keys
use Rattle.pg_family_files.proofs.Printed.{joined_vectors}
use Rattle.pg_family_files.proofs.printing.print_vectors.Goals as goal

pub returns : goal.returns
unfolding printed_vectors
returns c =
    let g = c.args.g.now in
    rw (
      c.into_bytes.ensures.value,
      c.in_ok-put_last.ensures,
      c.in_ok-put_vectors.ensures,
      c.in_ok-put_vector.ensures,
      c.in_ok-put_numbers.ensures,
      c.in_ok-put_header.ensures,
      c.new-out.ensures.bytes,
      c.as_slice.ensures,
      c.from.ensures,
      c.name.ensures,
      ← each_text (vector_words g.rows) g.vectors,
    )
    (joined_vectors (header families.Vectors) (numbered keys.Rows (g.rows ∷ []))
    (worded keys.Target (signs_of g.rows g.target)) (map (vector_words g.rows) g.vectors)
    (last_lines g.x g.y g.turn))
