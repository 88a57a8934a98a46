use Rattle.std.proofs.Common.{◌∷◌, [], map}
use Rattle.pg_family_files.proofs.Common.{edge_words, last_lines, each_text, joined}
use Rattle.pg_family_files.specs.Print.{printed_span, header, numbered}
use Rattle.pg_family_files.specs.declared.family.Family.TheVariants as families
use Rattle.pg_family_files.specs.declared.family.Key.TheVariants as keys
use Rattle.pg_family_files.proofs.printing.print_span.Goals as goal

pub returns : goal.returns
unfolding printed_span
returns c =
    let g = c.args.g.now in
    rw (
      c.into_bytes.ensures.value,
      c.in_ok-put_last.ensures,
      c.in_ok-put_edges.ensures,
      c.in_ok-put_numbers.ensures,
      c.in_ok-put_header.ensures,
      c.new-out.ensures.bytes,
      c.as_slice.ensures,
      c.name.ensures,
      ← each_text edge_words g.graph.ends,
    )
    (joined (header families.Connectivity) (numbered keys.Vertices (g.graph.vertices ∷ []))
    (map edge_words g.graph.ends) (last_lines g.x g.y g.turn))
