use Rattle.std.proofs.Common.{◌∷◌, [], map}
use Rattle.pg_files.specs.Print.{edge_words, numbered}
use Rattle.pg_files.specs.declared.key.Key.TheVariants as keys
use Rattle.pg_files.proofs.PrintLemmas.{each_text, joined_three}
use Rattle.pg_files.proofs.printing.put_graph.Goals as goal

pub returns : goal.returns
returns c =
    let g = c.args.graph.now in
    rw (
      c.in_ok-put_edges.ensures,
      c.in_ok-put_numbers-2.ensures,
      c.in_ok-put_numbers.ensures,
      c.as_slice.ensures,
      c.name.ensures,
      c.name-2.ensures,
      ← each_text edge_words g.ends,
    )
    (joined_three _ (numbered keys.Vertices (g.vertices ∷ []))
    (numbered keys.Terminals (g.s ∷ g.t ∷ [])) (map edge_words g.ends))
