use Rattle.pg_family_files.specs.declared.family.Family.TheVariants as families
use Rattle.pg_family_files.specs.Views.{whole_view}
use Rattle.pg_family_files.proofs.Sound.{whole_complete, vectors_fit}
use Rattle.pg_family_files.proofs.reading.read_vectors.Goals as goal

pub invariant_of-result : goal.invariant_of-result
invariant_of-result c =
    let w = whole_view (c.in-Ok.draft, c.in-Ok.turn) in
    record {
      fits = rw c.from_vec.ensures
          (vectors_fit w (whole_complete families.Vectors c.args.bytes.now w c.in-Ok.ensures));
    }
