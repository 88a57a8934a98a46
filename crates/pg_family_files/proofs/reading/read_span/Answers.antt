use Rattle.pg_family_files.specs.declared.family.Family.TheVariants as families
use Rattle.pg_family_files.specs.Views.{whole_view}
use Rattle.pg_family_files.proofs.Sound.{whole_complete, span_fits}
use Rattle.pg_family_files.proofs.reading.read_span.Goals as goal

pub invariant_of-result : goal.invariant_of-result
invariant_of-result c =
    let w = whole_view (c.in-Ok.draft, c.in-Ok.turn) in
    let fits =
    span_fits w (whole_complete families.Connectivity c.args.bytes.now w c.in-Ok.ensures) in
    record { fits = rw c.from_vec.ensures fits }
