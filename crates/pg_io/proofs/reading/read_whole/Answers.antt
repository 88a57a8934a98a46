use Rattle.pg_io.proofs.Pouring.{pours_whole}
use Rattle.pg_io.proofs.reading.read_whole.Goals as goal

pub returns-clause-bytes : goal.returns-clause-bytes
returns-clause-bytes g c = pours_whole (λ kept. kept.items) (g.F.Files.told c.args.files.now).held
    c.args.name.now c.args.limit _ _ c.new-bytes.ensures.items c.in_ok-pour.ensures.poured
