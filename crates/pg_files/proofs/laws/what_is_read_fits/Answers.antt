use Rattle.pg_files.proofs.Sound.{fits_game}
use Rattle.pg_files.proofs.laws.what_is_read_fits.Goals as goal

pub returns : goal.returns
returns c = λ text g e. fits_game text g e
