use Rattle.pg_family_files.proofs.Sound.{span_game_fits, vector_game_fits}
use Rattle.pg_family_files.proofs.laws.what_is_read_fits.Goals as goal

pub returns : goal.returns
returns c = record {
  span = λ text g e. span_game_fits text g e;
  vectors = λ text g e. vector_game_fits text g e;
}
