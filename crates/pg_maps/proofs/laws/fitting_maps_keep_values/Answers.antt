use Rattle.pg_maps.proofs.BoardImages.{value-on_board, Forces-on_board}
use Rattle.pg_maps.proofs.laws.fitting_maps_keep_values.Goals as goal

pub returns : goal.returns
returns c = record { value = value-on_board; forces = Forces-on_board }
