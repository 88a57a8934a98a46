use Rattle.pg_family_files.proofs.Again.{span_again, vectors_again}
use Rattle.pg_family_files.proofs.laws.printed_game_is_read.Goals as goal

pub returns : goal.returns
returns c = record { span = λ g. span_again g; vectors = λ g. vectors_again g }
