use Rattle.pg_book.proofs.Near.{paged}
use Rattle.pg_book.proofs.laws.first_moves_are_shown.Goals as goal

pub returns : goal.returns
returns c = paged
