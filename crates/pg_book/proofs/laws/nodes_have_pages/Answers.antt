use Rattle.pg_book.proofs.Near.{near-listed}
use Rattle.pg_book.proofs.laws.nodes_have_pages.Goals as goal

pub returns : goal.returns
returns c = near-listed
