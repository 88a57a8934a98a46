use Rattle.pg_book.proofs.Wholes.{book-sections}
use Rattle.pg_book.proofs.laws.nodes_have_sections.Goals as goal

pub returns : goal.returns
returns c = book-sections
