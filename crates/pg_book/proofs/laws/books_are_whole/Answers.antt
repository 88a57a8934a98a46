use Rattle.pg_book.proofs.Wholes.{book-whole}
use Rattle.pg_book.proofs.laws.books_are_whole.Goals as goal

pub returns : goal.returns
returns c = book-whole
