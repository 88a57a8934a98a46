use Rattle.pg_family_book.proofs.Wholes.{leaves-whole}
use Rattle.pg_family_book.proofs.laws.family_books_are_whole.Goals as goal

pub returns : goal.returns
returns c = leaves-whole
