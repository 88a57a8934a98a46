use Rattle.pg_family_book.proofs.Wholes.{leaves-sections}
use Rattle.pg_family_book.proofs.laws.leaves_have_sections.Goals as goal

pub returns : goal.returns
returns c = leaves-sections
