use Rattle.pg_book.proofs.Wholes.{book-leads}
use Rattle.pg_book.proofs.laws.links_lead_to_sections.Goals as goal

pub returns : goal.returns
returns c = book-leads
