use Rattle.pg_family_book.proofs.Wholes.{leaves-lead}
use Rattle.pg_family_book.proofs.laws.family_links_lead_to_sections.Goals as goal

pub returns : goal.returns
returns c = leaves-lead
