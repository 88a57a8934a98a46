use Rattle.pg_page.proofs.Wholes.{page-inert}
use Rattle.pg_page.proofs.laws.pages_are_inert.Goals as goal

pub returns : goal.returns
returns c = λ p. page-inert p
