use Rattle.pg_poly.proofs.Listing.{are_placements}
use Rattle.pg_poly.proofs.laws.placements_are_listed.Goals as goal

pub returns : goal.returns
returns c = are_placements
