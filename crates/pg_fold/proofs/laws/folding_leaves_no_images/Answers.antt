-- Each pair of plain nodes would have been folded.
use Rattle.pg_fold.proofs.Limits.{plain-apart, all-stay}
use Rattle.pg_fold.proofs.laws.folding_leaves_no_images.Goals as goal

pub returns : goal.returns
returns c = record { apart = plain-apart; stays = all-stay }
