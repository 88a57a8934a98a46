use Rattle.std.proofs.Common.{get_or}
use Rattle.pg_unfold.proofs.ClaimSteps.{AreEarlier-sound}
use Rattle.pg_fold.proofs.Staying.{certificate-flawless}
use Rattle.pg_fold.proofs.symmetry.fold_by_symmetry.Goals as goal

pub has_room-requires-clause-earlier : goal.has_room-requires-clause-earlier
has_room-requires-clause-earlier c =
    let sound = certificate-flawless c.args.g.now c.args.c.now c.in_ok-folded.folded
    c.requires.limits c.requires.valid c.in_ok-folded.ensures.folded in
    λ k d lt. AreEarlier-sound c.args.g.now (get_or c.in_ok-folded.folded.claims k d) (sound k d lt)
