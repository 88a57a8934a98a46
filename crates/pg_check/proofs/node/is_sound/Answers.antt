use Rattle.pg_check.proofs.SoundNodes.{sound-from_tests}
use Rattle.pg_check.proofs.node.is_sound.Goals as goal

pub returns-clause-sound : goal.returns-clause-sound
returns-clause-sound c = λ on fault.
    sound-from_tests c.args.g.now c.args.claim.now c.args.k c.args.seen.now.node.now
    c.args.seen.now.position.now c.requires.position.same (record {
      owed = c.requires.owed.0 c.if-not-owed.false;
      earlier = c.names_earlier.ensures.0 c.if-not-names_earlier.false;
      moves = c.moves_right.ensures.moves c.if-not-moves_right.false;
      stands = c.stands_right.ensures.stands c.if-not-stands_right.false;
      root = c.is_root.ensures.0 on;
    }) fault
