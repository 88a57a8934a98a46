use Rattle.pg_leaf.proofs.criteria.leaf.Goals as goal

pub leaf_with-requires-clause-stands : goal.leaf_with-requires-clause-stands
leaf_with-requires-clause-stands c = record {
  game = c.requires.stands.game;
  position = c.requires.stands.position;
  known = tt;
}
