-- Positions as keys of a table: which are equal, and what is hashed of one.
use Rattle.std.specs.Prelude.{◌≡◌, ℕ, true, List, ◌++◌}
use Rattle.std.proofs.Common.{ap}
use Rattle.pg_base.specs.Prelude.{IsEquivalence, IsPartialEquivalence, decided}
use Rattle.pg_base.specs.Prelude.{partial_equiv_from_equiv}
use Rattle.pg_game.specs.PositionLemmas.{equal_positions, equal_positions-decides}
use Rattle.pg_game.specs.declared.position.Position.{Position}
use Rattle.pg_leaf.specs.SmallSets.{hash_input as set_hash_input}

pub equal_positions-equivalence : IsEquivalence equal_positions
equal_positions-equivalence = decided equal_positions equal_positions-decides

pub equal_positions-partial : IsPartialEquivalence equal_positions
equal_positions-partial = partial_equiv_from_equiv equal_positions-equivalence

-- the points of both sides
abbrev pub hash_input : Position → List (List ℕ)
hash_input p = set_hash_input p.x ++ set_hash_input p.y

pub hash_input-respects : (p q : Position)
    → equal_positions p q ≡ true
    → hash_input p ≡ hash_input q
hash_input-respects p q h = ap hash_input ((equal_positions-decides p q).0 h)
