-- Positions that are equal.
use Rattle.std.proofs.Common.{◌≡◌, Bool, true, ◌&&◌, eqb, refl, subst, rules, eqb-true, eq-eqb}
use Rattle.pg_game.specs.Prelude.{Decides, Side, X, Y}
use Rattle.std.proofs.lemmas.Bool.{and_parts, and_from}
use denote.Enum.Bare.{sameb, same_true}
use Rattle.pg_base.specs.contracts.side.Side.{the_type}
use Rattle.pg_game.specs.declared.position.Position.{Position}
use Rattle.pg_base.specs.PointLemmas.{equal, equal-decides}

same_side_itself : (s : Side) → sameb the_type s s ≡ true
same_side_itself X = refl
same_side_itself Y = refl

-- what `==` of two positions answers
abbrev pub equal_positions : Position → Position → Bool
equal_positions p q =
    equal p.x q.x && (equal p.y q.y && (sameb the_type p.turn q.turn && eqb p.left q.left))

-- positions are equal exactly where they are the same
pub equal_positions-decides : (p q : Position) → Decides (equal_positions p q) (p ≡ q)
equal_positions-decides p q = (
  λ all.
      let first = and_parts _ _ all in
      let second = and_parts _ _ first.1 in
      let third = and_parts _ _ second.1 in
      let x = (equal-decides p.x q.x).0 first.0 in
      let y = (equal-decides p.y q.y).0 second.0 in
      let turn = same_true the_type (search rules) p.turn q.turn third.0 in
      let left = eqb-true p.left q.left third.1 in
      λ i. record { x = x i; y = y i; turn = turn i; left = left i },
  λ same. subst (λ (r : Position). equal_positions p r ≡ true) same
      (and_from _ _ ((equal-decides p.x p.x).1 refl)
      (and_from _ _ ((equal-decides p.y p.y).1 refl)
      (and_from _ _ (same_side_itself p.turn) (eq-eqb p.left p.left refl)))),
)
