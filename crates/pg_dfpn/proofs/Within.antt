-- Bodies, nodes and claims within the limits of the format.
use Rattle.std.proofs.Common.{◌≡◌, ◌<◌, ◌≤◌, ◌+◌, ℕ, Bool, true, false, List, [], ◌∷◌, ◌++◌, length}
use Rattle.std.proofs.Common.{map, ap, refl, sym, subst, ◌∙◌, arith, Option, Some, None, Result, Ok}
use Rattle.std.proofs.Common.{Err, IfOk, IsTrue, OnErr, cond, inl, inr, is_some, ◌↔◌}
use Rattle.std.proofs.lemmas.Bool.{both_ways, cases_lt}
use Rattle.std.proofs.lemmas.List.{length_push}
use Rattle.std.proofs.lemmas.List.Elements.{All-push, All-weaker}
use Rattle.pg_base.specs.declared.pair.Pair.{Pair}
use Rattle.pg_base.specs.declared.side.Side.{Side}
use Rattle.pg_base.specs.declared.side.Side.TheVariants.{X, Y}
use Rattle.pg_text.specs.Text.{ascend_from}
use Rattle.pg_game.proofs.Limits.{point_count-le}
use Rattle.pg_game.proofs.WeightBounds.{bias-le}
use Rattle.pg_game.specs.Game.{bias_of}
use Rattle.pg_game.specs.Pairs.{PairsHold, IsInGame}
use Rattle.pg_cert.specs.Limits.{IsPair, IsTurn}
use Rattle.pg_cert.specs.declared.node.Body.TheVariants.{All as AllReplies, Pairs}
use Rattle.pg_dfpn.specs.Prelude.{All, Body, Claim, Game, IsNode, IsPosition, IsReply}
use Rattle.pg_dfpn.specs.Prelude.{Node, One, Position, Reply, Score, claimed_goal}
use Rattle.pg_dfpn.specs.Prelude.{claimer, free_points, has_body, is_free, point_count}
use Rattle.pg_dfpn.specs.Drafted.{AreFit, IsPlainBody}
use Rattle.pg_dfpn.specs.Settled.{IsClaimFor}
use Rattle.pg_dfpn.proofs.Replying.{ascend-filter}

-- ---- bodies

pub pairs-plain : (g : Game) (p : Position) (side : Side) (pairs list : List Pair)
    → PairsHold g p side pairs
    → list ≡ pairs
    → IsPlainBody (Pairs list)
pairs-plain g p side pairs list h same =
    let few = point_count-le g in
    subst (λ (ps : List Pair). IsPlainBody (Pairs ps)) (sym same) (record {
      range = All-weaker (IsInGame g) IsPair
          (λ s inside. (omega (arith, inside.0, few), omega (arith, inside.1, few)))
          pairs h.apart.range;
      version = refl;
    })

pub replies-plain : (g : Game) (p : Position) (replies list : List Reply)
    → map (λ (r : Reply). r.point) replies ≡ free_points g p
    → All IsReply replies
    → list ≡ replies
    → IsPlainBody (AllReplies list)
unfolding free_points
replies-plain g p replies list points numbers same =
    subst (λ (rs : List Reply). IsPlainBody (AllReplies rs)) (sym same) (record {
      range = (
        numbers,
        ap (ascend_from 0) points
            ∙ ascend-filter (is_free p) 0 0 (point_count g) (omega arith),
      );
      version = refl;
    })

-- ---- nodes

-- a side claims no more points than in a whole turn
turn-within : (g : Game) (turn : Side) (left : ℕ) → 1 ≤ left → left ≤ bias_of g turn
    → IsTurn turn left
turn-within g X left some few = omega (arith, some, few)
turn-within g Y left some few =
    let most = bias-le g in
    (omega (arith, some), omega (arith, few, most))

node-within : (g : Game) (p : Position) (body : Body)
    → IsPosition g p
    → IsPlainBody body
    → IsNode (record { x = p.x; y = p.y; turn = p.turn; left = p.left; body = body })
node-within g p body at plain =
    let few = point_count-le g in
    record {
      x = λ v in_x. let r = at.x_range v in_x in omega (arith, r, few);
      y = λ v in_y. let r = at.y_range v in_y in omega (arith, r, few);
      apart = at.disjoint;
      turn = turn-within g p.turn p.left at.some_left at.few_left;
      body = plain.range;
    }

pub fit-push : (g : Game) (p : Position) (body : Body) (old new : List Node)
    → IsPosition g p
    → IsPlainBody body
    → length old < 100000
    → new ≡ old ++ record { x = p.x; y = p.y; turn = p.turn; left = p.left; body = body } ∷ []
    → AreFit old
    → AreFit new
fit-push g p body old new at plain room pushed h =
    let node : Node = record { x = p.x; y = p.y; turn = p.turn; left = p.left; body = body } in
    subst AreFit (sym pushed) (record {
      few = let more = length_push old node in omega (arith, more, room);
      each = All-push IsNode old node h.each (node-within g p body at plain);
      version =
          All-push (λ (n : Node). has_body One n.body ≡ true) old node h.version plain.version;
    })

-- ---- claims

pub claim-for : (g : Game) (t : Score) (answer : Bool) (c : Claim)
    → c.turn ≡ g.turn
    → c.side ≡ claimer answer
    → c.goal ≡ claimed_goal g.kind t answer
    → 0 < length c.nodes
    → AreFit c.nodes
    → IsClaimFor g t answer c
claim-for g t answer c turn side goal some fit = record {
  turn = turn;
  side = side;
  goal = goal;
  limits = record { some = some; few = fit.few; nodes = fit.each };
  version = fit.version;
}
