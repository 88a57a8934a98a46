-- Nodes made of places.
use Rattle.std.proofs.Common.{◌≡◌, ◌≢◌, ◌∙◌, ℕ, ◌+◌, ◌-◌, ◌<◌, ◌≤◌, Bool, true, ◌&&◌, List, [], ◌∷◌}
use Rattle.std.proofs.Common.{◌++◌, suc, length, map, nat_le, inl, inr, refl, ap, arith, get_or}
use Rattle.std.proofs.Common.{sym, subst}
use Rattle.std.proofs.lemmas.Bool.{and_parts, cases_eq}
use Rattle.std.proofs.lemmas.Bool.Decides.{nat_tests}
use Rattle.std.proofs.lemmas.List.{get_or-map, get_or_append_left, get_or_default, length-append}
use Rattle.std.proofs.lemmas.List.{length-map}
use Rattle.std.proofs.lemmas.List.Elements.{All-map}
use Rattle.std.proofs.Math.Seq.{get_or-append_seam}
use Rattle.std.specs.List.{All, AllPairs}
use Rattle.pg_base.specs.declared.kind.Kind.{Kind}
use Rattle.pg_base.specs.declared.kind.Kind.TheVariants.{AvoiderEnforcer, MakerBreaker, MakerMaker}
use Rattle.pg_base.specs.declared.kind.Kind.TheVariants.{Switching}
use Rattle.pg_base.specs.declared.side.Side.TheVariants.{X, Y}
use Rattle.pg_game.proofs.Limits.{point_count-le}
use Rattle.pg_game.specs.Fit.{greatest_bias}
use Rattle.pg_game.specs.Game.{bias_of}
use Rattle.pg_play_tree.specs.Prelude.{Cert, Game, IsPosition, IsTurn, Node, Position, Reply, Side}
use Rattle.pg_play_tree.specs.Prelude.{ascend_from, point_count, position_of}
use Rattle.pg_play_tree.specs.Lines.{AreMet, IsMet}
use Rattle.pg_play_tree.specs.Places.{AreFound, HasPoint, IsInGame, IsMarked, IsMirror, IsNext}
use Rattle.pg_play_tree.specs.Places.{IsPlace}
use Rattle.pg_play_tree.specs.declared.place.Place.{Place}
use Rattle.pg_play_tree.specs.declared.place.Step.{Step}
use Rattle.pg_play_tree.specs.declared.place.Step.TheVariants as steps
use Rattle.pg_play_tree.proofs.Again.{opens_game}
use Rattle.pg_play_tree.proofs.Meeting.{at_place, place_met}

-- ---- replies

rise : (a p : ℕ) (others : Bool) → a ≤ p → others ≡ true → nat_le a p && others ≡ true
rise a p others low e =
    let here : nat_le a p ≡ true = grind (arith, nat_tests, low) in
    rw (here, e) refl

-- a reply to a greater point
pub ascend_push : (a : ℕ) (rs : List Reply) (r : Reply)
    → ascend_from a (map (λ (s : Reply). s.point) rs) ≡ true
    → All (λ (s : Reply). s.point < r.point) rs
    → a ≤ r.point
    → ascend_from a (map (λ (s : Reply). s.point) (rs ++ r ∷ [])) ≡ true
ascend_push a [] r h below low = rise a r.point true low refl
ascend_push a (s ∷ rs) r h below low =
    let parts = and_parts (nat_le a s.point) _ h in
    let first : s.point < r.point = below 0 s (omega arith) in
    let rest = ascend_push (s.point + 1) rs r parts.1
    (λ k d under. below (suc k) d (omega (arith, under))) (omega (arith, first)) in
    rw (parts.0, rest) refl

-- ---- marks

bias_small : (kind : Kind) → greatest_bias kind ≤ 7
bias_small MakerBreaker = omega arith
bias_small MakerMaker = omega arith
bias_small AvoiderEnforcer = omega arith
bias_small Switching = omega arith

-- a file can say a position of a game
pub position_marked : (g : Game) (p : Position) → IsPosition g p → IsMarked p
position_marked g p is = record {
  x = λ v h. let few = point_count-le g in let low = is.x_range v h in omega (arith, few, low);
  y = λ v h. let few = point_count-le g in let low = is.y_range v h in omega (arith, few, low);
  apart = is.disjoint;
  turn = go p.turn is.some_left is.few_left;
}
  where
    go : (turn : Side) → 1 ≤ p.left → p.left ≤ bias_of g turn → IsTurn turn p.left
    go X some few = omega (arith, some, few)
    go Y some few =
        let most = bias_small g.kind in
        (omega (arith, some), omega (arith, few, most, g.fits.few_bias))

-- ---- places in the game

pub place_in : (g : Game) (cert : Cert) (side : Side) (place : Place)
    → IsPlace g cert side place
    → IsInGame g place
place_in g cert side place is = record {
  position = is.fits;
  point = go place.step is.step;
}
  where
    go : (s : Step) → IsNext is.play s → HasPoint g s
    go steps.Over next = tt
    go (steps.Own v) (b, m) =
        subst (λ (h : Game). v < point_count h)
        (opens_game g cert side place.points.items is.play is.opens) m.within
    go steps.Replies next = tt

-- ---- the positions of nodes

node_met : (g : Game) (cert : Cert) (side : Side) (places : List Place) (nodes : List Node)
    (k : ℕ) (d : Node)
    → AreFound g cert side places
    → length nodes ≡ length places
    → IsMirror places nodes
    → k < length nodes
    → IsMet g cert side (position_of (get_or nodes k d))
node_met g cert side [] nodes k d found same mirror low = absurd (omega (arith, same, low))
node_met g cert side (x ∷ xs) nodes k d found same mirror low =
    let i = length (x ∷ xs) - 1 - k in
    subst (λ (p : Position). IsMet g cert side p) (sym (mirror k d x low))
    (place_met g cert side (get_or (x ∷ xs) i x) (found.each i x (omega (arith, same, low))))

differ : (places : List Place) (nodes : List Node) (i j : ℕ) (d : Node)
    → AllPairs (λ (a b : Place). a.position ≢ b.position) places
    → length nodes ≡ length places
    → IsMirror places nodes
    → i < j
    → j < length nodes
    → position_of (get_or nodes i d) ≢ position_of (get_or nodes j d)
differ [] nodes i j d all same mirror low under = absurd (omega (arith, same, under))
differ (x ∷ xs) nodes i j d all same mirror low under = λ e.
    all (length (x ∷ xs) - 1 - j) (length (x ∷ xs) - 1 - i) x (omega (arith, same, low, under))
    (omega (arith, same, low, under))
    (sym (mirror j d x under) ∙ sym e ∙ mirror i d x (omega (arith, low, under)))

different_nodes : (places : List Place) (nodes : List Node)
    → AllPairs (λ (a b : Place). a.position ≢ b.position) places
    → length nodes ≡ length places
    → IsMirror places nodes
    → AllPairs (λ (p q : Position). p ≢ q) (map position_of nodes)
different_nodes places [] all same mirror = λ i j d low under. absurd (omega (arith, under))
different_nodes places (n ∷ ns) all same mirror = λ i j d low under.
    let size : length (map position_of (n ∷ ns)) ≡ length (n ∷ ns) =
    length-map (n ∷ ns) position_of in
    let right : j < length (n ∷ ns) = omega (arith, under, size) in
    λ e. differ places (n ∷ ns) i j n all same mirror low right
    (sym (get_or-map position_of (n ∷ ns) i n d (omega (arith, low, right)))
    ∙ e
    ∙ get_or-map position_of (n ∷ ns) j n d right)

-- lines of play come to the positions of the nodes, which differ
pub nodes_met : (g : Game) (cert : Cert) (side : Side) (places : List Place) (nodes : List Node)
    → AreFound g cert side places
    → length nodes ≡ length places
    → IsMirror places nodes
    → AreMet g cert side (map position_of nodes)
nodes_met g cert side places nodes found same mirror = record {
  met = All-map (IsMet g cert side) position_of nodes
      (λ k d low. node_met g cert side places nodes k d found same mirror low);
  different = different_nodes places nodes found.different same mirror;
}

-- one node more, of the place before
pub mirror_push : (places : List Place) (nodes : List Node) (node : Node) (k : ℕ) (p : Place)
    → IsMirror places nodes
    → length nodes ≡ k
    → k < length places
    → p ≡ get_or places (length places - 1 - k) p
    → position_of node ≡ p.position
    → IsMirror places (nodes ++ node ∷ [])
mirror_push places nodes node k p mirror count low is at = λ j d e under.
    let size = length-append nodes (node ∷ []) in
    elim (cases_eq j k) [
      | inl same ↦
          let there : get_or (nodes ++ node ∷ []) (length nodes) d ≡ node =
          get_or-append_seam nodes node [] d in
          let here : j ≡ length nodes = same ∙ sym count in
          ap (λ (n : ℕ). position_of (get_or (nodes ++ node ∷ []) n d)) here
          ∙ ap position_of there
          ∙ at
          ∙ ap at_place is
          ∙ ap at_place (get_or_default places (length places - 1 - k) p e (omega (arith, low)))
          ∙ ap (λ (n : ℕ). (get_or places (length places - 1 - n) e).position) (sym same)
      | inr other ↦
          let below : j < length nodes = omega (arith, under, size, count, other) in
          ap position_of (get_or_append_left nodes (node ∷ []) d j below) ∙ mirror j d e below
    ]

-- places that were found are in the game
pub places_in : (g : Game) (cert : Cert) (side : Side) (places : List Place)
    → AreFound g cert side places
    → All (IsInGame g) places
places_in g cert side places found =
    λ k d low. place_in g cert side (get_or places k d) (found.each k d low)
