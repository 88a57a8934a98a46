-- What a player that imagines a position does in the true one.
use Rattle.std.proofs.Common.{◌≡◌, ◌∙◌, ℕ, ◌<◌, true, false, sym, ap, subst, inl, inr}
use Rattle.pg_player.proofs.Common.{cond-true, other, Goal, Side, Game, Position, is_free}
use Rattle.pg_player.proofs.Common.{point_count, is_over, after, IsPosition, Forces, free_or_lowest}
use Rattle.pg_game.proofs.Imagining.{Forces-imagined, imagined-going, imagined-move, imagined-reply}
use Rattle.pg_game.proofs.NoWorse.{IsNoWorse-trans}
use Rattle.pg_player.specs.Beside.{IsBeside}

-- the point that stands for w in a position is a legal move there
pub record StandsFor (g : Game) (at : Position) (w : ℕ) : Type 0 where
  pub within : free_or_lowest g at w < point_count g
  pub free : is_free at (free_or_lowest g at w) ≡ true

free-itself : (g : Game) (p : Position) (w : ℕ) → is_free p w ≡ true → free_or_lowest g p w ≡ w
free-itself g p w free = cond-true (is_free p w) _ _ free

stands-itself : (g : Game) (p : Position) (w : ℕ)
    → w < point_count g
    → is_free p w ≡ true
    → StandsFor g p w
stands-itself g p w within free =
    let same = sym (free-itself g p w free) in
    record {
      within = subst (λ v. v < point_count g) same within;
      free = subst (λ v. is_free p v ≡ true) same free;
    }

-- what is beside a position beside p is beside p
pub IsBeside-trans : (g : Game) (side : Side) (a q p : Position)
    → IsBeside g side a q
    → IsBeside g side q p
    → IsBeside g side a p
IsBeside-trans g side a q p (inl same) second =
    subst (λ (r : Position). IsBeside g side r p) (sym same) second
IsBeside-trans g side a q p (inr h) (inl same) =
    subst (λ (r : Position). IsBeside g side a r) same (inr h)
IsBeside-trans g side a q p (inr h) (inr k) = inr (h.0, IsNoWorse-trans side a q p h.1 k.1)

module _ (g : Game) (side : Side) (goal : Goal) (q p : Position) (b : IsBeside g side q p)
    (position : IsPosition g q) (forced : Forces g q side goal) where
  pub beside-turn : q.turn ≡ p.turn
  beside-turn = elim b [ inl same ↦ ap (λ (r : Position). r.turn) same | inr h ↦ sym h.1.turn ]

  pub beside-forces : Forces g p side goal
  beside-forces = elim b [
    | inl same ↦ subst (λ (r : Position). Forces g r side goal) same forced
    | inr h ↦ Forces-imagined g side goal q p h.0 (record {
      position = position;
      no_worse = h.1;
      forced = forced;
    })
  ]

  pub beside-going : is_over g p ≡ false → is_over g q ≡ false
  beside-going going = elim b [
    | inl same ↦ ap (is_over g) same ∙ going
    | inr h ↦ imagined-going g side goal q p h.0 (record {
      position = position;
      no_worse = h.1;
      forced = forced;
    }) going
  ]

  module _ (going : is_over g p ≡ false) where
    -- a move of the side
    pub beside-move : (w : ℕ)
        → p.turn ≡ side
        → w < point_count g
        → is_free q w ≡ true
        → Forces g (after g q w) side goal
        → StandsFor g p w × IsBeside g side (after g q w) (after g p (free_or_lowest g p w))
    beside-move w mine within free next = elim b [
      | inl same ↦
          let here : is_free p w ≡ true = ap (λ (r : Position). is_free r w) (sym same) ∙ free in (
            stands-itself g p w within here,
            inl (ap (λ (r : Position). after g r w) same
                ∙ ap (after g p) (sym (free-itself g p w here))),
          )
      | inr h ↦
          let on = imagined-move g side goal q p h.0 (record {
            position = position;
            no_worse = h.1;
            forced = forced;
          }) w going mine within free next in
          (record { within = on.within; free = on.free }, inr (h.0, on.imagined.no_worse))
    ]

    -- a reply of the other side
    pub beside-reply : (v : ℕ)
        → p.turn ≡ other side
        → v < point_count g
        → is_free p v ≡ true
        → StandsFor g q v × IsBeside g side (after g q (free_or_lowest g q v)) (after g p v)
    beside-reply v yours within free = elim b [
      | inl same ↦
          let here : is_free q v ≡ true = ap (λ (r : Position). is_free r v) same ∙ free in (
            stands-itself g q v within here,
            inl (ap (after g q) (free-itself g q v here) ∙ ap (λ (r : Position). after g r v) same),
          )
      | inr h ↦
          let on = imagined-reply g side goal q p h.0 (record {
            position = position;
            no_worse = h.1;
            forced = forced;
          }) v going yours within free in
          (record { within = on.within; free = on.free }, inr (h.0, on.imagined.no_worse))
    ]
