-- One step of a side that imagines a weaker position: its own move, a reply, and a position that is
-- weaker still.
use Rattle.std.proofs.Common.{◌≡◌, ℕ, ◌<◌, true, false, List, [], ◌∷◌, unwrap_or, find, refl, sym}
use Rattle.std.proofs.Common.{ap, ◌∙◌, subst, inl, inr}
use Rattle.pg_game.proofs.Common.{cases_Bool, false≢true, both_ways, list_any, Contains, Goal}
use Rattle.pg_game.proofs.Common.{MakerBreaker, Side, other}
use Rattle.pg_game.specs.declared.game.Game.{Game}
use Rattle.pg_game.specs.declared.position.Position.{Position}
use Rattle.pg_game.specs.Position.{is_free}
use Rattle.pg_game.specs.Game.{point_count, free_points, lowest_free, after, is_over, IsPosition}
use Rattle.pg_game.specs.Value.{Forces}
use Rattle.pg_game.proofs.Strategy.{free_point}
use Rattle.pg_game.proofs.Members.{Contains-head}
use Rattle.pg_game.proofs.FreePoints.{any-free_points}
use Rattle.pg_game.proofs.Greatest.{member-free, member-within}
use Rattle.pg_game.proofs.Moves.{IsPosition-after}
use Rattle.pg_game.proofs.ValueLaws.{Forces-all-from}
use Rattle.pg_game.specs.Weaker.{IsNoWorse, IsImagined, MovesOn, RepliesOn, free_or_lowest}
use Rattle.pg_game.proofs.Endings.{going-weaker}
use Rattle.pg_game.proofs.NoWorse.{Forces-no_worse, own-no_worse, reply-no_worse, IsNoWorse-trans}

-- ---- the point where it is free, else the lowest free point

record IsChoice (g : Game) (p : Position) (w v : ℕ) : Type 0 where
  pub within : v < point_count g
  pub free : is_free p v ≡ true
  pub same : is_free p w ≡ true → v ≡ w

lowest_is_free : (g : Game) (p : Position)
    → is_over g p ≡ false
    → (v : ℕ) × (v < point_count g) × (is_free p v ≡ true) × (unwrap_or (lowest_free g p) 0 ≡ v)
lowest_is_free g p going =
    let some = free_point g p going in
    head (free_points g p) refl (any-free_points g p (λ q. true) some.0 some.1 some.2 refl)
  where
    head : (vs : List ℕ)
        → vs ≡ free_points g p
        → list_any (λ q. true) vs ≡ true
        → (v : ℕ) × (v < point_count g) × (is_free p v ≡ true) × (unwrap_or (lowest_free g p) 0 ≡ v)
    head [] is h = absurd (false≢true h)
    head (v ∷ vs) is h =
        let member = subst (λ (us : List ℕ). Contains us v) is (Contains-head v vs) in (
          v,
          member-within g p v member,
          member-free g p v member,
          ap (λ us. unwrap_or (find (λ q. true) us) 0) (sym is),
        )

chosen : (g : Game) (p : Position) (w : ℕ)
    → is_over g p ≡ false
    → w < point_count g
    → IsChoice g p w (free_or_lowest g p w)
chosen g p w going within = elim (cases_Bool (is_free p w)) [
  | inl free ↦ rw free (record { within = within; free = free; same = λ _. refl })
  | inr taken ↦
      let lowest = lowest_is_free g p going in
      rw taken (record {
        within = subst (λ v. v < point_count g) (sym lowest.3) lowest.1;
        free = ap (is_free p) lowest.3 ∙ lowest.2;
        same = λ free. absurd (both_ways (is_free p w) taken free);
      })
]

-- ---- the steps

module _ (g : Game) (side : Side) (goal : Goal) (q p : Position) (kind : g.kind ≡ MakerBreaker)
    (h : IsImagined g side goal q p) where
  -- the goal is forced in the true position too
  pub Forces-imagined : Forces g p side goal
  Forces-imagined = Forces-no_worse g q p side goal kind h.no_worse h.forced

  -- the imagined game goes on while the true one does
  pub imagined-going : is_over g p ≡ false → is_over g q ≡ false
  imagined-going going = going-weaker g q p side goal kind h.no_worse h.forced going

  -- a move that keeps the goal forced in the imagined position
  pub imagined-move : (w : ℕ)
      → is_over g p ≡ false
      → p.turn ≡ side
      → w < point_count g
      → is_free q w ≡ true
      → Forces g (after g q w) side goal
      → MovesOn g side goal q p w (free_or_lowest g p w)
  imagined-move w going mine within free forced =
      let choice = chosen g p w going within in
      record {
        within = choice.within;
        free = choice.free;
        imagined = record {
          position = IsPosition-after g q w h.position within free;
          no_worse =
              own-no_worse g q p side w (free_or_lowest g p w) h.no_worse mine free choice.same;
          forced = forced;
        };
      }

  -- any legal reply of the other side
  pub imagined-reply : (v : ℕ)
      → is_over g p ≡ false
      → p.turn ≡ other side
      → v < point_count g
      → is_free p v ≡ true
      → RepliesOn g side goal q p (free_or_lowest g q v) v
  imagined-reply v going yours within free =
      let on = imagined-going going in
      let choice = chosen g q v on within in
      record {
        within = choice.within;
        free = choice.free;
        imagined = record {
          position =
              IsPosition-after g q (free_or_lowest g q v) h.position choice.within choice.free;
          no_worse =
              reply-no_worse g q p side (free_or_lowest g q v) v h.no_worse yours free choice.same;
          forced = Forces-all-from g q side goal on (sym h.no_worse.turn ∙ yours) h.forced
              (free_or_lowest g q v) choice.within choice.free;
        };
      }

  -- a position that is weaker than what is imagined, and from which the goal is forced, can be
  -- imagined in its place
  pub imagined-weaker : (j : Position)
      → IsPosition g j
      → IsNoWorse side j q
      → Forces g j side goal
      → IsImagined g side goal j p
  imagined-weaker j position weaker forced = record {
    position = position;
    no_worse = IsNoWorse-trans side j q p weaker h.no_worse;
    forced = forced;
  }
