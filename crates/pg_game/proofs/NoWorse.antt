-- In Maker-Breaker a position that is no worse for a side serves it as well: the side imagines the
-- weaker one and plays there.
use Rattle.std.proofs.Common.{◌≡◌, ℕ, ◌<◌, ◌-◌, true, false, nat_lt, if◌then◌else◌, refl, sym, ◌∙◌}
use Rattle.std.proofs.Common.{subst, subst₂, inl, inr, eqb, eqb-true, eq-eqb}
use Rattle.pg_game.proofs.Common.{cases_Bool, and_from, or_cases, or_left, or_right, false≢true}
use Rattle.pg_game.proofs.Common.{both_ways, not_from_false, FinSet, contains, insert, nat_cmp}
use Rattle.pg_game.proofs.Common.{Goal, Win, MakerBreaker, Score, XWins, Draw, YWins, Side, X, Y}
use Rattle.pg_game.proofs.Common.{AreWithin, other, in_insert}
use Rattle.pg_base.specs.declared.goal.Goal.TheVariants.{Draw as AtLeastDraw}
use Rattle.pg_game.specs.declared.game.Game.{Game}
use Rattle.pg_game.specs.declared.position.Position.{Position}
use Rattle.pg_game.specs.Decided.{at_least}
use Rattle.pg_game.specs.Position.{is_free, points_of, claims_in_turn}
use Rattle.pg_game.specs.Game.{point_count, after, is_over}
use Rattle.pg_game.specs.Value.{reaches, Forces, value}
use Rattle.pg_game.specs.Strategy.{Keeps}
use Rattle.pg_game.proofs.Strategy.{Forces-from_keeps, free_point}
use Rattle.pg_game.proofs.Moves.{free-of, points_of-mover, points_of-waiter}
use Rattle.pg_game.proofs.Sides.{other_other}
use Rattle.pg_game.proofs.ValueLaws.{Forces-move-from, Forces-all-from}
use Rattle.pg_game.specs.Weaker.{IsNoWorse}
use Rattle.pg_game.proofs.Endings.{ends-no_worse, going-weaker}

-- ---- the relation

pub IsNoWorse-refl : (side : Side) (p : Position) → IsNoWorse side p p
IsNoWorse-refl side p = record { own = λ v h. h; theirs = λ v h. h; turn = refl; left = refl }

pub IsNoWorse-trans : (side : Side) (a b c : Position)
    → IsNoWorse side a b
    → IsNoWorse side b c
    → IsNoWorse side a c
IsNoWorse-trans side a b c h k = record {
  own = λ v on. k.own v (h.own v on);
  theirs = λ v on. h.theirs v (k.theirs v on);
  turn = k.turn ∙ h.turn;
  left = k.left ∙ h.left;
}

-- ---- one move in both positions

free-from : (p : Position) (side : Side) (v : ℕ)
    → contains (points_of p side) v ≡ false
    → contains (points_of p (other side)) v ≡ false
    → is_free p v ≡ true
free-from p X v own theirs = and_from _ _ (not_from_false _ own) (not_from_false _ theirs)
free-from p Y v own theirs = and_from _ _ (not_from_false _ theirs) (not_from_false _ own)

within-more : (s t : FinSet nat_cmp) (v w : ℕ)
    → AreWithin s t
    → contains (insert t w) v ≡ true
    → AreWithin (insert s v) (insert t w)
within-more s t v w within on q h = elim (or_cases (eqb q v) _ (sym (in_insert s v q) ∙ h)) [
  | inl same ↦ subst (λ (r : ℕ). contains (insert t w) r ≡ true) (sym (eqb-true q v same)) on
  | inr old ↦ in_insert t w q ∙ or_right (eqb q w) _ (within q old)
]

in-insert_same : (s : FinSet nat_cmp) (v : ℕ) → contains (insert s v) v ≡ true
in-insert_same s v = in_insert s v v ∙ or_left (eqb v v) _ (eq-eqb v v refl)

in-insert_old : (s : FinSet nat_cmp) (v q : ℕ)
    → contains s q ≡ true
    → contains (insert s v) q ≡ true
in-insert_old s v q h = in_insert s v q ∙ or_right (eqb q v) _ h

-- the turns of the two positions, and what is left of them, stay the same
turn_same : (g : Game) (q p : Position) (v w : ℕ)
    → p.turn ≡ q.turn
    → p.left ≡ q.left
    → (after g p v).turn ≡ (after g q w).turn
turn_same g q p v w turn left = λ i. if nat_lt 1 (left i) then turn i else other (turn i)

left_same : (g : Game) (q p : Position) (v w : ℕ)
    → p.turn ≡ q.turn
    → p.left ≡ q.left
    → (after g p v).left ≡ (after g q w).left
left_same g q p v w turn left =
    λ i. if nat_lt 1 (left i) then left i - 1 else claims_in_turn g.bias (other (turn i))

-- the side takes w in the weaker position, and in the other the same point where it is free, else
-- any
pub own-no_worse : (g : Game) (q p : Position) (side : Side) (w v : ℕ)
    → IsNoWorse side q p
    → p.turn ≡ side
    → is_free q w ≡ true
    → (is_free p w ≡ true → v ≡ w)
    → IsNoWorse side (after g q w) (after g p v)
own-no_worse g q p side w v h mine free chosen = record {
  own = subst₂ AreWithin (sym (points_of-mover g q side w (sym h.turn ∙ mine)))
      (sym (points_of-mover g p side v mine))
      (within-more (points_of q side) (points_of p side) w v h.own now);
  theirs =
      subst₂ AreWithin (sym (points_of-waiter g p (other side) v (mine ∙ sym (other_other side))))
      (sym (points_of-waiter g q (other side) w (sym h.turn ∙ mine ∙ sym (other_other side))))
      h.theirs;
  turn = turn_same g q p v w h.turn h.left;
  left = left_same g q p v w h.turn h.left;
}
  where
    now : contains (insert (points_of p side) v) w ≡ true
    now = elim (cases_Bool (contains (points_of p side) w)) [
      | inl had ↦ in-insert_old (points_of p side) v w had
      | inr lacked ↦
          let none : contains (points_of p (other side)) w ≡ false =
          elim (cases_Bool (contains (points_of p (other side)) w)) [
            | inl theirs ↦ absurd (both_ways _ (free-of q (other side) w free) (h.theirs w theirs))
            | inr off ↦ off
          ] in
          let same = chosen (free-from p side w lacked none) in
          subst (λ (r : ℕ). contains (insert (points_of p side) r) w ≡ true) (sym same)
          (in-insert_same (points_of p side) w)
    ]

-- the other side takes v, and the side imagines the same point where it is free in the weaker
-- position, else any
pub reply-no_worse : (g : Game) (q p : Position) (side : Side) (w v : ℕ)
    → IsNoWorse side q p
    → p.turn ≡ other side
    → is_free p v ≡ true
    → (is_free q v ≡ true → w ≡ v)
    → IsNoWorse side (after g q w) (after g p v)
reply-no_worse g q p side w v h yours free chosen = record {
  own = subst₂ AreWithin (sym (points_of-waiter g q side w (sym h.turn ∙ yours)))
      (sym (points_of-waiter g p side v yours)) h.own;
  theirs = subst₂ AreWithin (sym (points_of-mover g p (other side) v yours))
      (sym (points_of-mover g q (other side) w (sym h.turn ∙ yours)))
      (within-more (points_of p (other side)) (points_of q (other side)) v w h.theirs now);
  turn = turn_same g q p v w h.turn h.left;
  left = left_same g q p v w h.turn h.left;
}
  where
    now : contains (insert (points_of q (other side)) w) v ≡ true
    now = elim (cases_Bool (contains (points_of q (other side)) v)) [
      | inl had ↦ in-insert_old (points_of q (other side)) w v had
      | inr lacked ↦
          let none : contains (points_of q side) v ≡ false =
          elim (cases_Bool (contains (points_of q side) v)) [
            | inl own ↦ absurd (both_ways _ (free-of p side v free) (h.own v own))
            | inr off ↦ off
          ] in
          let same = chosen (free-from q side v none lacked) in
          subst (λ (r : ℕ). contains (insert (points_of q (other side)) r) v ≡ true) (sym same)
          (in-insert_same (points_of q (other side)) v)
    ]

-- ---- the law

-- a weaker position from which the goal is forced: what the side imagines
record Weaker (g : Game) (side : Side) (goal : Goal) (p : Position) : Type 0 where
  pub position : Position
  pub no_worse : IsNoWorse side position p
  pub forced : Forces g position side goal

-- the point where it is free, else some free point
free_choice : (g : Game) (p : Position) (w : ℕ)
    → is_over g p ≡ false
    → w < point_count g
    → (v : ℕ) × (v < point_count g) × (is_free p v ≡ true) × (is_free p w ≡ true → v ≡ w)
free_choice g p w going within = elim (cases_Bool (is_free p w)) [
  | inl free ↦ (w, within, free, λ _. refl)
  | inr taken ↦
      let any = free_point g p going in
      (any.0, any.1, any.2, λ free. absurd (both_ways _ taken free))
]

Keeps-weaker : (g : Game) (side : Side) (goal : Goal)
    → g.kind ≡ MakerBreaker
    → Keeps g side goal (Weaker g side goal)
Keeps-weaker g side goal kind = record {
  ends = λ p h over. ends-no_worse g h.position p side goal kind h.no_worse h.forced over;
  own = λ p h going mine.
      let q = h.position in
      let on = going-weaker g q p side goal kind h.no_worse h.forced going in
      let move = Forces-move-from g q side goal on (sym h.no_worse.turn ∙ mine) h.forced in
      let choice = free_choice g p move.0 going move.1 in (
        choice.0,
        choice.1,
        choice.2,
        record {
          position = after g q move.0;
          no_worse = own-no_worse g q p side move.0 choice.0 h.no_worse mine move.2 choice.3;
          forced = move.3;
        },
      );
  theirs = λ p h going yours v within free.
      let q = h.position in
      let on = going-weaker g q p side goal kind h.no_worse h.forced going in
      let choice = free_choice g q v on within in
      record {
        position = after g q choice.0;
        no_worse = reply-no_worse g q p side choice.0 v h.no_worse yours free choice.3;
        forced = Forces-all-from g q side goal on
            (sym h.no_worse.turn ∙ yours) h.forced choice.0 choice.1 choice.2;
      };
}

-- what a side forces from a position it forces from every position that is no worse for it
pub Forces-no_worse : (g : Game) (q p : Position) (side : Side) (goal : Goal)
    → g.kind ≡ MakerBreaker
    → IsNoWorse side q p
    → Forces g q side goal
    → Forces g p side goal
Forces-no_worse g q p side goal kind h forced =
    Forces-from_keeps g side goal (Keeps-weaker g side goal kind) p (record {
      position = q;
      no_worse = h;
      forced = forced;
    })

-- ---- the value

-- a score that reaches all goals of X that another reaches is at least as great
at_least-x : (s t : Score)
    → ((goal : Goal) → reaches X goal s ≡ true → reaches X goal t ≡ true)
    → at_least s t ≡ true
at_least-x YWins t h = refl
at_least-x Draw YWins h = absurd (false≢true (h AtLeastDraw refl))
at_least-x Draw Draw h = refl
at_least-x Draw XWins h = refl
at_least-x XWins XWins h = refl
at_least-x XWins Draw h = absurd (false≢true (h Win refl))
at_least-x XWins YWins h = absurd (false≢true (h Win refl))

-- and one that reaches all goals of Y is at most as great
at_least-y : (s t : Score)
    → ((goal : Goal) → reaches Y goal t ≡ true → reaches Y goal s ≡ true)
    → at_least s t ≡ true
at_least-y YWins t h = refl
at_least-y Draw YWins h = absurd (false≢true (h Win refl))
at_least-y Draw Draw h = refl
at_least-y Draw XWins h = refl
at_least-y XWins XWins h = refl
at_least-y XWins Draw h = absurd (false≢true (h AtLeastDraw refl))
at_least-y XWins YWins h = absurd (false≢true (h Win refl))

pub value-no_worse_x : (g : Game) (q p : Position)
    → g.kind ≡ MakerBreaker
    → IsNoWorse X q p
    → at_least (value g q) (value g p) ≡ true
value-no_worse_x g q p kind h =
    at_least-x (value g q) (value g p) (λ goal. Forces-no_worse g q p X goal kind h)

pub value-no_worse_y : (g : Game) (q p : Position)
    → g.kind ≡ MakerBreaker
    → IsNoWorse Y q p
    → at_least (value g p) (value g q) ≡ true
value-no_worse_y g q p kind h =
    at_least-y (value g p) (value g q) (λ goal. Forces-no_worse g q p Y goal kind h)
