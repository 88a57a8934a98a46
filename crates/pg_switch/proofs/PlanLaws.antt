-- What the plans' answers keep.
use Rattle.std.proofs.Common.{◌≡◌, ℕ, ◌<◌, Option, sym, ap, ◌∙◌, subst, subst₂, arith, true}
use Rattle.pg_switch.proofs.Common.{FinSet, remove, nat_cmp, Side, X, Y, Graph}
use Rattle.pg_switch.proofs.Common.{edge_count, spans_in, Field, Game, Position, field_points}
use Rattle.pg_switch.proofs.Common.{point_count, after, is_free, Answered, claimed, IsFreeEdge}
use Rattle.pg_switch.proofs.Common.{answered_edge, short_edge, cut_edge, trees_answer, cuts_answer}
use Rattle.pg_game.specs.declared.field.Field.TheVariants.{Graph as OnGraph}
use Rattle.pg_switch.specs.Replies.{IsSwitchingTurn, HeldUntil, LeavesHeld, IsTreesAnswer}
use Rattle.pg_switch.specs.Replies.{IsCutsAnswer}
use Rattle.pg_switch.proofs.LostElement.{AreDue, IsAnswer, StandBy, held_by, grown_by}
use Rattle.pg_switch.proofs.AnswerLaws.{edge_by, SetsHoldOn, edge-kept, sets-hold, sets-due}
use Rattle.pg_switch.proofs.AnswerLaws.{some_free, left-without_e}

-- a plan's answer is a free edge
pub record IsClaim (g : Game) (p : Position) (y : ℕ) : Type 0 where
  pub few : y < 1024
  pub within : y < point_count g
  pub free : is_free p y ≡ true

claim-from : (g : Game) (h : Graph) (p : Position) (y : ℕ)
    → g.field ≡ OnGraph h
    → IsFreeEdge h p y
    → IsClaim g p y
claim-from g h p y on free =
    let low = free.0 in
    let few = (g.fits.within.on_graph h on).few_edges in
    record {
      few = omega arith;
      within = subst (λ (n : ℕ). y < n) (sym (ap field_points on)) low;
      free = free.1;
    }

answer-record : (a1 a2 f s : FinSet nat_cmp) (x y z : ℕ)
    → y ≡ z
    → f ≡ remove (remove a1 x) y
    → s ≡ remove (remove a2 x) y
    → ◌≡◌ {A = Answered} (record { edge = y; first = f; second = s }) (claimed z x a1 a2)
answer-record a1 a2 f s x y z e is_f is_s = ap (λ (q : FinSet nat_cmp). record {
  edge = y;
  first = q;
  second = s;
}) is_f
    ∙ ap (λ (q : FinSet nat_cmp). record {
      edge = y;
      first = remove (remove a1 x) y;
      second = q;
    }) is_s
    ∙ ap (λ (w : ℕ). claimed w x a1 a2) e

abbrev pub IsAnswerOf : Side
    → Field
    → Position
    → FinSet nat_cmp
    → FinSet nat_cmp
    → Option ℕ
    → Answered
    → Type 0
IsAnswerOf X field p a1 a2 last answer = IsTreesAnswer field p a1 a2 last answer
IsAnswerOf Y field p a1 a2 last answer = IsCutsAnswer field p a1 a2 last answer

pub plan-rule : (side : Side) (field : Field) (h : Graph) (p : Position)
    (a1 a2 f s : FinSet nat_cmp) (last : Option ℕ) (x y : ℕ)
    → field ≡ OnGraph h
    → x ≡ answered_edge h last
    → y ≡ edge_by side h p a1 a2 x
    → f ≡ remove (remove a1 x) y
    → s ≡ remove (remove a2 x) y
    → IsAnswerOf side field p a1 a2 last (record { edge = y; first = f; second = s })
unfolding trees_answer cuts_answer
plan-rule X field h p a1 a2 f s last x y on is_x is_y is_f is_s =
    subst (λ (q : Field). IsTreesAnswer q p a1 a2 last (record {
      edge = y;
      first = f;
      second = s;
    })) (sym on) (answer-record a1 a2 f s x y (short_edge h p a1 a2 x) is_y is_f is_s
    ∙ ap (λ (w : ℕ). claimed (short_edge h p a1 a2 w) w a1 a2) is_x)
plan-rule Y field h p a1 a2 f s last x y on is_x is_y is_f is_s =
    subst (λ (q : Field). IsCutsAnswer q p a1 a2 last (record {
      edge = y;
      first = f;
      second = s;
    })) (sym on) (answer-record a1 a2 f s x y (cut_edge h p a1 a2 x) is_y is_f is_s
    ∙ ap (λ (w : ℕ). claimed (cut_edge h p a1 a2 w) w a1 a2) is_x)

module _ (side : Side) (g : Game) (h : Graph) (p : Position) (a1 a2 : FinSet nat_cmp)
    (last : Option ℕ) (x y : ℕ) (on : g.field ≡ OnGraph h) (turn : IsSwitchingTurn g p side)
    (held : HeldUntil g p (λ q. SetsHoldOn side g.field q a1 a2) last)
    (is_x : x ≡ answered_edge h last) (is_y : y ≡ edge_by side h p a1 a2 x) where
  due : AreDue (spans_in h) (edge_count h) side p a1 a2 x
  due = subst (λ (w : ℕ). AreDue (spans_in h) (edge_count h) side p a1 a2 w) (sym is_x)
      (sets-due side g h p a1 a2 last on turn.position turn.turn held)

  kept : IsAnswer (edge_count h) (grown_by side) (StandBy (spans_in h) (edge_count h) side) p
      (held_by (edge_count h) side p) x a1 a2 y
  kept =
      let z = some_free g h p on turn.going in
      subst (λ (w : ℕ). IsAnswer (edge_count h) (grown_by side)
      (StandBy (spans_in h) (edge_count h) side) p (held_by (edge_count h) side p) x a1 a2 w)
      (sym is_y) (edge-kept side h p a1 a2 x z.0
      (λ v k. subst (λ (n : ℕ). v < n) (ap field_points on) (turn.position.x_range v k)) due z.1)

  pub plan-claim : IsClaim g p y
  plan-claim = claim-from g h p y on kept.free

  pub plan-leaves : (f s : FinSet nat_cmp)
      → f ≡ remove (remove a1 x) y
      → s ≡ remove (remove a2 x) y
      → LeavesHeld g p (λ q. SetsHoldOn side g.field q f s) y f
  plan-leaves f s is_f is_s = record {
    within = plan-claim.within;
    free = plan-claim.free;
    holds = subst₂ (λ (a b : FinSet nat_cmp). SetsHoldOn side g.field (after g p y) a b) (sym is_f)
        (sym is_s) (sets-hold side g h p a1 a2 x y on turn.turn due kept);
    without_e = left-without_e g h p a1 a2 f x y on due.left is_f;
  }
