-- What a player keeps of its fields.
use Rattle.std.specs.Prelude.{◌≡◌, ℕ, Option}
use Rattle.pg_span.specs.Prelude.{Score, Side, Position, ending_by, IsDue}
use Rattle.pg_span.specs.declared.cert.SpanBody.{SpanBody}
use Rattle.pg_span.specs.declared.game.SpanGame.{SpanGame}
use Rattle.pg_span.specs.declared.judge.SpanJudge.{SpanJudge}
use Rattle.pg_span.specs.Judge.{IsJudgeOf}
use Rattle.pg_span.specs.Player.{span_start, IsOnSpanPlan}
use Rattle.pg_span.specs.Game.{span_rules_of}
use Rattle.pg_span.specs.Valid.{IsBodyAt}

-- it is on its plan, knows the outcome, and has a judge of the game
pub record IsSpanPlaying (g : SpanGame) (side : Side) (p : Position) (plan : SpanBody)
    (ending : Option Score) (judge : SpanJudge) : Type 0 where
  pub on : IsOnSpanPlan g side p plan
  pub known : ending ≡ ending_by (span_rules_of g) p
  pub judged : IsJudgeOf judge g

-- the side is to move in a game that goes on
abbrev pub IsSpanDue : SpanGame → Side → Position → SpanBody → Option ℕ → Type 0
IsSpanDue g side p plan last =
    IsDue (span_rules_of g) (span_start g) (λ q. IsBodyAt g q side plan) side p last
