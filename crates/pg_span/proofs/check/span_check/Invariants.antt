use Rattle.std.proofs.Common.{◌≡◌, ◌<◌, ℕ, Some}
use Rattle.std.specs.Prelude.{slice_get}
use Rattle.pg_span.specs.declared.cert.SpanClaim.{SpanClaim}
use Rattle.pg_span.specs.Judge.{IsJudgeOf}
use Rattle.pg_span.specs.Valid.{IsSpanClaimValid}
use Rattle.pg_span.proofs.check.span_check.Given as goal

abbrev pub invariant-loop-k : goal.invariant-loop-k
invariant-loop-k l = IsJudgeOf l.judge l.g
    × ((i : ℕ) (c : SpanClaim) → i < l.k → slice_get l.claims i ≡ Some c → IsSpanClaimValid l.g c)
