-- A player's own moves in a connectivity game: by trees as Short's in the switching game, and by
-- parts.
use Rattle.std.specs.Prelude.{ℕ, List, ◌&&◌, Option, Some, None, find, unwrap_or, slice_index}
use Rattle.pg_span.specs.Prelude.{range_with_len, Graph, edge_count, first_end_of, second_end_of}
use Rattle.pg_span.specs.Prelude.{Position, is_free, lowest_free_edge, trees_answer, crosses}
use Rattle.pg_span.specs.declared.cert.SpanBody.{SpanBody}
use Rattle.pg_span.specs.declared.cert.SpanBody.TheVariants.{Trees, Parts}

-- the claimed edge, and the plan that is left
pub record SpanMove : Type 0 where
  pub edge : ℕ
  pub plan : SpanBody

-- the lowest free edge whose ends have different numbers, else the lowest free edge
abbrev pub parts_edge : Graph → Position → List ℕ → ℕ
parts_edge h p numbers = unwrap_or
    (find (λ f. is_free p f && crosses (first_end_of h) (second_end_of h) (slice_index numbers) f)
    (range_with_len 0 (edge_count h))) (lowest_free_edge h p)

-- The own move after the last reply, where there was one. By trees it is the first edge, where one
-- is named; else it is the lowest edge of the other set with exactly one end joined to the reply's
-- first end by X's edges and the reply's set, and the lowest free edge where the reply was in no
-- set. The reply and the edge leave the sets.
unfoldable pub span_move : Graph → Position → SpanBody → Option ℕ → SpanMove
span_move h p (Trees (Some v) a1 a2) last = record { edge = v; plan = Trees None a1 a2 }
span_move h p (Trees None a1 a2) last =
    let t = trees_answer h p a1 a2 last in
    record { edge = t.edge; plan = Trees None t.first t.second }
span_move h p (Parts numbers) last = record { edge = parts_edge h p numbers; plan = Parts numbers }
