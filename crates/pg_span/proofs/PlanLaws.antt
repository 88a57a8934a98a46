-- The moves that the code makes are those of the definitions.
use Rattle.std.proofs.Common.{◌≡◌, ℕ, ◌≤◌, Option, Some, None, inl, inr, sym, ap, ◌∙◌, subst}
use Rattle.std.specs.Prelude.{◌&&◌, List}
use Rattle.pg_span.proofs.Common.{cases_Bool, FinSet, contains, remove, nat_cmp, Graph, edge_count}
use Rattle.pg_span.proofs.Common.{first_end_of, second_end_of, joins_in, Position, differ, with_set}
use Rattle.pg_span.proofs.Common.{answered_edge, short_edge, claimed, trees_answer, Answered}
use Rattle.pg_span.proofs.Common.{short_reply}
use Rattle.pg_switch.proofs.Finding.{free-bound, found-bound}
use Rattle.pg_span.specs.declared.cert.SpanBody.{SpanBody}
use Rattle.pg_span.specs.declared.cert.SpanBody.TheVariants.{Trees, Parts}
use Rattle.pg_span.specs.declared.plan.TreePlan.{TreePlan}
use Rattle.pg_span.specs.Answers.{SpanMove, span_move, parts_edge}
use Rattle.pg_span.specs.Plan.{plan_of}

-- no answer is above the number of edges
reply-bound : (h : Graph) (p : Position) (a1 a2 : FinSet nat_cmp) (x : ℕ)
    → short_reply h p a1 a2 x ≤ edge_count h
reply-bound h p a1 a2 x =
    let set = with_set p (remove a1 x) in
    let u = first_end_of h x in
    found-bound (λ k.
    contains a2 k
    && differ (joins_in h set u (first_end_of h k)) (joins_in h set u (second_end_of h k)))
    (edge_count h) p

pub trees-bound : (h : Graph) (p : Position) (a1 a2 : FinSet nat_cmp) (x : ℕ)
    → short_edge h p a1 a2 x ≤ edge_count h
trees-bound h p a1 a2 x = elim (cases_Bool (contains a1 x)) [
  | inl i ↦ rw i (reply-bound h p a1 a2 x)
  | inr o ↦ elim (cases_Bool (contains a2 x)) [
    | inl i ↦ rw (o, i) (reply-bound h p a2 a1 x)
    | inr o2 ↦ rw (o, o2) (free-bound (edge_count h) p)
  ]
]

pub first-own : (h : Graph) (p : Position) (first : Option ℕ) (a1 a2 : FinSet nat_cmp)
    (last : Option ℕ) (v : ℕ)
    → first ≡ Some v
    → span_move h p (Trees first a1 a2) last ≡ record { edge = v; plan = Trees None a1 a2 }
unfolding span_move
first-own h p first a1 a2 last v is = ap (λ (o : Option ℕ). span_move h p (Trees o a1 a2) last) is

pub trees-own : (h : Graph) (p : Position) (first : Option ℕ) (a1 a2 b1 b2 : FinSet nat_cmp)
    (last : Option ℕ) (x y : ℕ)
    → first ≡ None
    → x ≡ answered_edge h last
    → y ≡ short_edge h p a1 a2 x
    → b1 ≡ remove (remove a1 x) y
    → b2 ≡ remove (remove a2 x) y
    → span_move h p (Trees first a1 a2) last ≡ record { edge = y; plan = Trees None b1 b2 }
unfolding span_move trees_answer
trees-own h p first a1 a2 b1 b2 last x y none is_x is_y is_b1 is_b2 =
    ap (λ (o : Option ℕ). span_move h p (Trees o a1 a2) last) none
    ∙ (ap (λ (w : ℕ). made (claimed (short_edge h p a1 a2 w) w a1 a2)) (sym is_x)
    ∙ (ap (λ (w : ℕ). made (claimed w x a1 a2)) (sym is_y)
    ∙ (ap (λ (s : FinSet nat_cmp). made (record {
      edge = y;
      first = s;
      second = remove (remove a2 x) y;
    })) (sym is_b1)
    ∙ ap (λ (s : FinSet nat_cmp). made (record { edge = y; first = b1; second = s })) (sym is_b2))))
  where
    made : Answered → SpanMove
    made t = record { edge = t.edge; plan = Trees None t.first t.second }

pub parts-own : (h : Graph) (p : Position) (body : SpanBody) (t : TreePlan) (numbers : List ℕ)
    (last : Option ℕ) (y : ℕ)
    → body ≡ Parts numbers
    → y ≡ parts_edge h p numbers
    → span_move h p (plan_of body t) last ≡ record { edge = y; plan = plan_of body t }
unfolding span_move
parts-own h p body t numbers last y is is_y =
    subst (λ (b : SpanBody). span_move h p (plan_of b t) last ≡ record {
      edge = y;
      plan = plan_of b t;
    }) (sym is) (ap (λ (w : ℕ). made w) (sym is_y))
  where
    made : ℕ → SpanMove
    made w = record { edge = w; plan = Parts numbers }
