-- A player's own moves in a game on vectors: by trees for X and by cuts for Y, by what sets span.
-- The number n stands for the target.
use Rattle.std.specs.Prelude.{ℕ, Bool, not, ◌&&◌, Option, Some, None, find, unwrap_or}
use Rattle.std.specs.Prelude.{if◌then◌else◌}
use Rattle.pg_gf2.specs.Prelude.{range_with_len, FinSet, contains, remove, nat_cmp, minus, either}
use Rattle.pg_gf2.specs.Prelude.{Side, X, Y, Position, is_free, left_without}
use Rattle.pg_gf2.specs.declared.plan.VecPlan.{VecPlan}

-- the claimed vector, and the plan that is left
pub record VecMove : Type 0 where
  pub vector : ℕ
  pub plan : VecPlan

-- the lowest free vector
abbrev pub lowest_free : ℕ → Position → ℕ
lowest_free n p = unwrap_or (find (is_free p) (range_with_len 0 n)) 0

-- the lowest candidate that the set doesn't span
abbrev pub lowest_unspanned : ((ℕ → Bool) → ℕ → Bool) → ℕ → (ℕ → Bool) → FinSet nat_cmp → Option ℕ
lowest_unspanned spans n set candidates =
    find (λ k. contains candidates k && not (spans set k)) (range_with_len 0 n)

-- the lowest candidate without which the set doesn't span x, where it does
abbrev pub lowest_needed : ((ℕ → Bool) → ℕ → Bool) → ℕ → (ℕ → Bool) → ℕ → FinSet nat_cmp → Option ℕ
lowest_needed spans n set x candidates = if spans set x
    then find (λ d. contains candidates d && not (spans (minus set d) x)) (range_with_len 0 n)
    else None

-- X's reply to the loss of x, a member of the one set: the lowest of the other that X's vectors and
-- the rest of the one don't span. Y's: where what is left without the one set spans x, the lowest
-- of the other without which it doesn't. Else the lowest free vector.
abbrev pub reply_vector : ((ℕ → Bool) → ℕ → Bool)
    → ℕ
    → Side
    → Position
    → FinSet nat_cmp
    → FinSet nat_cmp
    → ℕ
    → ℕ
reply_vector spans n X p one another x =
    unwrap_or (lowest_unspanned spans n (either (contains p.x) (contains (remove one x))) another)
    (lowest_free n p)
reply_vector spans n Y p one another x =
    unwrap_or (lowest_needed spans n (left_without n p one) x another) (lowest_free n p)

-- the vector that is claimed where x is lost
abbrev pub answer_vector : ((ℕ → Bool) → ℕ → Bool) → ℕ → Side → Position → VecPlan → ℕ → ℕ
answer_vector spans n side p plan x =
    if contains plan.first x then reply_vector spans n side p plan.first plan.second x
    else (if contains plan.second x then reply_vector spans n side p plan.second plan.first x
    else lowest_free n p)

-- what is lost: the last reply, or the target before any
abbrev pub lost_vector : ℕ → Option ℕ → ℕ
lost_vector n (Some x) = x
lost_vector n None = n

-- the plan without the lost and the claimed vector
abbrev pub plan_without : VecPlan → ℕ → ℕ → VecPlan
plan_without plan x v =
    record { first = remove (remove plan.first x) v; second = remove (remove plan.second x) v }

-- the own move after the last reply, where there was one
unfoldable pub vec_move : ((ℕ → Bool) → ℕ → Bool)
    → ℕ
    → Side
    → Position
    → VecPlan
    → Option ℕ
    → VecMove
vec_move spans n side p plan last =
    let x = lost_vector n last in
    let v = answer_vector spans n side p plan x in
    record { vector = v; plan = plan_without plan x v }
