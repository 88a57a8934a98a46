-- What is known from moves, for the functions that find it.
use Rattle.std.proofs.Common.{◌≡◌, ℕ, ◌+◌, ◌<◌, Bool, true, false, not, Option, Some, None, List}
use Rattle.std.proofs.Common.{[], ◌∷◌, ◌++◌, map, length, take, get_or, refl, sym, ap, ◌∙◌, subst}
use Rattle.std.proofs.Common.{inl, inr, ◌⊎◌, arith, slice_get, length-append}
use Rattle.pg_met.proofs.Common.{and_from, cond-false, take_more, slice_get_within}
use Rattle.pg_met.proofs.Common.{slice_get-get_or, list_any, list_all, Contains, Side, list_any-one}
use Rattle.pg_met.proofs.Common.{Contains-head, Contains-tail, Reply, answer_for, is_answer}
use Rattle.pg_met.proofs.Common.{by_moves, at_push, contains_at, list_any-map, list_all-map}
use Rattle.pg_met.specs.declared.known.Answered.{Answered}
use Rattle.pg_met.specs.Known.{answer_at, answer_of, IsShown, HasMove, HaveReplies}
use Rattle.pg_met.proofs.ByMoves.{by_moves-some, by_moves-all, is_answer-same}

pub shown-answer : (answers : List (Option Answered)) (i : ℕ) (b : Bool) (n : ℕ)
    → IsShown answers i b n
    → answer_at answers i ≡ Some b
shown-answer answers i b n h = ap answer_of h

-- one more reply
pub HaveReplies-push : (b : Bool) (moves : List (ℕ × ℕ)) (answers : List (Option Answered))
    (replies : List Reply) (m : ℕ × ℕ) (node : ℕ)
    → HaveReplies b moves answers replies
    → IsShown answers m.1 b node
    → HaveReplies b (moves ++ m ∷ []) answers (replies ++ record { point = m.0; child = node } ∷ [])
HaveReplies-push b moves answers replies m node h s = record {
  count = omega (arith, length-append moves (m ∷ []), length-append replies (reply ∷ []), h.count);
  shown = λ n x r x_at r_at. each n x r (at_push moves m x n x_at)
      (at_push replies reply r n r_at) x_at r_at;
}
  where
    reply : Reply
    reply = record { point = m.0; child = node }

    each : (n : ℕ) (x : ℕ × ℕ) (r : Reply)
        → (slice_get moves n ≡ Some x) ⊎ ((n ≡ length moves) × (m ≡ x))
        → (slice_get replies n ≡ Some r) ⊎ ((n ≡ length replies) × (reply ≡ r))
        → slice_get (moves ++ m ∷ []) n ≡ Some x
        → slice_get (replies ++ reply ∷ []) n ≡ Some r
        → (r.point ≡ x.0) × IsShown answers x.1 b r.child
    each n x r (inl a) (inl c) x_at r_at = h.shown n x r a c
    each n x r (inl a) (inr c) x_at r_at =
        let w = slice_get_within moves n x a in
        absurd (omega (arith, h.count, w, c.0))
    each n x r (inr a) (inl c) x_at r_at =
        let w = slice_get_within replies n r c in
        absurd (omega (arith, h.count, w, a.0))
    each n x r (inr a) (inr c) x_at r_at =
        subst (λ (y : ℕ × ℕ). (r.point ≡ y.0) × IsShown answers y.1 b r.child) a.1
        (subst (λ (q : Reply). (q.point ≡ m.0) × IsShown answers m.1 b q.child) c.1 (refl, s))

-- the step of the loop
pub HaveReplies-more : (b : Bool) (moves : List (ℕ × ℕ)) (answers : List (Option Answered))
    (replies new : List Reply) (i : ℕ) (d : ℕ × ℕ) (node : ℕ)
    → i < length moves
    → HaveReplies b (take i moves) answers replies
    → IsShown answers (get_or moves i d).1 b node
    → new ≡ replies ++ record { point = (get_or moves i d).0; child = node } ∷ []
    → HaveReplies b (take (i + 1) moves) answers new
HaveReplies-more b moves answers replies new i d node below h s e = rw (
  take_more moves i d below,
  e,
) (HaveReplies-push b (take i moves) answers replies (get_or moves i d) node h s)

-- ---- what the two searches among the moves tell

pub by_moves-from_move : (side : Side) (b : Bool) (moves : List (ℕ × ℕ))
    (answers : List (Option Answered)) (point node : ℕ)
    → b ≡ answer_for side
    → HasMove b moves answers point node
    → Some b ≡ by_moves side (map (λ m. answer_at answers m.1) moves)
by_moves-from_move side b moves answers point node wants h = ap Some wants
    ∙ sym (by_moves-some side (map (λ m. answer_at answers m.1) moves)
    (list_any-map (λ (m : ℕ × ℕ). answer_at answers m.1) (is_answer (answer_for side)) moves
    ∙ list_any-one (λ m. is_answer (answer_for side) (answer_at answers m.1)) moves
    (let m : ℕ × ℕ = (point, h.place) in m) h.member
    (ap (is_answer (answer_for side)) (shown-answer answers h.place b node h.shown ∙ ap Some wants)
    ∙ is_answer-same (answer_for side))))

pub by_moves-from_replies : (side : Side) (b : Bool) (moves : List (ℕ × ℕ))
    (answers : List (Option Answered)) (replies : List Reply)
    → b ≡ not (answer_for side)
    → HaveReplies b moves answers replies
    → Some b ≡ by_moves side (map (λ m. answer_at answers m.1) moves)
by_moves-from_replies side b moves answers replies wants h = ap Some wants
    ∙ sym (by_moves-all side (map (λ m. answer_at answers m.1) moves)
    (list_all-map (λ (m : ℕ × ℕ). answer_at answers m.1) (is_answer (not (answer_for side))) moves
    ∙ all moves (λ m c. answered m (contains_at moves m c))))
  where
    answered : (m : ℕ × ℕ) → (n : ℕ) × (slice_get moves n ≡ Some m) → answer_at answers m.1 ≡ Some b
    answered m at =
        let within = slice_get_within moves at.0 m at.1 in
        let none : Reply = record { point = 0; child = 0 } in
        let reply = get_or replies at.0 none in
        shown-answer answers m.1 b reply.child
        (h.shown at.0 m reply at.1
        (slice_get-get_or replies at.0 none (omega (arith, within, h.count)))).1

    all : (ms : List (ℕ × ℕ))
        → ((m : ℕ × ℕ) → Contains ms m → answer_at answers m.1 ≡ Some b)
        → list_all (λ m. is_answer (not (answer_for side)) (answer_at answers m.1)) ms ≡ true
    all [] each = refl
    all (m ∷ ms) each = and_from _ _
        (ap (is_answer (not (answer_for side))) (each m (Contains-head m ms) ∙ ap Some wants)
        ∙ is_answer-same (not (answer_for side))) (all ms (λ x c. each x (Contains-tail m x ms c)))

pub by_moves-from_none : (side : Side) (w : Bool) (moves : List (ℕ × ℕ))
    (answers : List (Option Answered))
    → w ≡ answer_for side
    → list_any (λ m. is_answer w (answer_at answers m.1)) moves ≡ false
    → list_all (λ m. is_answer (not w) (answer_at answers m.1)) moves ≡ false
    → ◌≡◌ {A = Option Bool} None (by_moves side (map (λ m. answer_at answers m.1) moves))
unfolding by_moves
by_moves-from_none side w moves answers wants none some = sym (cond-false _ _ _
    (list_any-map (λ (m : ℕ × ℕ). answer_at answers m.1) (is_answer (answer_for side)) moves
    ∙ (ap (λ v. list_any (λ m. is_answer v (answer_at answers m.1)) moves) (sym wants) ∙ none))
    ∙ cond-false _ _ _
    (list_all-map (λ (m : ℕ × ℕ). answer_at answers m.1) (is_answer (not (answer_for side))) moves
    ∙ (ap (λ v. list_all (λ m. is_answer (not v) (answer_at answers m.1)) moves) (sym wants)
    ∙ some)))
