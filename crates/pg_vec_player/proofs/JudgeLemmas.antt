-- Sets that a judge makes, and what they decide.
use Rattle.std.proofs.Common.{◌≡◌, ℕ, suc, Bool, true, false, not, ◌&&◌, Some, None, refl}
use Rattle.std.proofs.Common.{sym, ap, ◌∙◌}
use Rattle.std.specs.Prelude.{nat_lt, length}
use Rattle.pg_vec_player.proofs.Common.{and_parts, and_from, lt-ltb, ltb-true, FinSet, contains}
use Rattle.pg_vec_player.proofs.Common.{remove, union, difference, nat_cmp, either, outside}
use Rattle.pg_vec_player.proofs.Common.{same_sets, below_parts, below_from, contains-union_either}
use Rattle.pg_vec_player.proofs.Common.{contains-difference_outside, Position, ending_by, kept}
use Rattle.pg_vec_player.proofs.Common.{left_without, VecGame, with_target, vector_rules}
use Rattle.pg_vec_player.proofs.Common.{vector_spans}
use Rattle.pg_base.specs.declared.score.Score.TheVariants.{YWins}

pub kept-is : (p : Position) (all left : FinSet nat_cmp) (limit : ℕ)
    → ((v : ℕ) → contains all v ≡ nat_lt v limit)
    → ((v : ℕ) → contains left v ≡ (contains all v && not (contains p.y v)))
    → contains left ≡ kept limit p
kept-is p all left limit is_all is_left = same_sets (contains left) (kept limit p) (λ z k.
    let q = and_parts (contains all z) (not (contains p.y z)) (sym (is_left z) ∙ k) in
    below_from (λ f. not (contains p.y f)) limit z q.1 (ltb-true z limit (sym (is_all z) ∙ q.0)))
    (λ z k.
    let q = below_parts (λ f. not (contains p.y f)) limit z k in
    is_left z ∙ and_from _ _ (is_all z ∙ lt-ltb z limit q.1) q.0)

pub joined-is : (p : Position) (set others all : FinSet nat_cmp) (x : ℕ)
    → others ≡ remove set x
    → all ≡ union p.x others
    → contains all ≡ either (contains p.x) (contains (remove set x))
joined-is p set others all x is_others is_all = ap (λ (s : FinSet nat_cmp). contains s)
    (is_all ∙ ap (λ (s : FinSet nat_cmp). union p.x s) is_others)
    ∙ contains-union_either p.x (remove set x)

pub left-is : (p : Position) (n k : ℕ) (set all left : FinSet nat_cmp)
    → k ≡ suc n
    → contains all ≡ kept k p
    → left ≡ difference all set
    → contains left ≡ left_without n p set
left-is p n k set all left next is_all is_left = ap (λ (s : FinSet nat_cmp). contains s) is_left
    ∙ (contains-difference_outside all set
    ∙ ap (λ (s : ℕ → Bool). outside s (contains set)) (is_all ∙ ap (λ (m : ℕ). kept m p) next))

-- ---- the outcome

pub ending-goes_on : (g : VecGame) (p : Position)
    → vector_spans (with_target g) (contains p.x) (length g.vectors) ≡ false
    → vector_spans (with_target g) (kept (length g.vectors) p) (length g.vectors) ≡ true
    → None ≡ ending_by (vector_rules g) p
ending-goes_on g p off on = rw (off, on) refl

pub ending-y : (g : VecGame) (p : Position)
    → vector_spans (with_target g) (contains p.x) (length g.vectors) ≡ false
    → vector_spans (with_target g) (kept (length g.vectors) p) (length g.vectors) ≡ false
    → Some YWins ≡ ending_by (vector_rules g) p
ending-y g p off apart = rw (off, apart) refl

-- what is left of Y is judged as the rules judge it
pub left-spans : (g : VecGame) (p : Position) (left : FinSet nat_cmp) (n : ℕ) (b : Bool)
    → n ≡ length g.vectors
    → contains left ≡ kept n p
    → b ≡ vector_spans (with_target g) (contains left) (length g.vectors)
    → vector_spans (with_target g) (kept (length g.vectors) p) (length g.vectors) ≡ b
left-spans g p left n b is_n is_left is =
    ap (λ (s : ℕ → Bool). vector_spans (with_target g) s (length g.vectors))
    (sym (is_left ∙ ap (λ (m : ℕ). kept m p) is_n))
    ∙ sym is
