-- What is known from the moves to the points from one on.
use Rattle.std.proofs.Common.{◌≡◌, ℕ, ◌+◌, ◌<◌, Bool, true, false, Option, Some, None, is_some}
use Rattle.std.proofs.Common.{List, ◌∷◌, [], refl, sym, ◌∙◌, inl, inr}
use Rattle.pg_plain.proofs.Common.{cases_Bool, false≢true, list_any, list_all, Score, Side, X, Y}
use Rattle.pg_plain.proofs.Common.{Game, Position, point_count, after, is_free, decided, by_moves}
use Rattle.pg_plain.proofs.Common.{is_answer, is_listed, settled, settle-decided, settle-listed}
use Rattle.pg_plain.proofs.MovesFrom.{told_from, from-free, from-all}
use Rattle.pg_plain.specs.Known.{with_move}

-- what is known where there are no moves
pub x-none : Some false ≡ by_moves X []
unfolding by_moves
x-none = refl

pub y-none : Some true ≡ by_moves Y []
unfolding by_moves
y-none = refl

-- one answer more
known-more : (side : Side) (o : Option Bool) (os : List (Option Bool))
    → by_moves side (o ∷ os) ≡ with_move side o (by_moves side os)
unfolding by_moves
known-more X (Some true) os = refl
known-more X (Some false) os = refl
known-more X None os = elim (cases_Bool (list_any (is_answer true) os)) [
  | inl on ↦ rw on refl
  | inr off ↦ elim (cases_Bool (list_all (is_answer false) os)) [
    | inl all ↦ rw (off, all) refl
    | inr some ↦ rw (off, some) refl
  ]
]
known-more Y (Some false) os = refl
known-more Y (Some true) os = refl
known-more Y None os = elim (cases_Bool (list_any (is_answer false) os)) [
  | inl on ↦ rw on refl
  | inr off ↦ elim (cases_Bool (list_all (is_answer true) os)) [
    | inl all ↦ rw (off, all) refl
    | inr some ↦ rw (off, some) refl
  ]
]

module _ (g : Game) (t : Score) (table : List Position) (p : Position) where
  -- what the moves to the free points from a on give
  abbrev pub known_from : ℕ → Option Bool
  known_from = told_from g p (by_moves p.turn) (λ v. settled g t table (after g p v))

  -- a free point more
  pub known-free : (a : ℕ)
      → a < point_count g
      → is_free p a ≡ true
      → known_from a ≡ with_move p.turn (settled g t table (after g p a)) (known_from (a + 1))
  known-free a within free = from-free g p (by_moves p.turn) (λ v. settled g t table (after g p v))
      (with_move p.turn) (known-more p.turn) a within free

  -- all points of an undecided member
  pub known-all : decided g t p ≡ None
      → is_listed table p ≡ true
      → known_from 0 ≡ settled g t table p
  known-all un listed = from-all g p (by_moves p.turn) (λ v. settled g t table (after g p v))
      ∙ sym (settle-listed g t table p un listed)

  -- what a criterion decides, and what is neither decided nor a member
  pub known-decided : (o : Option Bool)
      → o ≡ decided g t p
      → is_some o ≡ true
      → o ≡ settled g t table p
  known-decided None is on = absurd (false≢true on)
  known-decided (Some b) is on = sym (settle-decided g t table p b (sym is))

  pub known-undecided : (o : Option Bool)
      → o ≡ decided g t p
      → is_some o ≡ false
      → decided g t p ≡ None
  known-undecided None is off = sym is
  known-undecided (Some b) is off = absurd (false≢true (sym off))
