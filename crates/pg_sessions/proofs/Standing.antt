-- A game that stands at other marks: its rules, values and position.
use Rattle.std.proofs.Common.{◌≡◌, ◌∙◌, ℕ, zero, suc, ◌<◌, true, not, List, [], ◌∷◌, length, take}
use Rattle.std.proofs.Common.{get_or, refl, sym, ap, ap₂, subst, inl, inr, arith}
use Rattle.pg_sessions.proofs.Common.{filter, list_all, list_any, range_with_len, Kind}
use Rattle.pg_sessions.proofs.Common.{MakerBreaker, MakerMaker, AvoiderEnforcer, Switching, Side, X}
use Rattle.pg_sessions.proofs.Common.{Y, field_joins, field_lines, field_points, after, free_points}
use Rattle.pg_sessions.proofs.Common.{is_empty, is_filled, is_over, is_over_by, is_touched, outcome}
use Rattle.pg_sessions.proofs.Common.{outcome_by, point_count, start, IsPosition, IsLegalPlay}
use Rattle.pg_sessions.proofs.Common.{played, after_with, claims_in_turn, is_free, points_of}
use Rattle.pg_sessions.proofs.Common.{rules_of, value, Field, Game, Position, Expanded, budget}
use Rattle.pg_sessions.proofs.Common.{IsLeft, LeavesSearch}
use Rattle.std.specs.FinSet.{contains}
use Rattle.pg_game.specs.Rules.{Rules, value_by}
use Rattle.pg_sessions.specs.Known.{HaveNodes, IsKnown}
use Rattle.pg_sessions.specs.Review.{IsGameAt}
use Rattle.pg_sessions.specs.declared.known.Known.{Known}

-- ---- values

-- the rules of games of that kind on that field
rules_with : Kind → Field → ℕ → Rules
rules_with kind field bias = record {
  points = field_points field;
  bias = bias;
  over = λ p. is_over_by kind (list_any (is_filled (points_of p X)) (field_lines field))
      (list_any (is_filled (points_of p Y)) (field_lines field))
      (list_all (is_touched p.y) (field_lines field))
      (is_empty (filter (is_free p) (range_with_len 0 (field_points field))))
      (field_joins field (contains p.x)) (field_joins field (λ e. not (contains p.y e)));
  outcome = λ p. outcome_by kind (list_any (is_filled (points_of p X)) (field_lines field))
      (list_any (is_filled (points_of p Y)) (field_lines field)) (field_joins field (contains p.x));
}

rules-are : (g : Game) → rules_of g ≡ rules_with g.kind g.field g.bias
unfolding rules_with is_over outcome free_points
rules-are g = refl

-- values don't depend on a game's marks
pub same-value : (g here : Game) (p q : Position) → IsGameAt g p here → value here q ≡ value g q
same-value g here p q is =
    let same : rules_with here.kind here.field here.bias ≡ rules_with g.kind g.field g.bias =
    (let kind = is.same_kind in let field = is.same_field in let bias = is.same_bias in cc) in
    ap (λ (r : Rules). value_by r q) (rules-are here ∙ (same ∙ sym (rules-are g)))

-- ---- positions

-- each side claims one point a turn
one-each : (bias : ℕ) (side : Side) → bias ≡ 1 → claims_in_turn bias side ≡ 1
one-each bias X one = refl
one-each bias Y one = one

one-left : (g : Game) (p : Position) → IsPosition g p → g.bias ≡ 1 → p.left ≡ 1
one-left g p position one =
    let few = position.few_left in
    let some = position.some_left in
    let most = one-each g.bias p.turn one in
    omega (arith, few, some, most)

-- the game that has the marks of a position stands there
pub start-at : (g here : Game) (p : Position)
    → IsGameAt g p here
    → IsPosition g p
    → g.bias ≡ 1
    → start here ≡ p
start-at g here p is position one =
    let left : claims_in_turn here.bias here.turn ≡ p.left =
    one-each here.bias here.turn (is.same_bias ∙ one) ∙ sym (one-left g p position one) in
    let x = is.same_x in
    let y = is.same_y in
    let turn = is.same_turn in
    let same : record {
      x = here.x;
      y = here.y;
      turn = here.turn;
      left = claims_in_turn here.bias here.turn;
    } ≡ record { x = p.x; y = p.y; turn = p.turn; left = p.left } = cc in
    same

-- the position after a move from where the game stands
pub next-at : (g : Game) (p q : Position) (v : ℕ)
    → p ≡ start g
    → q ≡ after g p v
    → q ≡ after g (start g) v
next-at g p q v here next = next ∙ ap (λ (r : Position). after g r v) here

-- a move where the game stands is that move in the game
pub after-at : (g here : Game) (p : Position) (v : ℕ)
    → IsGameAt g p here
    → IsPosition g p
    → g.bias ≡ 1
    → after here (start here) v ≡ after g p v
after-at g here p v is position one = ap₂ (λ (b : ℕ) (q : Position). after_with b q v) is.same_bias
    (start-at g here p is position one)

-- the same after a move
pub at-after : (g here next : Game) (p : Position) (v : ℕ)
    → IsGameAt g p here
    → IsPosition g p
    → g.bias ≡ 1
    → IsGameAt here (after here (start here) v) next
    → IsGameAt g (after g p v) next
at-after g here next p v is position one moved =
    let there : IsGameAt here (after g p v) next =
    subst (λ (q : Position). IsGameAt here q next) (after-at g here p v is position one) moved in
    record {
      same_kind = there.same_kind ∙ is.same_kind;
      same_field = there.same_field ∙ is.same_field;
      same_x = there.same_x;
      same_y = there.same_y;
      same_turn = there.same_turn;
      same_bias = there.same_bias ∙ is.same_bias;
    }

-- ---- what is known

-- what is known of a game that stands at a position is the value there
pub known-value : (g here : Game) (p : Position) (known : Known)
    → IsGameAt g p here
    → IsPosition g p
    → g.bias ≡ 1
    → IsKnown here (start here) known
    → value g p ≡ known.score
known-value g here p known is position one told = sym (same-value g here p p is)
    ∙ (sym (ap (value here) (start-at g here p is position one)) ∙ told.here)

-- where each claim has a node with the position to which a game goes, what is known of it stays
pub known-kept : (g next : Game) (p : Position) (known : Known)
    → IsGameAt g p next
    → IsPosition g p
    → g.bias ≡ 1
    → IsKnown g (start g) known
    → HaveNodes p known.certificate
    → IsKnown next (start next) known
known-kept g next p known is position one told have = record {
  here = ap (value next) (start-at g next p is position one)
      ∙ (same-value g next p p is ∙ told.wherever p have);
  wherever = λ q there. same-value g next p q is ∙ told.wherever q there;
}

-- ---- legal plays

-- a move of a legal play takes a free point of the game
pub legal-at : (g : Game) (p : Position) (moves : List ℕ) (k : ℕ)
    → IsLegalPlay g p moves
    → k < length moves
    → (get_or moves k 0 < point_count g)
    × (is_free (played g p (take k moves)) (get_or moves k 0) ≡ true)
legal-at g p [] k legal low = absurd (omega (arith, low))
legal-at g p (v ∷ moves) zero legal low = (legal.1, legal.2)
legal-at g p (v ∷ moves) (suc k) legal low =
    legal-at g (after g p v) moves k legal.3 (omega (arith, low))

-- ---- the work

-- what deciding a game leaves
pub leaves-one : (here : Game) (positions : ℕ) (before after : Expanded)
    → ((here.kind ≡ Switching → ⊥) → IsLeft here (budget here positions) after)
    → (here.kind ≡ Switching → after ≡ before)
    → LeavesSearch (λ (g : Game). g ≡ here) positions before after
leaves-one here positions before after left same = by here.kind refl
  where
    on_lines : (here.kind ≡ Switching → ⊥)
        → LeavesSearch (λ (g : Game). g ≡ here) positions before after
    on_lines lines = inr (record { game = here; one = refl; on_lines = lines; left = left lines })

    by : (kind : Kind)
        → here.kind ≡ kind
        → LeavesSearch (λ (g : Game). g ≡ here) positions before after
    by Switching is = inl (same is)
    by MakerBreaker is =
        on_lines (λ e. let no : MakerBreaker ≡ Switching = sym is ∙ e in absurd (cc))
    by MakerMaker is = on_lines (λ e. let no : MakerMaker ≡ Switching = sym is ∙ e in absurd (cc))
    by AvoiderEnforcer is =
        on_lines (λ e. let no : AvoiderEnforcer ≡ Switching = sym is ∙ e in absurd (cc))

-- what is said of the game by which it was left follows from more
pub leaves-more : (One Other : Game → Type 0) (positions : ℕ) (before after : Expanded)
    → ((here : Game) → One here → Other here) → LeavesSearch One positions before after
    → LeavesSearch Other positions before after
leaves-more One Other positions before after more (inl same) = inl same
leaves-more One Other positions before after more (inr left) = inr (record {
  game = left.game;
  one = more left.game left.one;
  on_lines = left.on_lines;
  left = left.left;
})

-- what two decisions leave, one after the other
pub leaves-then : (One : Game → Type 0) (positions : ℕ) (before between after : Expanded)
    → LeavesSearch One positions before between → LeavesSearch One positions between after
    → LeavesSearch One positions before after
leaves-then One positions before between after first (inl same) =
    subst (λ (w : Expanded). LeavesSearch One positions before w) (sym same) first
leaves-then One positions before between after first (inr left) = inr left
