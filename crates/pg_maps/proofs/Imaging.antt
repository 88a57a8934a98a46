-- A map that fits a game keeps who has filled a line, when the game is over, its outcome, and its
-- value.
use Rattle.std.proofs.Common.{◌≡◌, ℕ, ◌<◌, ◌-◌, Bool, true, not, ◌&&◌, ◌||◌, List, [], ◌∷◌, length}
use Rattle.std.proofs.Common.{map, nat_lt, if◌then◌else◌, refl, sym, ap, ap₂, ◌∙◌, subst, inl, inr}
use Rattle.std.proofs.Common.{eqb, eq-eqb, ne_eqb}
use Rattle.pg_maps.proofs.Common.{cases_Bool, cases_eq, both_ways, false≢true, All-weaker}
use Rattle.pg_maps.proofs.Common.{list_any-IsPermutation, list_any, list_all, IsPermutation, FinSet}
use Rattle.pg_maps.proofs.Common.{contains, insert, nat_cmp, Goal, Side, X, Y, other, in_insert}
use Rattle.pg_maps.proofs.Common.{Field, Lines, Game, Position, field_joins, field_points, is_free}
use Rattle.pg_maps.proofs.Common.{points_of, claims_in_turn, x_after, y_after, point_count}
use Rattle.pg_maps.proofs.Common.{lines_of, after, is_filled, is_touched, has_filled, all_touched}
use Rattle.pg_maps.proofs.Common.{is_full, is_over, outcome, is_over_by, outcome_by, short_joins}
use Rattle.pg_maps.proofs.Common.{can_join, reaches, Forces, value, lines-fit, IsLineOf}
use Rattle.pg_base.specs.declared.goal.Goal.TheVariants.{Win, Draw as AtLeastDraw}
use Rattle.pg_base.specs.declared.score.Score.{Score}
use Rattle.pg_base.specs.declared.score.Score.TheVariants.{XWins, Draw, YWins}
use Rattle.pg_graph.specs.Walks.{first_end, second_end}
use Rattle.pg_graph.proofs.GraphLemmas.{joins_same}
use Rattle.pg_game.specs.declared.field.Field.TheVariants.{Graph as OnGraph}
use Rattle.pg_game.specs.Strategy.{Keeps}
use Rattle.pg_game.proofs.Strategy.{Forces-from_keeps}
use Rattle.pg_game.proofs.FreePoints.{none-full, is_full-none}
use Rattle.pg_game.proofs.ValueLaws.{value-over, Forces-move-from, Forces-all-from}
use Rattle.pg_maps.specs.Images.{image_line, IsAutomorphism, IsImage}
use Rattle.pg_maps.proofs.ImageLines.{list_any-same, list_any-through, image_line-permutes}

-- ---- tests of all members, in another order

list_all-not_any : {A : Type 0} (t : A → Bool) (xs : List A)
    → list_all t xs ≡ not (list_any (λ x. not (t x)) xs)
list_all-not_any t [] = refl
list_all-not_any t (x ∷ xs) = elim (cases_Bool (t x)) [
  | inl on ↦ rw on (list_all-not_any t xs)
  | inr off ↦ rw off refl
]

-- ---- tests of the lines

module _ (g : Game) (f back : ℕ → ℕ) (fits : IsAutomorphism g f back) where
  -- the images of a line's points are the points of its image
  pub permuted : (line : List ℕ)
      → IsLineOf (point_count g) g.bias line
      → IsPermutation (map f line) (image_line f (point_count g) line)
  permuted line is =
      image_line-permutes f back (point_count g) line fits.points is.ascending is.range

  -- what a test tells of a line's image it tells of the line, through the map
  pub any-image : (t u : ℕ → Bool) (line : List ℕ)
      → IsLineOf (point_count g) g.bias line
      → ((v : ℕ) → v < point_count g → t (f v) ≡ u v)
      → list_any t (image_line f (point_count g) line) ≡ list_any u line
  any-image t u line is each = sym
      (list_any-IsPermutation t (map f line) (image_line f (point_count g) line) (permuted line is))
      ∙ list_any-through f t line
      ∙ list_any-same (λ v. t (f v)) u line
      (All-weaker (λ v. v < point_count g) (λ v. t (f v) ≡ u v) each line is.range)

  pub all-image : (t u : ℕ → Bool) (line : List ℕ)
      → IsLineOf (point_count g) g.bias line
      → ((v : ℕ) → v < point_count g → t (f v) ≡ u v)
      → list_all t (image_line f (point_count g) line) ≡ list_all u line
  all-image t u line is each = list_all-not_any t (image_line f (point_count g) line)
      ∙ ap not (any-image (λ v. not (t v)) (λ v. not (u v)) line is (λ v lt. ap not (each v lt)))
      ∙ sym (list_all-not_any u line)

  -- where a test tells of each image what another tells of its line, some line passes the one where
  -- some line passes the other
  pub any-lines : (t u : List ℕ → Bool)
      → ((line : List ℕ) → IsLineOf (point_count g) g.bias line
      → t (image_line f (point_count g) line) ≡ u line)
      → list_any t (lines_of g) ≡ list_any u (lines_of g)
  any-lines t u each = sym (list_any-IsPermutation t
      (map (image_line f (point_count g)) (lines_of g)) (lines_of g) fits.lines)
      ∙ list_any-through (image_line f (point_count g)) t (lines_of g)
      ∙ list_any-same (λ line. t (image_line f (point_count g) line)) u (lines_of g)
      (All-weaker (IsLineOf (point_count g) g.bias)
      (λ line. t (image_line f (point_count g) line) ≡ u line) each (lines_of g) (lines-fit g))

  pub all-lines : (t u : List ℕ → Bool)
      → ((line : List ℕ) → IsLineOf (point_count g) g.bias line
      → t (image_line f (point_count g) line) ≡ u line)
      → list_all t (lines_of g) ≡ list_all u (lines_of g)
  all-lines t u each = list_all-not_any t (lines_of g)
      ∙ ap not
      (any-lines (λ line. not (t line)) (λ line. not (u line)) (λ line is. ap not (each line is)))
      ∙ sym (list_all-not_any u (lines_of g))

  -- ---- a position and its image

  -- two points with one image are one
  pub one_to_one : (v q : ℕ) → v < point_count g → q < point_count g → f v ≡ f q → v ≡ q
  one_to_one v q vr qr e = sym (fits.points.undone v vr) ∙ ap back e ∙ fits.points.undone q qr

  pub eqb-image : (v q : ℕ) → v < point_count g → q < point_count g → eqb (f q) (f v) ≡ eqb q v
  eqb-image v q vr qr = elim (cases_eq q v) [
    | inl e ↦ eq-eqb (f q) (f v) (ap f e) ∙ sym (eq-eqb q v e)
    | inr ne ↦ ne_eqb (f q) (f v) (λ e. ne (one_to_one q v qr vr e)) ∙ sym (ne_eqb q v ne)
  ]

  module _ (p q : Position) (h : IsImage g f p q) where
    pub has-image : (side : Side) (v : ℕ)
        → v < point_count g
        → contains (points_of q side) (f v) ≡ contains (points_of p side) v
    has-image X v range = h.x v range
    has-image Y v range = h.y v range

    pub free-image : (v : ℕ) → v < point_count g → is_free q (f v) ≡ is_free p v
    free-image v range = ap₂ (λ a b. not a && not b) (h.x v range) (h.y v range)

    pub filled-image : (side : Side) → has_filled g q side ≡ has_filled g p side
    filled-image side = any-lines (is_filled (points_of q side)) (is_filled (points_of p side))
        (λ line is. all-image (contains (points_of q side)) (contains (points_of p side)) line is
        (has-image side))

    pub touched-image : all_touched g q ≡ all_touched g p
    touched-image = all-lines (is_touched q.y) (is_touched p.y)
        (λ line is. any-image (contains q.y) (contains p.y) line is h.y)

    pub full-image : is_full g q ≡ is_full g p
    full-image = elim (cases_Bool (is_full g p)) [
      | inl full ↦ is_full-none g q (λ v range. ap (is_free q) (sym (fits.points.redone v range))
          ∙ free-image (back v) (fits.points.back_range v range)
          ∙ none-full g p full (back v) (fits.points.back_range v range))
          ∙ sym full
      | inr some ↦ elim (cases_Bool (is_full g q)) [
        | inl full ↦ absurd (both_ways _ some (is_full-none g p (λ v range.
            sym (free-image v range) ∙ none-full g q full (f v) (fits.points.range v range))))
        | inr also ↦ also ∙ sym some
      ]
    ]

    -- edges stay, so the same ones join the terminals
    joins-image : (set image : ℕ → Bool)
        → ((v : ℕ) → v < point_count g → image (f v) ≡ set v)
        → field_joins g.field image ≡ field_joins g.field set
    joins-image set image same = by g.field refl
      where
        by : (field : Field) → g.field ≡ field → field_joins field image ≡ field_joins field set
        by (Lines rows) e = refl
        by (OnGraph board) e =
            let count : point_count g ≡ length board.ends = ap field_points e in
            joins_same (first_end board.ends) (second_end board.ends) image set
            (length board.ends) board.s board.t (λ v lt. ap image (sym (fits.edges board e v))
            ∙ same v (subst (λ n. v < n) (sym count) lt))

    pub over-image : is_over g q ≡ is_over g p
    unfolding is_over
    over-image =
        let joined : short_joins g q ≡ short_joins g p =
        joins-image (contains p.x) (contains q.x) h.x in
        let joinable : can_join g q ≡ can_join g p = joins-image (λ e. not (contains p.y e))
        (λ e. not (contains q.y e)) (λ e lt. ap not (h.y e lt)) in
        λ i. is_over_by g.kind (filled-image X i) (filled-image Y i) (touched-image i)
        (full-image i) (joined i) (joinable i)

    pub outcome-image : outcome g q ≡ outcome g p
    unfolding outcome
    outcome-image =
        let joined : short_joins g q ≡ short_joins g p =
        joins-image (contains p.x) (contains q.x) h.x in
        λ i. outcome_by g.kind (filled-image X i) (filled-image Y i) (joined i)

    in-insert_image : (s t : FinSet nat_cmp) (v u : ℕ)
        → v < point_count g
        → u < point_count g
        → contains t (f u) ≡ contains s u
        → contains (insert t (f v)) (f u) ≡ contains (insert s v) u
    in-insert_image s t v u vr ur e = in_insert t (f v) (f u)
        ∙ ap₂ (λ a b. a || b) (eqb-image v u vr ur) e
        ∙ sym (in_insert s v u)

    -- the image of a position after a move is the image after the move's image
    pub IsImage-after : (v : ℕ) → v < point_count g → IsImage g f (after g p v) (after g q (f v))
    IsImage-after v range = record {
      x = λ u lt. ap (λ (s : Side). contains (x_after s q.x (f v)) (f u)) h.turn
          ∙ x_moved p.turn u lt;
      y = λ u lt. ap (λ (s : Side). contains (y_after s q.y (f v)) (f u)) h.turn
          ∙ y_moved p.turn u lt;
      turn = λ i. if nat_lt 1 (h.left i) then h.turn i else other (h.turn i);
      left = λ i. if nat_lt 1 (h.left i) then h.left i - 1
          else claims_in_turn g.bias (other (h.turn i));
    }
      where
        x_moved : (s : Side) (u : ℕ)
            → u < point_count g
            → contains (x_after s q.x (f v)) (f u) ≡ contains (x_after s p.x v) u
        x_moved X u lt = in-insert_image p.x q.x v u range lt (h.x u lt)
        x_moved Y u lt = h.x u lt

        y_moved : (s : Side) (u : ℕ)
            → u < point_count g
            → contains (y_after s q.y (f v)) (f u) ≡ contains (y_after s p.y v) u
        y_moved X u lt = h.y u lt
        y_moved Y u lt = in-insert_image p.y q.y v u range lt (h.y u lt)

  -- ---- the law

  -- a position of which this one is the image, and from which the goal is forced
  record Mirrored (side : Side) (goal : Goal) (q : Position) : Type 0 where
    pub original : Position
    pub image : IsImage g f original q
    pub forced : Forces g original side goal

  Keeps-mirrored : (side : Side) (goal : Goal) → Keeps g side goal (Mirrored side goal)
  Keeps-mirrored side goal = record {
    ends = λ q h over. ap (reaches side goal) (outcome-image h.original q h.image)
        ∙ ended h.original (sym (over-image h.original q h.image) ∙ over) h.forced;
    own = λ q h going mine.
        let p = h.original in
        let move = Forces-move-from g p side goal (sym (over-image p q h.image) ∙ going)
        (sym h.image.turn ∙ mine) h.forced in (
          f move.0,
          fits.points.range move.0 move.1,
          free-image p q h.image move.0 move.1 ∙ move.2,
          record {
            original = after g p move.0;
            image = IsImage-after p q h.image move.0 move.1;
            forced = move.3;
          },
        );
    theirs = λ q h going yours v within free.
        let p = h.original in
        let was = fits.points.back_range v within in
        let same = fits.points.redone v within in
        record {
          original = after g p (back v);
          image = subst (λ (u : ℕ). IsImage g f (after g p (back v)) (after g q u)) same
              (IsImage-after p q h.image (back v) was);
          forced = Forces-all-from g p side goal (sym (over-image p q h.image) ∙ going)
              (sym h.image.turn ∙ yours) h.forced (back v) was
              (sym (free-image p q h.image (back v) was) ∙ ap (is_free q) same ∙ free);
        };
  }
    where
      ended : (p : Position)
          → is_over g p ≡ true
          → Forces g p side goal
          → reaches side goal (outcome g p) ≡ true
      ended p over forced = ap (reaches side goal) (sym (value-over g p over)) ∙ forced

  pub Forces-image : (p q : Position) (side : Side) (goal : Goal)
      → IsImage g f p q
      → Forces g p side goal
      → Forces g q side goal
  Forces-image p q side goal h forced =
      Forces-from_keeps g side goal (Keeps-mirrored side goal) q (record {
        original = p;
        image = h;
        forced = forced;
      })

  pub value-image : (p q : Position) → IsImage g f p q → value g q ≡ value g p
  value-image p q h = same_score (value g p) (value g q) (λ goal. Forces-image p q X goal h)
      (λ goal. Forces-image p q Y goal h)
    where
      same_score : (s t : Score)
          → ((goal : Goal) → reaches X goal s ≡ true → reaches X goal t ≡ true)
          → ((goal : Goal) → reaches Y goal s ≡ true → reaches Y goal t ≡ true)
          → t ≡ s
      same_score XWins XWins x y = refl
      same_score XWins Draw x y = absurd (false≢true (x Win refl))
      same_score XWins YWins x y = absurd (false≢true (x Win refl))
      same_score Draw XWins x y = absurd (false≢true (y AtLeastDraw refl))
      same_score Draw Draw x y = refl
      same_score Draw YWins x y = absurd (false≢true (x AtLeastDraw refl))
      same_score YWins XWins x y = absurd (false≢true (y Win refl))
      same_score YWins Draw x y = absurd (false≢true (y Win refl))
      same_score YWins YWins x y = refl
