-- The walk from the root comes to a place that can be expanded.
use Rattle.std.proofs.Common.{◌≡◌, ◌≢◌, ℕ, zero, suc, ◌+◌, ◌<◌, ◌≤◌, Option, Some, None, List, []}
use Rattle.std.proofs.Common.{◌∷◌}
use Rattle.std.proofs.Common.{◌++◌, take, length, get_or, refl, sym, ap, ◌∙◌, subst, inl, inr}
use Rattle.std.proofs.Common.{arith, slice_get}
use Rattle.pg_pns.proofs.Common.{take_more, Contains-get_or, slice_get_within, slice_get-get_or}
use Rattle.pg_pns.proofs.Common.{get_or_from_slice_get, slice_get_read, All, Contains, Score, Game}
use Rattle.pg_pns.proofs.Common.{Position, free_points, start, after, Stand, View}
use Rattle.pg_pns.proofs.Common.{length-free_points-after, in_free_points, some≢none, contains_push}
use Rattle.pg_met.specs.declared.known.Answered.{Answered}
use Rattle.pg_met.specs.declared.table.Table.{Table}
use Rattle.pg_pns.specs.Descent.{IsOpenMove, HasOpen, IsOnWay, IsStep, IsAtStart, GoesDown}
use Rattle.pg_pns.specs.Descent.{IsFromStart, KeepsFirst, first_stand, free_at}
use Rattle.pg_pns.specs.Prelude.{Switching}
use Rattle.pg_met.specs.Known.{answer_at}
use Rattle.pg_met.specs.Settles.{by_answers}
use Rattle.pg_pns.specs.Search.{IsSearch, IsNext}
use Rattle.pg_pns.specs.Search.IsNext.{at_root, below}
use Rattle.pg_pns.proofs.Closing.{open-move}
use Rattle.pg_met.proofs.SettleLaws.{Contains-map, option_cases}

-- ---- moves without an answer

-- none of the moves so far is open, and this one isn't
pub passed-more : (moves : List (ℕ × ℕ)) (answers : List (Option Answered)) (i : ℕ) (d : ℕ × ℕ)
    → i < length moves
    → (HasOpen (take i moves) answers → ⊥)
    → (answer_at answers (get_or moves i d).1 ≡ None → ⊥)
    → HasOpen (take (i + 1) moves) answers
    → ⊥
passed-more moves answers i d lt before now opened =
    let listed : Contains (take i moves ++ get_or moves i d ∷ []) opened.0 =
    subst (λ (ms : List (ℕ × ℕ)). Contains ms opened.0) (take_more moves i d lt) opened.1 in
    elim (contains_push (take i moves) (get_or moves i d) opened.0 listed) [
      | inl old ↦ before (opened.0, old, opened.2)
      | inr new ↦ now (ap (λ (m : ℕ × ℕ). answer_at answers m.1) new ∙ opened.2)
    ]

all-taken : {X : Type 0} (xs : List X) (n : ℕ) → length xs ≤ n → take n xs ≡ xs
all-taken [] zero le = refl
all-taken [] (suc n) le = refl
all-taken (x ∷ xs) zero le = absurd (omega arith)
all-taken (x ∷ xs) (suc n) le = ap (λ ys. x ∷ ys) (all-taken xs n (omega arith))

pub passed-all : (moves : List (ℕ × ℕ)) (answers : List (Option Answered)) (n : ℕ)
    → length moves ≤ n
    → (HasOpen (take n moves) answers → ⊥)
    → HasOpen moves answers
    → ⊥
passed-all moves answers n le none some =
    none (subst (λ (ms : List (ℕ × ℕ)). HasOpen ms answers) (sym (all-taken moves n le)) some)

-- ---- the walk

module _ (g : Game) (t : Score) (list : List Position) (s : Table)
    (is : IsSearch g t [] list s) where
  pub way-range : (k : ℕ) → IsOnWay s k → k < length s.positions.items
  way-range k on = elim on.link [
    | inl e ↦ let w = slice_get_within s.positions.items 0 (start g) is.root in omega (arith, w, e)
    | inr b ↦
        let w = slice_get_within s.parents.items k b.ups b.at in
        omega (arith, w, is.tree.shape.parent_count)
  ]

  moves-at : (k : ℕ)
      → k < length s.positions.items
      → slice_get s.moves.items k ≡ Some (get_or s.moves.items k [])
  moves-at k lt = slice_get-get_or s.moves.items k [] (omega (arith, lt, is.tree.shape.move_count))

  pub moves-within : (k : ℕ)
      → k < length s.positions.items
      → All (λ m. m.1 < length s.answers.items) (get_or s.moves.items k [])
  moves-within k lt i d h =
      let ms = get_or s.moves.items k [] in
      let p = get_or s.positions.items k (start g) in
      let m = get_or ms i d in
      let to = is.tree.shape.leads k p ms (slice_get-get_or s.positions.items k (start g) lt)
      (moves-at k lt) m (Contains-get_or ms i d h) in
      let w = slice_get_within s.positions.items m.1 (after g p m.0) to in
      omega (arith, w, is.tree.agree.count)

  pub moves-read : (k : ℕ) (ns : List (List (ℕ × ℕ))) (ms : List (ℕ × ℕ))
      (answers : List (Option Answered))
      → k < length s.positions.items
      → ns ≡ s.moves.items
      → ms ≡ get_or ns k ms
      → answers ≡ s.answers.items
      → All (λ m. m.1 < length answers) ms
  moves-read k ns ms answers lt e read known =
      let within : k < length s.moves.items = omega (arith, lt, is.tree.shape.move_count) in
      let at = slice_get_read s.moves.items (length s.moves.items) k ms refl within
      (read ∙ ap (λ (xs : List (List (ℕ × ℕ))). get_or xs k ms) e) in
      let got : get_or s.moves.items k [] ≡ ms = get_or_from_slice_get s.moves.items k ms [] at in
      subst (λ (os : List (Option Answered)). All (λ m. m.1 < length os) ms) (sym known)
      (subst (λ (xs : List (ℕ × ℕ)). All (λ m. m.1 < length s.answers.items) xs) got
      (moves-within k lt))

  pub way-down : (k : ℕ) (p : Position) (m : ℕ × ℕ)
      → slice_get s.positions.items k ≡ Some p
      → IsOnWay s k
      → IsOpenMove (get_or s.moves.items k []) s.answers.items m
      → IsStep g s k p m
  way-down k p m pos on opened =
      let ms = get_or s.moves.items k [] in
      let mov = moves-at k (way-range k on) in
      let up = is.tree.shape.kept k ms mov m opened.member in
      let to = is.tree.shape.leads k p ms pos mov m opened.member in
      let points = is.tree.shape.points k p ms pos mov (omega (arith, opened.member.1)) in
      let inside = in_free_points g p m.0
      (subst (λ vs. Contains vs m.0) points
      (Contains-map (λ (r : ℕ × ℕ). r.0) ms m opened.member)) in
      let fewer = length-free_points-after g p m.0 inside.0 inside.1 in
      let here : free_at g s k ≡ length (free_points g p) =
      ap (λ (q : Position). length (free_points g q))
      (get_or_from_slice_get s.positions.items k p (start g) pos) in
      let there : free_at g s m.1 ≡ length (free_points g (after g p m.0)) =
      ap (λ (q : Position). length (free_points g q))
      (get_or_from_slice_get s.positions.items m.1 (after g p m.0) (start g) to) in
      record {
        on = record {
          unanswered = opened.unanswered;
          link = inr (record {
            from = k;
            ups = up.0;
            at = up.1;
            member = up.2;
            before = on.unanswered;
          });
        };
        fewer = omega (arith, fewer, here, there);
        range = inside.0;
        free = inside.1;
        leads = to;
      }

  -- the same with the position that is read at the place
  pub way-on : (k : ℕ) (m : ℕ × ℕ)
      → IsOnWay s k
      → IsOpenMove (get_or s.moves.items k []) s.answers.items m
      → IsStep g s k (get_or s.positions.items k (start g)) m
  way-on k m on opened = way-down k (get_or s.positions.items k (start g)) m
      (slice_get-get_or s.positions.items k (start g) (way-range k on)) on opened

  ends : (k : ℕ) (ms : List (ℕ × ℕ))
      → IsOnWay s k
      → slice_get s.moves.items k ≡ Some ms
      → (HasOpen ms s.answers.items → ⊥)
      → IsNext s k
  ends k [] on mov none = elim on.link [
    | inl e ↦ subst (λ (i : ℕ). IsNext s i) (sym e)
        (at_root (ap (slice_get s.moves.items) (sym e) ∙ mov)
        (ap (answer_at s.answers.items) (sym e) ∙ on.unanswered))
    | inr b ↦ below k (record {
      from = b.from;
      ups = b.ups;
      at = b.at;
      member = b.member;
      before = b.before;
      unanswered = on.unanswered;
      bare = mov;
    })
  ]
  ends k (m ∷ ms) on mov none =
      let p = get_or s.positions.items k (start g) in
      let pos = slice_get-get_or s.positions.items k (start g) (way-range k on) in
      elim (option_cases (by_answers s.answers.items p (m ∷ ms))) [
        | inl known ↦
            elim (is.tree.agree.known k p (m ∷ ms) pos mov (omega arith) known.0 known.1) [
              | inl answered ↦ absurd (some≢none (sym answered ∙ on.unanswered))
              | inr c ↦ absurd (omega (arith, c.1))
            ]
        | inr unknown ↦
            absurd (none (open-move p.turn (λ r. answer_at s.answers.items r.1) (m ∷ ms) unknown))
      ]

  pub way-end : (k : ℕ)
      → IsOnWay s k
      → (HasOpen (get_or s.moves.items k []) s.answers.items → ⊥)
      → IsNext s k
  way-end k on none = ends k (get_or s.moves.items k []) on (moves-at k (way-range k on)) none

-- ---- on the board

first-pushed : (stands : List Stand) (s d : Stand)
    → get_or (stands ++ s ∷ []) 0 d ≡ get_or stands 0 s
first-pushed [] s d = refl
first-pushed (e ∷ stands) s d = refl

first-played : (now next : View)
    → next.earlier ≡ now.earlier ++ now.stand ∷ []
    → first_stand next ≡ first_stand now
first-played now next push =
    ap (λ es. get_or es 0 next.stand) push ∙ first-pushed now.earlier now.stand next.stand

pub goes-down : (s : Table) (first now next : View) (k : ℕ) (m : ℕ × ℕ)
    → GoesDown s first now k
    → IsStep first.game s k now.stand.position m
    → next.game ≡ now.game
    → next.stand.position ≡ after now.game now.stand.position m.0
    → next.earlier ≡ now.earlier ++ now.stand ∷ []
    → GoesDown s first next m.1
goes-down s first now next k m down step same moved push = record {
  on = step.on;
  game = same ∙ down.game;
  stands = step.leads
      ∙ ap (λ (h : Game). Some (after h now.stand.position m.0)) (sym down.game)
      ∙ ap Some (sym moved);
  first_is = first-played now next push ∙ down.first_is;
}

-- plays and what is taken back leave what was below all plays
pub keeps-played : (old now next : View)
    → KeepsFirst old now
    → next.game ≡ now.game
    → next.earlier ≡ now.earlier ++ now.stand ∷ []
    → KeepsFirst old next
keeps-played old now next keeps same push = record {
  game = same ∙ keeps.game;
  first_is = first-played now next push ∙ keeps.first_is;
}

pub keeps-kept : (old now next : View)
    → KeepsFirst old now
    → KeepsFirst now next
    → KeepsFirst old next
keeps-kept old now next first second = record {
  game = second.game ∙ first.game;
  first_is = second.first_is ∙ first.first_is;
}

-- a board on which no play stands comes from where it is
pub from-start : (g : Game) (b : View)
    → IsAtStart g b
    → g.kind ≢ Switching
    → IsFromStart g b
from-start g b at lines = record {
  game = at.game;
  lines = lines;
  first = ap (λ (ts : List Stand). (get_or ts 0 b.stand).position) at.earlier ∙ at.position;
}
