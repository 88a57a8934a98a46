use Rattle.std.proofs.Common.{◌≡◌, ◌∙◌, ◌<◌, ◌++◌, ◌∷◌, [], ℕ, List, slice_get, slice_set, get_or}
use Rattle.std.proofs.Common.{length, refl, sym, ap, subst, arith, false, Some}
use Rattle.pg_pns.proofs.Common.{slice_get_within, slice_get_read, with_items_is, length-set}
use Rattle.pg_pns.proofs.Common.{with_items, Position, Game, Score, IsPosition, point_count, View}
use Rattle.pg_pns.proofs.Common.{IsAt, is_over, one_at, undecided-going, get_or_from_slice_get}
use Rattle.pg_leaf.specs.Ahead.{IsAhead}
use Rattle.pg_threat.proofs.Boards.{at_same}
use Rattle.pg_leaf.specs.declared.ahead.Ahead.{Ahead}
use Rattle.pg_met.specs.declared.table.Table.{Table}
use Rattle.pg_pns.specs.Search.{CanGrow, IsGrowing, IsSearch}
use Rattle.pg_pns.proofs.Moving.{growing-start, growing-taken}
use Rattle.pg_pns.proofs.Expanding.{grown-search}
use Rattle.pg_pns.proofs.expansion.expand.Goals as goal

-- the position that is read at a place is that which stands there
read-same : (g : Game) (t : Score) (list : List Position) (s : Table) (k : ℕ) (p r : Position)
    → CanGrow g t list s k p
    → r ≡ get_or s.positions.items k r
    → p ≡ r
read-same g t list s k p r c is = one_at s.positions.items k p r c.at
    (slice_get_read s.positions.items (length s.positions.items) k r refl
    (slice_get_within s.positions.items k p c.at) is)

-- the board stands at the position of the place
stands-there : (g : Game) (t : Score) (list : List Position) (s : Table) (k : ℕ) (p r : Position)
    (b : View)
    → CanGrow g t list s k p
    → IsAt g p b
    → r ≡ b.stand.position
    → r ≡ get_or s.positions.items k r
stands-there g t list s k p r b can at is =
    let same : p ≡ r = sym (is ∙ at.position) in
    sym (get_or_from_slice_get s.positions.items k r r (can.at ∙ ap Some same))

-- and so it is when the moves begin
read-there : (g : Game) (t : Score) (list : List Position) (s : Table) (k : ℕ) (p r : Position)
    (b : View)
    → CanGrow g t list s k p
    → IsAt g p b
    → r ≡ b.stand.position
    → IsGrowing g t list k r 0 s []
read-there g t list s k p r b can at is =
    subst (λ (q : Position). IsGrowing g t list k q 0 s []) (sym (is ∙ at.position))
    (growing-start g t list k p s can)

pub seek-requires : goal.seek-requires
seek-requires c =
    let can = c.requires.grows in
    let stands = (c.requires.reads can.1 can.2.at).stands in
    at_same (λ g p. is_over g p ≡ false) c.args.asked.game.now c.args.board.now.game can.1
    c.args.board.now.stand.position stands.game stands.position
    (undecided-going c.args.asked.game.now c.args.asked.question can.1 can.2.undecided)

pub loop-v-init : goal.loop-v-init
loop-v-init c = (
  record {
    same = c.seek.ensures.kept;
    fits = (c.requires.reads c.requires.grows.1 c.requires.grows.2.at).fits;
  },
  refl,
  stands-there c.args.asked.game.now c.args.asked.question c.requires.grows.0 c.args.table.now
      c.args.k c.requires.grows.1 c.position.result c.args.board.now c.requires.grows.2
      (c.requires.reads c.requires.grows.1 c.requires.grows.2.at).stands c.position.ensures.exact,
  c.seek.ensures.ahead c.args.asked.question c.look.ensures,
  λ list p can. subst
      (λ (ns : List (ℕ × ℕ)). IsGrowing c.args.asked.game.now c.args.asked.question list c.args.k
      c.position.result 0 c.args.table.now ns) (sym c.new.ensures)
      (read-there c.args.asked.game.now c.args.asked.question list c.args.table.now c.args.k p
      c.position.result c.args.board.now can (c.requires.reads p can.at).stands
      c.position.ensures.exact),
)

pub bounds-as_mut_slice-k : goal.bounds-as_mut_slice-k
bounds-as_mut_slice-k c =
    let can = c.requires.grows in
    let is = c.loop-v.invariant.4 can.0 can.1 can.2 in
    subst (λ (ms : List (List (ℕ × ℕ))). c.args.k < length ms) (sym c.as_mut_slice.ensures.value)
    (slice_get_within c.loop-v.table.moves.items c.args.k []
    (ap (slice_get c.loop-v.table.moves.items) (sym c.loop-v.invariant.1) ∙ is.bare))

pub returns-clause-grows : goal.returns-clause-grows
returns-clause-grows c =
    let len : length (slice_set c.as_mut_slice.result.now c.args.k c.loop-v.expansion.nexts)
    ≡ c.loop-v.table.moves.len =
    length-set c.as_mut_slice.result.now c.args.k c.loop-v.expansion.nexts
    ∙ c.as_mut_slice.ensures.len in
    let written = with_items_is c.loop-v.table.moves
    (slice_set c.as_mut_slice.result.now c.args.k c.loop-v.expansion.nexts) len in
    let count : c.loop-v.v ≡ point_count c.args.asked.game.now = omega arith in
    λ list p can.
    let is = subst (λ (j : ℕ). IsGrowing c.args.asked.game.now c.args.asked.question list j
    c.loop-v.expansion.position (point_count c.args.asked.game.now) c.loop-v.table
    c.loop-v.expansion.nexts) c.loop-v.invariant.1
    (subst (λ (n : ℕ). IsGrowing c.args.asked.game.now c.args.asked.question list
    c.loop-v.expansion.place c.loop-v.expansion.position n c.loop-v.table c.loop-v.expansion.nexts)
    count (c.loop-v.invariant.4 list p can)) in
    let same = read-same c.args.asked.game.now c.args.asked.question list c.args.table.now
    c.args.k p c.loop-v.expansion.position can c.loop-v.invariant.2 in
    let new : Table = record {
      positions = c.loop-v.table.positions;
      moves = with_items c.loop-v.table.moves
          (slice_set c.as_mut_slice.result.now c.args.k c.loop-v.expansion.nexts);
      parents = c.loop-v.table.parents;
      answers = c.loop-v.table.answers;
      claims = c.loop-v.table.claims;
    } in
    subst (λ (q : Position). IsSearch c.args.asked.game.now c.args.asked.question
    (c.args.k ∷ []) (list ++ q ∷ []) new) (sym same)
    (grown-search c.args.asked.game.now c.args.asked.question list c.args.k
    c.loop-v.expansion.position c.loop-v.table new c.loop-v.expansion.nexts is refl
    (written
    ∙ ap (λ (ms : List (List (ℕ × ℕ))). slice_set ms c.args.k c.loop-v.expansion.nexts)
    c.as_mut_slice.ensures.value) refl refl refl)

pub loop-v-preserved-then-not-is_free : goal.loop-v-preserved-then-not-is_free
loop-v-preserved-then-not-is_free c = (
  c.loop-v.invariant.0,
  c.loop-v.invariant.1,
  c.loop-v.invariant.2,
  c.loop-v.invariant.3,
  λ list p can. growing-taken c.args.asked.game.now c.args.asked.question list
      c.loop-v.expansion.place c.loop-v.expansion.position c.loop-v.v c.loop-v.table
      c.loop-v.expansion.nexts (sym c.is_free.ensures ∙ c.if-not-is_free.true)
      (c.loop-v.invariant.4 list p can),
)

pub meet_move-requires-clause-reads : goal.meet_move-requires-clause-reads
meet_move-requires-clause-reads c =
    let can = c.requires.grows in
    let reads = c.requires.reads can.1 can.2.at in
    let same : can.1 ≡ c.loop-v.expansion.position =
    read-same c.args.asked.game.now c.args.asked.question can.0 c.args.table.now c.args.k can.1
    c.loop-v.expansion.position can.2 c.loop-v.invariant.2 in
    record {
      reads = record {
        asked = reads.asked;
        position =
            subst (λ (q : Position). IsPosition c.args.asked.game.now q) same reads.position;
        stands = subst (λ (b : View). IsAt c.args.asked.game.now c.loop-v.expansion.position b)
            (sym c.loop-v.invariant.0.same)
            (subst (λ (q : Position). IsAt c.args.asked.game.now q c.args.board.now) same
            reads.stands);
        fits = c.loop-v.invariant.0.fits;
      };
      going = subst (λ (q : Position). is_over c.args.asked.game.now q ≡ false) same
          (undecided-going c.args.asked.game.now c.args.asked.question can.1 can.2.undecided);
      ahead = subst (λ (b : View). IsAhead c.args.asked.question b c.loop-v.expansion.ahead)
          (sym c.loop-v.invariant.0.same) c.loop-v.invariant.3;
    }

pub meet_move-requires-clause-grows : goal.meet_move-requires-clause-grows
meet_move-requires-clause-grows c =
    let can = c.requires.grows in
    (can.0, c.loop-v.invariant.4 can.0 can.1 can.2)

pub loop-v-preserved : goal.loop-v-preserved
loop-v-preserved c = (
  record {
    same = c.in_ok-meet_move.ensures.kept.same ∙ c.loop-v.invariant.0.same;
    fits = c.in_ok-meet_move.ensures.kept.fits;
  },
  c.in_ok-meet_move.ensures.same.0 ∙ c.loop-v.invariant.1,
  subst (λ (q : Position). q ≡ get_or c.args.table.now.positions.items c.args.k q)
      (sym c.in_ok-meet_move.ensures.same.1) c.loop-v.invariant.2,
  subst (λ (a : Ahead). IsAhead c.args.asked.question c.args.board.now a)
      (sym c.in_ok-meet_move.ensures.same.2) c.loop-v.invariant.3,
  λ list p can. c.in_ok-meet_move.ensures.grows list (c.loop-v.invariant.4 list p can),
)
