-- What is read is within the limits.
use Rattle.std.proofs.Common.{◌≡◌, ◌≢◌, ℕ, suc, ◌+◌, ◌*◌, ◌<◌, ◌≤◌, lit≤, Bool, true, false, cond}
use Rattle.std.proofs.Common.{◌&&◌, ◌||◌, ◌⊎◌, inl, inr, List, [], ◌∷◌, ◌++◌, length, get_or, arith}
use Rattle.std.proofs.Common.{refl, sym, ap, subst, ◌∙◌, Option, Some, None, Result, Ok, Err}
use Rattle.std.specs.Prelude.{◌==◌, nat_lt, nat_le, not, sum_by, is_none, unwrap_or}
use Rattle.pg_files.proofs.Common.{list_all, All, AllByRecursion, FinSet, contains, empty}
use Rattle.pg_files.proofs.Common.{contains-empty, nat_cmp, cases_lt, ltb-true, ltb-false}
use Rattle.pg_files.proofs.Common.{eqb-false, and_parts, or_parts, nat_tests, length-append}
use Rattle.pg_files.proofs.Common.{All-cons, All-push, All-tail, sum_by_push, sum_by-append}
use Rattle.pg_files.proofs.Common.{sum_by-cons, AllPass-from_list_all, Grid, Kind}
use Rattle.pg_base.specs.declared.kind.Kind.TheVariants as kinds
use Rattle.pg_files.proofs.Common.{Side, Graph, Field}
use Rattle.pg_game.specs.declared.field.Field.TheVariants as fields
use Rattle.pg_files.proofs.Common.{LineField, AreBelow, ShareNone, IsLineOf, AreLinesOf, IsBoard}
use Rattle.pg_files.proofs.Common.{IsFit, is_switching, greatest_bias, longest, Bytes, number}
use Rattle.pg_files.proofs.Common.{lines, Cell, is_shape, placements_of, cells_of, ones}
use Rattle.pg_files.proofs.Common.{line_of_cells, words, numbers, then_numbers, kind_of, least}
use Rattle.pg_files.proofs.Common.{unless, reading, go_on}
use Rattle.pg_poly.proofs.Decides.{count_cells, shape_from}
use Rattle.pg_files.specs.Sets.{set_of, ascending, repeats}
use Rattle.pg_files.specs.Key.{rank_of, key_of, belongs, needed_rank}
use Rattle.pg_files.specs.GameFile.{Draft, keyed_faults, keyed_fault, said, keyed, significant}
use Rattle.pg_files.specs.GameFile.{after, numbers_of, first_number, second_number, first, rest}
use Rattle.pg_files.specs.GameFile.{nothing, named, is_header, begins_comment, is_printable}
use Rattle.pg_files.specs.GameFile.{is_misplaced, lacks_grid, placed_in, exceeds_with, is_outside}
use Rattle.pg_files.specs.GameFile.{points_for, field_of, Entry, game, ended, game_of}
use Rattle.pg_files.specs.declared.fault.Fault.{Fault}
use Rattle.pg_files.specs.declared.fault.Fault.TheVariants as faults
use Rattle.pg_files.specs.declared.key.Key.{Key}
use Rattle.pg_files.specs.declared.key.Key.TheVariants as keys
use Rattle.pg_base.proofs.MemberLemmas.{points_below-ascend}
use Rattle.pg_files.proofs.SetLaws.{has, in_set_of, length-ascending, below-ascending, has-below}
use Rattle.pg_files.proofs.SetLaws.{below_more, repeats_apart}

-- ---- tables and tests

split : (f : Fault) (b : Bool) (rows : List (Fault × Bool))
    → (least rows ≡ None → AllByRecursion (λ row. row.1 ≡ false) rows)
    → cond b (Some f) (least rows) ≡ None
    → (b ≡ false) × AllByRecursion (λ row. row.1 ≡ false) rows
split f true rows others e = absurd cc
split f false rows others e = (refl, others e)

-- no test of a table holds
pub none_applies : (rows : List (Fault × Bool))
    → least rows ≡ None
    → AllByRecursion (λ row. row.1 ≡ false) rows
none_applies [] e = tt
none_applies (row ∷ rows) e = split row.0 row.1 rows (none_applies rows) e

pub not_false : (a : Bool) → not a ≡ false → a ≡ true
not_false true e = refl
not_false false e = absurd cc

pub unless_ok : {D : Type 0} (fault : Option Fault) (x y : D)
    → unless fault x ≡ Ok y
    → (fault ≡ None) × (x ≡ y)
unless_ok None x y e = (refl, cc)
unless_ok (Some f) x y e = absurd cc

pub outside_not : (low high n : ℕ) → is_outside low high n ≡ false → (low ≤ n) × (n ≤ high)
outside_not low high n e =
    let parts = or_parts (nat_lt n low) (nat_lt high n) e in
    (ltb-false n low parts.0, ltb-false high n parts.1)

-- ---- what holds of a draft

-- the count that a kind of game needs is within its limits
abbrev pub HasCount : Option Kind → ℕ → ℕ → Type 0
HasCount (Some kinds.Switching) points vertices = (2 ≤ vertices) × (vertices ≤ 500)
HasCount _ points vertices = (1 ≤ points) × (points ≤ 256)

-- a switching game has two different terminals
abbrev pub HasTerminals : Option Kind → ℕ → ℕ → ℕ → Type 0
HasTerminals (Some kinds.Switching) vertices s t = (s < vertices) × (t < vertices) × (s ≢ t)
HasTerminals _ vertices s t = Unit {0}

-- the bias is one that a game of the kind may have
abbrev pub HasBias : Option Kind → ℕ → Type 0
HasBias None bias = Unit {0}
HasBias (Some kind) bias = (1 ≤ bias) × (bias ≤ greatest_bias kind)

-- nothing has been said before its rank
pub record IsBefore (d : Draft) : Type 0 where
  pub kind : d.kind ≡ None → d.rank ≡ 0
  pub grid : d.rank < 2 → d.grid ≡ None
  pub bias : d.rank < 3 → d.bias ≡ 1
  pub lines : d.rank < 4 → (d.lines ≡ []) × (d.ends ≡ [])
  pub x : d.rank < 5 → d.x ≡ empty
  pub y : d.rank < 6 → d.y ≡ empty
  pub turn : d.rank < 7 → d.turn ≡ None

-- the grid and the lines are within the limits
pub record AreLines (points bias : ℕ) (grid : Option Grid) (lines : List (List ℕ)) : Type 0 where
  pub cells : (g : Grid) → grid ≡ Some g → g.width * g.height ≡ points
  pub each : All (IsLineOf points bias) lines
  pub count : length lines ≤ 20000
  pub total : sum_by length lines ≤ 400000

-- the edges are within the limits
pub record AreEnds (vertices : ℕ) (ends : List (ℕ × ℕ)) : Type 0 where
  pub each : All (λ e. (e.0 < vertices) × (e.1 < vertices)) ends
  pub count : length ends ≤ 1000

-- the marks are points and apart
pub record AreMarks (points : ℕ) (x y : FinSet nat_cmp) : Type 0 where
  pub x_below : AreBelow x points
  pub y_below : AreBelow y points
  pub apart : ShareNone x y

-- what the lines so far have said is within the limits
pub record IsSound (d : Draft) : Type 0 where
  pub order : IsBefore d
  pub count : 2 ≤ d.rank → HasCount d.kind d.points d.vertices
  pub terminals : 3 ≤ d.rank → HasTerminals d.kind d.vertices d.s d.t
  pub bias : HasBias d.kind d.bias
  pub lines : AreLines d.points d.bias d.grid d.lines
  pub ends : AreEnds d.vertices d.ends
  pub marks : AreMarks (points_for d.kind d.points (length d.ends)) d.x d.y

-- ---- where a key stands

-- the kind has been said and has the key, whose rank is in order, and nothing that it needs before
-- it lacks
record IsPlaced (kind : Option Kind) (d : Draft) (key : Key) : Type 0 where
  of : Kind
  is : kind ≡ Some of
  fits : belongs of key ≡ true
  up : d.rank ≤ rank_of key
  under : (rank_of key == 4) ≡ false → d.rank < rank_of key
  needed : needed_rank of key ≤ d.rank

placed : (of : Kind) (d : Draft) (key : Key)
    → is_misplaced (Some of) d key ≡ false
    → IsPlaced (Some of) d key
placed of d key e =
    let r = d.rank in
    let k = rank_of key in
    let lacks = nat_lt r (needed_rank of key) || lacks_grid d key in
    let first =
    or_parts (not (belongs of key)) (nat_lt k r || ((k == r && not (k == 4)) || lacks)) e in
    let second = or_parts (nat_lt k r) ((k == r && not (k == 4)) || lacks) first.1 in
    let third = or_parts (k == r && not (k == 4)) lacks second.1 in
    let fourth = or_parts (nat_lt r (needed_rank of key)) (lacks_grid d key) third.1 in
    record {
      of = of;
      is = refl;
      fits = not_false (belongs of key) first.0;
      up = ltb-false k r second.0;
      under = λ h. grind (arith, nat_tests, second.0, third.0, h);
      needed = ltb-false r (needed_rank of key) fourth.0;
    }

-- before the kind only that may come
place : (kind : Option Kind) (d : Draft) (key : Key)
    → nat_lt 1 (rank_of key) ≡ true
    → is_misplaced kind d key ≡ false
    → IsPlaced kind d key
place None d key above e = let both : false ≡ true = sym e ∙ above in absurd cc
place (Some of) d key above e = placed of d key e

-- after the count, and after the terminals where the kind needs them
record IsLater (kind : Option Kind) (r : ℕ) : Type 0 where
  two : 2 ≤ r
  terminals : (v s t : ℕ) → (3 ≤ r → HasTerminals kind v s t) → HasTerminals kind v s t

later_of : (kind : Kind) (r : ℕ) → cond (is_switching kind) 3 2 ≤ r → IsLater (Some kind) r
later_of kinds.MakerBreaker r le = record { two = le; terminals = λ v s t h. tt }
later_of kinds.MakerMaker r le = record { two = le; terminals = λ v s t h. tt }
later_of kinds.AvoiderEnforcer r le = record { two = le; terminals = λ v s t h. tt }
later_of kinds.Switching r le = record { two = omega (arith, le); terminals = λ v s t h. h le }

later : {kind : Option Kind} {d : Draft} {key : Key}
    → IsPlaced kind d key
    → ((of : Kind) → needed_rank of key ≡ cond (is_switching of) 3 2)
    → IsLater kind d.rank
later {d = d} at needs = subst (λ (k : Option Kind). IsLater k d.rank) (sym at.is)
    (later_of at.of d.rank (subst (λ n. n ≤ d.rank) (needs at.of) at.needed))

pub record IsLinesKind (kind : Option Kind) : Type 0 where
  pub points : (p e : ℕ) → points_for kind p e ≡ p
  pub count : (p v : ℕ) → 1 ≤ p → p ≤ 256 → HasCount kind p v
  pub few : (p v : ℕ) → HasCount kind p v → (1 ≤ p) × (p ≤ 256)

pub lines_kind : (kind : Kind) → not (is_switching kind) ≡ true → IsLinesKind (Some kind)
lines_kind kinds.MakerBreaker h = record {
  points = λ p e. refl;
  count = λ p v a b. (a, b);
  few = λ p v h. h;
}
lines_kind kinds.MakerMaker h = record {
  points = λ p e. refl;
  count = λ p v a b. (a, b);
  few = λ p v h. h;
}
lines_kind kinds.AvoiderEnforcer h = record {
  points = λ p e. refl;
  count = λ p v a b. (a, b);
  few = λ p v h. h;
}
lines_kind kinds.Switching h = absurd cc

in_lines : {kind : Option Kind} {d : Draft} {key : Key}
    → IsPlaced kind d key
    → ((of : Kind) → belongs of key ≡ not (is_switching of))
    → IsLinesKind kind
in_lines at has = subst IsLinesKind (sym at.is) (lines_kind at.of (sym (has at.of) ∙ at.fits))

pub record IsGraphKind (kind : Option Kind) : Type 0 where
  count : (p v : ℕ) → 2 ≤ v → v ≤ 500 → HasCount kind p v
  terminals : (v s t : ℕ) → s < v → t < v → s ≢ t → HasTerminals kind v s t

graph_kind : (kind : Kind) → is_switching kind ≡ true → IsGraphKind (Some kind)
graph_kind kinds.MakerBreaker h = absurd cc
graph_kind kinds.MakerMaker h = absurd cc
graph_kind kinds.AvoiderEnforcer h = absurd cc
graph_kind kinds.Switching h =
    record { count = λ p v a b. (a, b); terminals = λ v s t a b c. (a, b, c) }

in_graph : {kind : Option Kind} {d : Draft} {key : Key}
    → IsPlaced kind d key
    → ((of : Kind) → belongs of key ≡ is_switching of)
    → IsGraphKind kind
in_graph at has = subst IsGraphKind (sym at.is) (graph_kind at.of (sym (has at.of) ∙ at.fits))

-- a kind in which Y may claim several points a turn
record IsBiasedKind (kind : Option Kind) : Type 0 where
  terminals : (v s t : ℕ) → HasTerminals kind v s t
  bias : (b : ℕ) → 1 ≤ b → b ≤ 7 → HasBias kind b

biased_kind : (kind : Kind) → nat_lt 1 (greatest_bias kind) ≡ true → IsBiasedKind (Some kind)
biased_kind kinds.MakerBreaker h =
    record { terminals = λ v s t. tt; bias = λ b some few. (some, few) }
biased_kind kinds.MakerMaker h = absurd cc
biased_kind kinds.AvoiderEnforcer h =
    record { terminals = λ v s t. tt; bias = λ b some few. (some, few) }
biased_kind kinds.Switching h = absurd cc

in_biased : {kind : Option Kind} {d : Draft} → IsPlaced kind d keys.Bias → IsBiasedKind kind
in_biased at = subst IsBiasedKind (sym at.is) (biased_kind at.of at.fits)

one_fits : (kind : Option Kind) → HasBias kind 1
one_fits None = tt
one_fits (Some kinds.MakerBreaker) = (lit≤ tt, lit≤ tt)
one_fits (Some kinds.MakerMaker) = (lit≤ tt, lit≤ tt)
one_fits (Some kinds.AvoiderEnforcer) = (lit≤ tt, lit≤ tt)
one_fits (Some kinds.Switching) = (lit≤ tt, lit≤ tt)

kind_place : (kind : Option Kind) (d : Draft)
    → is_misplaced kind d keys.Kind ≡ false
    → (kind ≡ None → d.rank ≡ 0)
    → d.rank ≡ 0
kind_place None d h first = first refl
kind_place (Some of) d h first = omega (arith, (placed of d keys.Kind h).under refl)

-- ---- the parts

pub none_below : (limit : ℕ) (s : FinSet nat_cmp) → s ≡ empty → AreBelow s limit
none_below limit s e = λ v h.
    let none : contains s v ≡ false =
    ap (λ (u : FinSet nat_cmp). contains u v) e ∙ contains-empty nat_cmp v in
    absurd cc

pub no_marks : (limit : ℕ) (x y : FinSet nat_cmp) → x ≡ empty → y ≡ empty → AreMarks limit x y
no_marks limit x y e f = record {
  x_below = none_below limit x e;
  y_below = none_below limit y f;
  apart = λ v h. ap (λ (u : FinSet nat_cmp). contains u v) f ∙ contains-empty nat_cmp v;
}

pub set_below : (limit : ℕ) (ns : List ℕ)
    → list_all (λ n. nat_lt n limit) ns ≡ true
    → AreBelow (set_of ns) limit
set_below limit ns all =
    λ v h. ltb-true v limit (has-below limit ns v all (sym (in_set_of ns v) ∙ h))

no_lines : (points bias : ℕ) (grid : Option Grid) (lines : List (List ℕ))
    → ((g : Grid) → grid ≡ Some g → g.width * g.height ≡ points)
    → lines ≡ []
    → AreLines points bias grid lines
no_lines points bias grid lines cells e = rw e (record {
  cells = cells;
  each = λ i d lt. absurd (omega arith);
  count = lit≤ tt;
  total = lit≤ tt;
})

pub no_ends : (vertices : ℕ) (ends : List (ℕ × ℕ)) → ends ≡ [] → AreEnds vertices ends
no_ends vertices ends e = rw e (record { each = λ i d lt. absurd (omega arith); count = lit≤ tt })

line_is : (points bias : ℕ) (ns : List ℕ)
    → points ≤ 256
    → list_all (λ n. nat_lt n points) ns ≡ true
    → repeats empty ns ≡ false
    → 0 < length ns
    → length ns ≤ longest bias
    → IsLineOf points bias (ascending ns)
line_is points bias ns few below different some short =
    let small = below_more points ns (omega arith) below in
    let len = length-ascending ns small different in
    let all =
    AllPass-from_list_all (λ n. nat_lt n points) (ascending ns) (below-ascending points ns below) in
    record {
      some = omega arith;
      short = omega arith;
      ascending = points_below-ascend (set_of ns) 1024;
      range = λ i d lt. ltb-true _ points (all i d lt);
    }

more_lines : (points bias : ℕ) (grid : Option Grid) (lines : List (List ℕ)) (line : List ℕ)
    → AreLines points bias grid lines
    → IsLineOf points bias line
    → length lines < 20000
    → sum_by length lines + length line ≤ 400000
    → AreLines points bias grid (lines ++ line ∷ [])
more_lines points bias grid lines line h one few summed = record {
  cells = h.cells;
  each = All-push (IsLineOf points bias) lines line h.each one;
  count = omega (arith, length-append lines (line ∷ []));
  total = omega (arith, sum_by_push length lines line);
}

pub more_ends : (vertices a b : ℕ) (ends : List (ℕ × ℕ))
    → AreEnds vertices ends
    → a < vertices
    → b < vertices
    → length ends < 1000
    → AreEnds vertices (ends ++ (a, b) ∷ [])
more_ends vertices a b ends h first second few = record {
  each = All-push (λ e. (e.0 < vertices) × (e.1 < vertices)) ends (a, b) h.each (first, second);
  count = omega (arith, length-append ends ((a, b) ∷ []));
}

-- words that are numbers are as many numbers
length-numbers : (ws : List Bytes)
    → is_none (numbers ws) ≡ false
    → length (numbers_of ws) ≡ length ws
unfolding numbers
length-numbers [] some = refl
length-numbers (w ∷ ws) some =
    step (number w) (numbers ws) (length ws) (λ h. length-numbers ws h) some
  where
    step : (n : Option ℕ) (ns : Option (List ℕ)) (k : ℕ)
        → (is_none ns ≡ false → length (unwrap_or ns []) ≡ k)
        → is_none (then_numbers n ns) ≡ false
        → length (unwrap_or (then_numbers n ns) []) ≡ suc k
    step None ns k h some = absurd cc
    step (Some n) None k h some = absurd cc
    step (Some n) (Some ns) k h some = ap (λ (m : ℕ). suc m) (h refl)

-- two numbers of which each is below a limit
pub two_below : (limit : ℕ) (arguments : List Bytes)
    → length arguments ≡ 2
    → is_none (numbers arguments) ≡ false
    → list_all (λ n. nat_lt n limit) (numbers_of arguments) ≡ true
    → (first_number (numbers_of arguments) < limit) × (second_number (numbers_of arguments) < limit)
two_below limit arguments two some all =
    pair_below limit (numbers_of arguments) (length-numbers arguments some ∙ two) all
  where
    pair_below : (limit : ℕ) (ns : List ℕ)
        → length ns ≡ 2
        → list_all (λ n. nat_lt n limit) ns ≡ true
        → (first_number ns < limit) × (second_number ns < limit)
    pair_below limit [] two all = absurd (omega arith)
    pair_below limit (a ∷ []) two all = absurd (omega arith)
    pair_below limit (a ∷ b ∷ ns) two all =
        let x = and_parts (nat_lt a limit) (list_all (λ n. nat_lt n limit) (b ∷ ns)) all in
        let y = and_parts (nat_lt b limit) (list_all (λ n. nat_lt n limit) ns) x.1 in
        (ltb-true a limit x.0, ltb-true b limit y.0)

-- ---- each key

has_kind : (d : Draft) → IsBefore d → 1 ≤ d.rank → d.kind ≡ None → ⊥
has_kind d order low e = let zero : d.rank ≡ 0 = order.kind e in omega arith

-- the parts of a draft that come behind a rank; the others are as before the first line
abbrev behind : ℕ → Draft → Draft
behind r d = record nothing {
  grid = cond (nat_lt r 2) d.grid None;
  bias = cond (nat_lt r 3) d.bias 1;
  lines = cond (nat_lt r 4) d.lines [];
  ends = cond (nat_lt r 4) d.ends [];
  x = cond (nat_lt r 5) d.x empty;
  y = cond (nat_lt r 6) d.y empty;
  turn = cond (nat_lt r 7) d.turn None;
}

same_part : {A : Type 0} (r k : ℕ) (a b c : A)
    → r < k
    → cond (nat_lt r k) a c ≡ cond (nat_lt r k) b c
    → a ≡ b
same_part r k a b c lt e = step (nat_lt r k) a b c (grind (arith, nat_tests, lt)) e
  where
    step : {A : Type 0} (t : Bool) (a b c : A) → t ≡ true → cond t a c ≡ cond t b c → a ≡ b
    step true a b c h e = e
    step false a b c h e = absurd cc

-- a line leaves the parts behind its rank as they were, and nothing has said them
raised : (d new : Draft)
    → IsBefore d
    → 1 ≤ d.rank
    → d.rank ≤ new.rank
    → new.kind ≡ d.kind
    → behind new.rank new ≡ behind new.rank d
    → IsBefore new
raised d new order some up kind same = record {
  kind = λ none. absurd (has_kind d order some (sym kind ∙ none));
  grid = λ lt. same_part new.rank 2 new.grid d.grid None lt (ap (λ (u : Draft). u.grid) same)
      ∙ order.grid (omega (arith, lt, up));
  bias = λ lt. same_part new.rank 3 new.bias d.bias 1 lt (ap (λ (u : Draft). u.bias) same)
      ∙ order.bias (omega (arith, lt, up));
  lines = λ lt. let old = order.lines (omega (arith, lt, up)) in (
    same_part new.rank 4 new.lines d.lines [] lt (ap (λ (u : Draft). u.lines) same) ∙ old.0,
    same_part new.rank 4 new.ends d.ends [] lt (ap (λ (u : Draft). u.ends) same) ∙ old.1,
  );
  x = λ lt. same_part new.rank 5 new.x d.x empty lt (ap (λ (u : Draft). u.x) same)
      ∙ order.x (omega (arith, lt, up));
  y = λ lt. same_part new.rank 6 new.y d.y empty lt (ap (λ (u : Draft). u.y) same)
      ∙ order.y (omega (arith, lt, up));
  turn = λ lt. same_part new.rank 7 new.turn d.turn None lt (ap (λ (u : Draft). u.turn) same)
      ∙ order.turn (omega (arith, lt, up));
}

sound_turn : (d : Draft) (arguments : List Bytes)
    → IsSound d
    → keyed_fault d keys.Turn arguments ≡ None
    → IsSound (said d keys.Turn arguments)
sound_turn d arguments sound e =
    let rows = none_applies (keyed_faults d keys.Turn arguments) e in
    let at = place d.kind d keys.Turn refl rows.1.0 in
    let before = later at (λ of. refl) in
    let two = before.two in
    record {
      order = raised d (said d keys.Turn arguments) sound.order (omega (arith, two))
          (omega (arith, at.up)) refl refl;
      count = λ h. sound.count two;
      terminals = λ h. before.terminals d.vertices d.s d.t sound.terminals;
      bias = sound.bias;
      lines = sound.lines;
      ends = sound.ends;
      marks = sound.marks;
    }

sound_x : (d : Draft) (arguments : List Bytes)
    → IsSound d
    → keyed_fault d keys.X arguments ≡ None
    → IsSound (said d keys.X arguments)
sound_x d arguments sound e =
    let rows = none_applies (keyed_faults d keys.X arguments) e in
    let at = place d.kind d keys.X refl rows.1.0 in
    let before = later at (λ of. refl) in
    let two = before.two in
    let below = not_false
    (list_all (λ n. nat_lt n (points_for d.kind d.points (length d.ends))) (numbers_of arguments))
    rows.1.1.1.0 in
    let none = sound.order.y (omega (arith, at.up)) in
    record {
      order = raised d (said d keys.X arguments) sound.order (omega (arith, two))
          (omega (arith, at.up)) refl refl;
      count = λ h. sound.count two;
      terminals = λ h. before.terminals d.vertices d.s d.t sound.terminals;
      bias = sound.bias;
      lines = sound.lines;
      ends = sound.ends;
      marks = record {
        x_below =
            set_below (points_for d.kind d.points (length d.ends)) (numbers_of arguments) below;
        y_below = none_below (points_for d.kind d.points (length d.ends)) d.y none;
        apart = λ v h. ap (λ (u : FinSet nat_cmp). contains u v) none ∙ contains-empty nat_cmp v;
      };
    }

sound_y : (d : Draft) (arguments : List Bytes)
    → IsSound d
    → keyed_fault d keys.Y arguments ≡ None
    → IsSound (said d keys.Y arguments)
sound_y d arguments sound e =
    let rows = none_applies (keyed_faults d keys.Y arguments) e in
    let at = place d.kind d keys.Y refl rows.1.0 in
    let before = later at (λ of. refl) in
    let two = before.two in
    let below = not_false
    (list_all (λ n. nat_lt n (points_for d.kind d.points (length d.ends))) (numbers_of arguments))
    rows.1.1.1.0 in
    record {
      order = raised d (said d keys.Y arguments) sound.order (omega (arith, two))
          (omega (arith, at.up)) refl refl;
      count = λ h. sound.count two;
      terminals = λ h. before.terminals d.vertices d.s d.t sound.terminals;
      bias = sound.bias;
      lines = sound.lines;
      ends = sound.ends;
      marks = record {
        x_below = sound.marks.x_below;
        y_below =
            set_below (points_for d.kind d.points (length d.ends)) (numbers_of arguments) below;
        apart = λ v h. in_set_of (numbers_of arguments) v
            ∙ repeats_apart d.x (numbers_of arguments) v rows.1.1.1.1.0 h;
      };
    }

sound_line : (d : Draft) (arguments : List Bytes)
    → IsSound d
    → keyed_fault d keys.Line arguments ≡ None
    → IsSound (said d keys.Line arguments)
sound_line d arguments sound e =
    let rows = none_applies (keyed_faults d keys.Line arguments) e in
    let ns = numbers_of arguments in
    let at = place d.kind d keys.Line refl rows.1.0 in
    let before = later at (λ of. refl) in
    let two = before.two in
    let count = sound.count two in
    let kind = in_lines at (λ of. refl) in
    let same = kind.points d.points (length d.ends) in
    let few = (kind.few d.points d.vertices count).1 in
    let below = ap (λ n. list_all (λ p. nat_lt p n) ns) (sym same)
    ∙ not_false (list_all (λ n. nat_lt n (points_for d.kind d.points (length d.ends))) ns)
    rows.1.1.1.0 in
    let len = or_parts (length ns == 0) (nat_lt (longest d.bias) (length ns)) rows.1.1.1.1.1.0 in
    let some : 0 < length ns = grind (arith, nat_tests, len.0) in
    let room = or_parts (nat_le 20000 (length d.lines))
    (nat_lt 400000 (sum_by length d.lines + length ns)) rows.1.1.1.1.1.1.0 in
    let fewer : length d.lines < 20000 = grind (arith, nat_tests, room.0) in
    let kept =
    length-ascending ns (below_more d.points ns (omega (arith, few)) below) rows.1.1.1.1.0 in
    record {
      order = raised d (said d keys.Line arguments) sound.order (omega (arith, two))
          (omega (arith, at.up)) refl refl;
      count = λ h. count;
      terminals = λ h. before.terminals d.vertices d.s d.t sound.terminals;
      bias = sound.bias;
      lines = more_lines d.points d.bias d.grid d.lines (ascending ns) sound.lines
          (line_is d.points d.bias ns few below rows.1.1.1.1.0 some
          (ltb-false (longest d.bias) (length ns) len.1)) fewer
          (omega (arith, kept, ltb-false 400000 (sum_by length d.lines + length ns) room.1));
      ends = sound.ends;
      marks = sound.marks;
    }

sound_edge : (d : Draft) (arguments : List Bytes)
    → IsSound d
    → keyed_fault d keys.Edge arguments ≡ None
    → IsSound (said d keys.Edge arguments)
sound_edge d arguments sound e =
    let rows = none_applies (keyed_faults d keys.Edge arguments) e in
    let ns = numbers_of arguments in
    let at = place d.kind d keys.Edge refl rows.1.0 in
    let before = later at (λ of. refl) in
    let two = before.two in
    let form = or_parts (not (length arguments == 2)) (is_none (numbers arguments)) rows.1.1.0 in
    let pair : length arguments ≡ 2 = grind (arith, nat_tests, form.0) in
    let each = two_below d.vertices arguments pair form.1
    (not_false (list_all (λ n. nat_lt n d.vertices) ns) rows.1.1.1.0) in
    let room : nat_le 1000 (length d.ends) ≡ false = rows.1.1.1.1.1.1.0 in
    let fewer : length d.ends < 1000 = grind (arith, nat_tests) in
    record {
      order = raised d (said d keys.Edge arguments) sound.order (omega (arith, two))
          (omega (arith, at.up)) refl refl;
      count = λ h. sound.count two;
      terminals = λ h. before.terminals d.vertices d.s d.t sound.terminals;
      bias = sound.bias;
      lines = sound.lines;
      ends = more_ends d.vertices (first_number ns)
          (second_number ns) d.ends sound.ends each.0 each.1 fewer;
      marks = no_marks _ d.x d.y (sound.order.x (omega (arith, at.up)))
          (sound.order.y (omega (arith, at.up)));
    }

sound_terminals : (d : Draft) (arguments : List Bytes)
    → IsSound d
    → keyed_fault d keys.Terminals arguments ≡ None
    → IsSound (said d keys.Terminals arguments)
sound_terminals d arguments sound e =
    let rows = none_applies (keyed_faults d keys.Terminals arguments) e in
    let ns = numbers_of arguments in
    let at = place d.kind d keys.Terminals refl rows.1.0 in
    let two : 2 ≤ d.rank = at.needed in
    let form = or_parts (not (length arguments == 2)) (is_none (numbers arguments)) rows.1.1.0 in
    let pair : length arguments ≡ 2 = grind (arith, nat_tests, form.0) in
    let each = two_below d.vertices arguments pair form.1
    (not_false (list_all (λ n. nat_lt n d.vertices) ns) rows.1.1.1.0) in
    let one : (first_number ns == second_number ns) ≡ false = rows.1.1.1.1.1.1.1.0 in
    record {
      order = raised d (said d keys.Terminals arguments) sound.order (omega (arith, two))
          (omega (arith, at.up)) refl refl;
      count = λ h. sound.count two;
      terminals = λ h. (in_graph at (λ of. refl)).terminals d.vertices (first_number ns)
          (second_number ns) each.0 each.1 (eqb-false (first_number ns) (second_number ns) one);
      bias = sound.bias;
      lines = sound.lines;
      ends = sound.ends;
      marks = sound.marks;
    }

sound_bias : (d : Draft) (arguments : List Bytes)
    → IsSound d
    → keyed_fault d keys.Bias arguments ≡ None
    → IsSound (said d keys.Bias arguments)
sound_bias d arguments sound e =
    let rows = none_applies (keyed_faults d keys.Bias arguments) e in
    let n = first_number (numbers_of arguments) in
    let at = place d.kind d keys.Bias refl rows.1.0 in
    let two : 2 ≤ d.rank = at.needed in
    let biased = in_biased at in
    let limits = outside_not 1 7 n rows.1.1.1.1.1.1.0 in
    record {
      order = raised d (said d keys.Bias arguments) sound.order (omega (arith, two))
          (omega (arith, at.up)) refl refl;
      count = λ h. sound.count two;
      terminals = λ h. biased.terminals d.vertices d.s d.t;
      bias = biased.bias n limits.0 limits.1;
      lines = no_lines d.points n d.grid d.lines sound.lines.cells
          (sound.order.lines (omega (arith, at.up))).0;
      ends = sound.ends;
      marks = sound.marks;
    }

sound_vertices : (d : Draft) (arguments : List Bytes)
    → IsSound d
    → keyed_fault d keys.Vertices arguments ≡ None
    → IsSound (said d keys.Vertices arguments)
sound_vertices d arguments sound e =
    let rows = none_applies (keyed_faults d keys.Vertices arguments) e in
    let n = first_number (numbers_of arguments) in
    let at = place d.kind d keys.Vertices refl rows.1.0 in
    let limits = outside_not 2 500 n rows.1.1.1.1.1.1.0 in
    record {
      order = raised d (said d keys.Vertices arguments) sound.order at.needed
          (omega (arith, at.up)) refl refl;
      count = λ h. (in_graph at (λ of. refl)).count d.points n limits.0 limits.1;
      terminals = λ h. absurd (omega arith);
      bias = sound.bias;
      lines = sound.lines;
      ends = no_ends n d.ends (sound.order.lines (omega (arith, at.up))).1;
      marks = sound.marks;
    }

-- a game with lines is given its points, and its grid where they are the cells of one
sized : (d : Draft) (n : ℕ) (grid : Option Grid)
    → IsSound d
    → 1 ≤ d.rank
    → d.rank ≤ 2
    → IsLinesKind d.kind
    → is_outside 1 256 n ≡ false
    → ((g : Grid) → grid ≡ Some g → g.width * g.height ≡ n)
    → IsSound (record d { rank = 2; points = n; grid = grid })
sized d n grid sound some up kind inside cells =
    let limits = outside_not 1 256 n inside in
    record {
      order = raised d (record d {
        rank = 2;
        points = n;
        grid = grid;
      }) sound.order some up refl refl;
      count = λ h. kind.count n d.vertices limits.0 limits.1;
      terminals = λ h. absurd (omega arith);
      bias = sound.bias;
      lines = no_lines n d.bias grid d.lines cells (sound.order.lines (omega (arith, up))).0;
      ends = sound.ends;
      marks = no_marks _ d.x d.y (sound.order.x (omega (arith, up)))
          (sound.order.y (omega (arith, up)));
    }

sound_points : (d : Draft) (arguments : List Bytes)
    → IsSound d
    → keyed_fault d keys.Points arguments ≡ None
    → IsSound (said d keys.Points arguments)
sound_points d arguments sound e =
    let rows = none_applies (keyed_faults d keys.Points arguments) e in
    let at = place d.kind d keys.Points refl rows.1.0 in
    let bare : d.grid ≡ None = sound.order.grid (at.under refl) in
    sized d (first_number (numbers_of arguments)) d.grid sound at.needed at.up
    (in_lines at (λ of. refl)) rows.1.1.1.1.1.1.0 (λ g is. absurd cc)

same_grid : (g h : Grid) → ◌≡◌ {A = Option Grid} (Some g) (Some h) → g ≡ h
same_grid g h e = cc

sound_grid : (d : Draft) (arguments : List Bytes)
    → IsSound d
    → keyed_fault d keys.Grid arguments ≡ None
    → IsSound (said d keys.Grid arguments)
sound_grid d arguments sound e =
    let rows = none_applies (keyed_faults d keys.Grid arguments) e in
    let grid : Grid = record {
      width = first_number (numbers_of arguments);
      height = second_number (numbers_of arguments);
    } in
    let at = place d.kind d keys.Grid refl rows.1.0 in
    sized d (grid.width * grid.height) (Some grid) sound at.needed at.up (in_lines at (λ of. refl))
    rows.1.1.1.1.1.1.0 (λ g is. ap (λ (k : Grid). k.width * k.height) (sym (same_grid grid g is)))

known : (kind : Option Kind) → is_none kind ≡ false → kind ≡ None → ⊥
known None some e = absurd cc
known (Some kind) some e = absurd cc

sound_kind : (d : Draft) (arguments : List Bytes)
    → IsSound d
    → keyed_fault d keys.Kind arguments ≡ None
    → IsSound (said d keys.Kind arguments)
sound_kind d [] sound e =
    let rows = none_applies (keyed_faults d keys.Kind []) e in
    absurd (cc rows.1.1.0)
sound_kind d (word ∷ others) sound e =
    let rows = none_applies (keyed_faults d keys.Kind (word ∷ others)) e in
    let zero = kind_place d.kind d rows.1.0 sound.order.kind in
    record {
      order = record {
        kind = λ none. absurd (known (kind_of word) rows.0 none);
        grid = λ lt. sound.order.grid (omega arith);
        bias = λ lt. sound.order.bias (omega arith);
        lines = λ lt. sound.order.lines (omega arith);
        x = λ lt. sound.order.x (omega arith);
        y = λ lt. sound.order.y (omega arith);
        turn = λ lt. sound.order.turn (omega arith);
      };
      count = λ h. absurd (omega arith);
      terminals = λ h. absurd (omega arith);
      bias = subst (λ (b : ℕ). HasBias (kind_of word) b) (sym (sound.order.bias (omega arith)))
          (one_fits (kind_of word));
      lines = sound.lines;
      ends = sound.ends;
      marks = no_marks _ d.x d.y (sound.order.x (omega arith)) (sound.order.y (omega arith));
    }

-- as many lines, with as many points each
pub equal_lines : (count : ℕ) (lines : List (List ℕ))
    → All (λ line. length line ≡ count) lines
    → sum_by length lines ≡ length lines * count
equal_lines count [] all = let none : ◌≡◌ {A = ℕ} 0 (0 * count) = omega arith in none
equal_lines count (line ∷ lines) all =
    let own = all 0 line (omega arith) in
    let rest = equal_lines count lines (All-tail (λ l. length l ≡ count) line lines all) in
    let first = sum_by-cons length line lines in
    let more : (length lines + 1) * count ≡ length lines * count + count = grind arith in
    let size : length (line ∷ lines) ≡ length lines + 1 = omega arith in
    first
    ∙ (let sum : length line + sum_by length lines ≡ length lines * count + count = omega arith in
    sum) ∙ sym (ap (λ n. n * count) size ∙ more)

all_append : {A : Type 0} (P : A → Type 0) (xs ys : List A) → All P xs → All P ys → All P (xs ++ ys)
all_append P [] ys h k = k
all_append P (x ∷ xs) ys h k =
    All-cons P x (xs ++ ys) (h 0 x (omega arith)) (all_append P xs ys (All-tail P x xs h) k)

further_lines : (points bias : ℕ) (grid : Option Grid) (lines more : List (List ℕ))
    → AreLines points bias grid lines
    → All (IsLineOf points bias) more
    → length lines + length more ≤ 20000
    → sum_by length lines + sum_by length more ≤ 400000
    → AreLines points bias grid (lines ++ more)
further_lines points bias grid lines more h each few summed = record {
  cells = h.cells;
  each = all_append (IsLineOf points bias) lines more h.each each;
  count = omega (arith, length-append lines more);
  total = omega (arith, sum_by-append length lines more);
}

placed_fit : (points bias : ℕ) (grid : Option Grid) (cells : List Cell)
    → ((g : Grid) → grid ≡ Some g → g.width * g.height ≡ points)
    → 0 < length cells
    → length cells ≤ longest bias
    → All (IsLineOf points bias) (placed_in grid cells)
placed_fit points bias None cells is some few = λ i d lt. absurd (omega arith)
placed_fit points bias (Some grid) cells is some few = λ i d lt.
    let line = line_of_cells grid cells some i d lt in
    let count = line.count in
    record {
      some = omega arith;
      short = omega arith;
      ascending = line.ascending;
      range = λ k e inside. subst (λ n. get_or (get_or (placements_of grid cells) i d) k e < n)
          (is grid refl) (line.range k e inside);
    }

sound_shape : (d : Draft) (arguments : List Bytes)
    → IsSound d
    → keyed_fault d keys.Shape arguments ≡ None
    → IsSound (said d keys.Shape arguments)
sound_shape d arguments sound e =
    let word = first arguments in
    let rows = none_applies (keyed_faults d keys.Shape arguments) e in
    let at = place d.kind d keys.Shape refl rows.1.0 in
    let before = later at (λ of. refl) in
    let two = before.two in
    let is = not_false (is_shape word) rows.1.1.1.1.1.0 in
    let shape = shape_from word is in
    let small = ltb-false (longest d.bias) (ones word) rows.1.1.1.0 in
    let count = count_cells 0 0 word in
    let more = placed_in d.grid (cells_of word) in
    let within = or_parts (nat_lt 20000 (length d.lines + length more))
    (nat_lt 400000 (sum_by length d.lines + sum_by length more))
    (sym (ap (λ b. b && exceeds_with d more) is) ∙ rows.1.1.1.1.0) in
    record {
      order = raised d (said d keys.Shape arguments) sound.order (omega (arith, two))
          (omega (arith, at.up)) refl refl;
      count = λ h. sound.count two;
      terminals = λ h. before.terminals d.vertices d.s d.t sound.terminals;
      bias = sound.bias;
      lines = further_lines d.points d.bias d.grid d.lines more sound.lines
          (placed_fit d.points d.bias d.grid (cells_of word) sound.lines.cells shape.some
          (omega arith)) (ltb-false _ _ within.0) (ltb-false _ _ within.1);
      ends = sound.ends;
      marks = sound.marks;
    }

sound_key : (d : Draft) (key : Key) (arguments : List Bytes)
    → IsSound d
    → keyed_fault d key arguments ≡ None
    → IsSound (said d key arguments)
sound_key d keys.Kind arguments sound e = sound_kind d arguments sound e
sound_key d keys.Points arguments sound e = sound_points d arguments sound e
sound_key d keys.Grid arguments sound e = sound_grid d arguments sound e
sound_key d keys.Vertices arguments sound e = sound_vertices d arguments sound e
sound_key d keys.Terminals arguments sound e = sound_terminals d arguments sound e
sound_key d keys.Bias arguments sound e = sound_bias d arguments sound e
sound_key d keys.Line arguments sound e = sound_line d arguments sound e
sound_key d keys.Shape arguments sound e = sound_shape d arguments sound e
sound_key d keys.Edge arguments sound e = sound_edge d arguments sound e
sound_key d keys.X arguments sound e = sound_x d arguments sound e
sound_key d keys.Y arguments sound e = sound_y d arguments sound e
sound_key d keys.Turn arguments sound e = sound_turn d arguments sound e

-- ---- lines

pub keyed_ok : (d next : Draft) (key : Key) (arguments : List Bytes)
    → keyed d key arguments ≡ Ok next
    → (keyed_fault d key arguments ≡ None) × (said d key arguments ≡ next)
unfolding keyed
keyed_ok d next key arguments e =
    unless_ok (keyed_fault d key arguments) (said d key arguments) next e

abbrev pub done : {A B : Type 0} → A → Result A B
done x = Ok x

pub ok_is : {A B : Type 0} (x y : A) → ◌≡◌ {A = Result A B} (Ok x) (Ok y) → x ≡ y
ok_is x y e = cc

sound_named : (d next : Draft) (key : Option Key) (arguments : List Bytes)
    → IsSound d
    → named d key arguments ≡ Ok next
    → IsSound next
sound_named d next None arguments sound e = absurd cc
sound_named d next (Some key) arguments sound e =
    let found = keyed_ok d next key arguments e in
    subst IsSound found.1 (sound_key d key arguments sound found.0)

begins : (d : Draft) → IsSound d → IsSound (record d { begun = true })
begins d sound = record {
  order = record {
    kind = sound.order.kind;
    grid = sound.order.grid;
    bias = sound.order.bias;
    lines = sound.order.lines;
    x = sound.order.x;
    y = sound.order.y;
    turn = sound.order.turn;
  };
  count = sound.count;
  terminals = sound.terminals;
  bias = sound.bias;
  lines = sound.lines;
  ends = sound.ends;
  marks = sound.marks;
}

-- an if-chain, by the way that the test went
pub chosen : {A : Type 0} (b : Bool) (x y z : A)
    → cond b x y ≡ z
    → ((b ≡ true) × (x ≡ z)) ⊎ ((b ≡ false) × (y ≡ z))
chosen true x y z e = inl (refl, e)
chosen false x y z e = inr (refl, e)

sound_significant : (d next : Draft) (ws : List Bytes)
    → IsSound d
    → significant d ws ≡ Ok next
    → IsSound next
unfolding significant
sound_significant d next ws sound e = elim (chosen d.begun (named d (key_of (first ws)) (rest ws))
    (cond (is_header ws) (Ok (record d { begun = true })) (Err faults.Header)) (Ok next) e) [
      | inl h ↦ sound_named d next (key_of (first ws)) (rest ws) sound h.1
      | inr h ↦ elim (chosen (is_header ws) (done (record d {
        begun = true;
      })) (Err faults.Header) (Ok next) h.1) [
        | inl k ↦ subst IsSound (ok_is (record d { begun = true }) next k.1) (begins d sound)
        | inr k ↦ absurd (cc k.1)
      ]
    ]

pub sound_after : (d next : Draft) (line : Bytes)
    → IsSound d
    → after d line ≡ Ok next
    → IsSound next
unfolding after
sound_after d next line sound e = elim (chosen (not (list_all is_printable line)) (Err faults.Bytes)
    (cond (begins_comment line || length (words line) == 0) (Ok d) (significant d (words line)))
    (Ok next) e) [
      | inl h ↦ absurd (cc h.1)
      | inr h ↦ elim (chosen (begins_comment line || length (words line) == 0) (done d)
          (significant d (words line)) (Ok next) h.1) [
            | inl k ↦ subst IsSound (ok_is d next k.1) sound
            | inr k ↦ sound_significant d next (words line) sound k.1
          ]
    ]

sound_step : (n : ℕ) (r : Result Draft Fault) (others : List Bytes) (last : Draft)
    → ((next : Draft) → r ≡ Ok next → reading after (n + 1) next others ≡ Ok last → IsSound last)
    → go_on n r (λ next. reading after (n + 1) next others) ≡ Ok last
    → IsSound last
sound_step n (Ok next) others last h e = h next refl e
sound_step n (Err f) others last h e = absurd cc

pub sound_reading : (n : ℕ) (d last : Draft) (ls : List Bytes)
    → IsSound d
    → reading after n d ls ≡ Ok last
    → IsSound last
unfolding reading
sound_reading n d last [] sound e = subst IsSound (ok_is d last e) sound
sound_reading n d last (line ∷ others) sound e = sound_step n (after d line) others last
    (λ next went f. sound_reading (n + 1) next last others (sound_after d next line sound went) f) e

pub sound_nothing : IsSound nothing
sound_nothing = record {
  order = record {
    kind = λ e. refl;
    grid = λ lt. refl;
    bias = λ lt. refl;
    lines = λ lt. (refl, refl);
    x = λ lt. refl;
    y = λ lt. refl;
    turn = λ lt. refl;
  };
  count = λ h. absurd (omega arith);
  terminals = λ h. absurd (omega arith);
  bias = tt;
  lines = no_lines 0 1 None [] (λ g is. absurd cc) refl;
  ends = no_ends 0 [] refl;
  marks = no_marks 0 empty empty refl refl;
}

-- ---- the game at the end

same_lines : (f g : LineField) → ◌≡◌ {A = Field} (fields.Lines f) (fields.Lines g) → f ≡ g
same_lines f g e = cc

same_graph : (f g : Graph) → ◌≡◌ {A = Field} (fields.Graph f) (fields.Graph g) → f ≡ g
same_graph f g e = cc

pub lines_field : (points bias : ℕ) (grid : Option Grid) (lines : List (List ℕ))
    → 1 ≤ points
    → points ≤ 256
    → AreLines points bias grid lines
    → AreLinesOf bias (record { points = points; grid = grid; lines = lines })
lines_field points bias grid lines some few h = record {
  some_points = some;
  few_points = few;
  cells = h.cells;
  few_lines = h.count;
  few_summed = h.total;
  lines = h.each;
}

graph_field : (v s t : ℕ) (ends : List (ℕ × ℕ))
    → 2 ≤ v
    → v ≤ 500
    → s < v
    → t < v
    → s ≢ t
    → AreEnds v ends
    → IsBoard (record { vertices = v; s = s; t = t; ends = ends })
graph_field v s t ends some few first second apart h = record {
  some_vertices = some;
  few_vertices = few;
  few_edges = h.count;
  ends = h.each;
  s_range = first;
  t_range = second;
  apart = apart;
}

fits_lines : (kind : Kind) (f : LineField) (x y : FinSet nat_cmp) (bias : ℕ)
    → false ≡ is_switching kind
    → HasBias (Some kind) bias
    → AreLinesOf bias f
    → AreMarks f.points x y
    → IsFit kind (fields.Lines f) x y bias
fits_lines kind f x y bias is within h marks = record {
  some_bias = within.0;
  few_bias = within.1;
  within = record {
    kind_fits = is;
    on_lines = λ g e. subst (λ (k : LineField). AreLinesOf bias k) (same_lines f g e) h;
    on_graph = λ g e. absurd cc;
  };
  x_range = marks.x_below;
  y_range = marks.y_below;
  disjoint = marks.apart;
}

fits_graph : (f : Graph) (x y : FinSet nat_cmp) (bias : ℕ)
    → HasBias (Some kinds.Switching) bias
    → IsBoard f
    → AreMarks (length f.ends) x y
    → IsFit kinds.Switching (fields.Graph f) x y bias
fits_graph f x y bias within h marks = record {
  some_bias = within.0;
  few_bias = within.1;
  within = record {
    kind_fits = refl;
    on_lines = λ g e. absurd cc;
    on_graph = λ g e. subst IsBoard (same_graph f g e) h;
  };
  x_range = marks.x_below;
  y_range = marks.y_below;
  disjoint = marks.apart;
}

fits_kind : (kind : Kind) (d : Draft)
    → HasCount (Some kind) d.points d.vertices
    → HasTerminals (Some kind) d.vertices d.s d.t
    → HasBias (Some kind) d.bias
    → AreLines d.points d.bias d.grid d.lines
    → AreEnds d.vertices d.ends
    → AreMarks (points_for (Some kind) d.points (length d.ends)) d.x d.y
    → IsFit kind (field_of kind d) d.x d.y d.bias
fits_kind kinds.MakerBreaker d count terminals bias lines ends marks =
    fits_lines kinds.MakerBreaker _ d.x d.y d.bias refl bias
    (lines_field d.points d.bias d.grid d.lines count.0 count.1 lines) marks
fits_kind kinds.MakerMaker d count terminals bias lines ends marks =
    fits_lines kinds.MakerMaker _ d.x d.y d.bias refl bias
    (lines_field d.points d.bias d.grid d.lines count.0 count.1 lines) marks
fits_kind kinds.AvoiderEnforcer d count terminals bias lines ends marks =
    fits_lines kinds.AvoiderEnforcer _ d.x d.y d.bias refl bias
    (lines_field d.points d.bias d.grid d.lines count.0 count.1 lines) marks
fits_kind kinds.Switching d count terminals bias lines ends marks = fits_graph _ d.x d.y d.bias bias
    (graph_field d.vertices d.s d.t d.ends count.0 count.1 terminals.0 terminals.1 terminals.2 ends)
    marks

-- a game whose turn has been said is within the limits
pub fits_sound : (d : Draft) (kind : Kind) (turn : Side)
    → IsSound d
    → d.kind ≡ Some kind
    → d.turn ≡ Some turn
    → IsFit kind (field_of kind d) d.x d.y d.bias
fits_sound d kind turn sound is said =
    let high : 7 ≤ d.rank = elim (cases_lt d.rank 7) [
      | inl lt ↦ let none : d.turn ≡ None = sound.order.turn lt in absurd cc
      | inr ge ↦ ge
    ] in
    fits_kind kind d
    (subst (λ (k : Option Kind). HasCount k d.points d.vertices) is (sound.count (omega arith)))
    (subst (λ (k : Option Kind). HasTerminals k d.vertices d.s d.t) is
    (sound.terminals (omega arith)))
    (subst (λ (k : Option Kind). HasBias k d.bias) is sound.bias) sound.lines sound.ends
    (subst (λ (k : Option Kind). AreMarks (points_for k d.points (length d.ends)) d.x d.y) is
    sound.marks)

-- ---- a whole file

abbrev entry_of : Draft → Kind → Side → Entry
entry_of d kind turn = record {
  kind = kind;
  field = field_of kind d;
  x = d.x;
  y = d.y;
  turn = turn;
  bias = d.bias;
}

abbrev IsFitting : Entry → Type 0
IsFitting g = IsFit g.kind g.field g.x g.y g.bias

game_of_fits : (d : Draft) (kind : Option Kind) (turn : Option Side) (g : Entry)
    → IsSound d
    → d.kind ≡ kind
    → d.turn ≡ turn
    → game_of d kind turn ≡ Ok g
    → IsFitting g
game_of_fits d (Some kind) (Some turn) g sound is said e =
    subst IsFitting (ok_is (entry_of d kind turn) g e) (fits_sound d kind turn sound is said)
game_of_fits d (Some kind) None g sound is said e = absurd cc
game_of_fits d None turn g sound is said e = absurd cc

end_fits : (begun : Bool) (d : Draft) (g : Entry)
    → IsSound d
    → cond begun (game_of d d.kind d.turn) (Err (faults.Header, 0)) ≡ Ok g
    → IsFitting g
end_fits true d g sound e = game_of_fits d d.kind d.turn g sound refl refl e
end_fits false d g sound e = absurd cc

ended_fits : (read : Result Draft (Fault × ℕ)) (g : Entry)
    → ((d : Draft) → read ≡ Ok d → IsSound d)
    → ended read ≡ Ok g
    → IsFitting g
ended_fits (Ok d) g sound e = end_fits d.begun d g (sound d refl) e
ended_fits (Err f) g sound e = absurd cc

size_fits : (big : Bool) (read : Result Draft (Fault × ℕ)) (g : Entry)
    → ((d : Draft) → read ≡ Ok d → IsSound d)
    → cond big (Err (faults.Size, 0)) (ended read) ≡ Ok g
    → IsFitting g
size_fits true read g sound e = absurd cc
size_fits false read g sound e = ended_fits read g sound e

pub fits_game : (text : Bytes) (g : Entry) → game text ≡ Ok g → IsFit g.kind g.field g.x g.y g.bias
unfolding game
fits_game text g e = size_fits (nat_lt 4194304 (length text)) (reading after 1 nothing (lines text))
    g (λ d h. sound_reading 1 nothing d (lines text) sound_nothing h) e
