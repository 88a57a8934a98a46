-- The answers by trees and by cuts are free edges, and the sets hold after them.
use Rattle.std.proofs.Common.{◌≡◌, ℕ, ◌<◌, suc, Bool, true, false, Option, Some, None, inl, inr}
use Rattle.std.proofs.Common.{sym}
use Rattle.std.proofs.Common.{ap, ◌∙◌, subst, arith}
use Rattle.std.specs.Prelude.{unwrap_or}
use Rattle.pg_switch.proofs.Common.{cases_Bool, cases_eq, both_ways, false_from_ne_true, FinSet}
use Rattle.pg_switch.proofs.Common.{contains, remove, nat_cmp, plus, minus, either, outside, Side}
use Rattle.pg_switch.proofs.Common.{X, Y, other, contains-remove_minus, minus_parts, Graph}
use Rattle.pg_switch.proofs.Common.{edge_count, spans_in, first_end_of, second_end_of, joins_in}
use Rattle.pg_switch.proofs.Common.{AreEdges, Crosses, IsSpan-graph, spans_in-joins, Field, Game}
use Rattle.pg_switch.proofs.Common.{Position, field_points, terminals_joined, AreBelow, point_count}
use Rattle.pg_switch.proofs.Common.{is_over, after, rules_of, IsPosition, IsFreeEdge, AreFreeEdges}
use Rattle.pg_switch.proofs.Common.{AreFreeWithE, AreTrees, AreCuts, TreesHoldOn, CutsHoldOn}
use Rattle.pg_switch.proofs.Common.{with_set, without_set, lowest_free_edge, answered_edge}
use Rattle.pg_switch.proofs.Common.{short_edge, cut_edge}
use Rattle.pg_graph.proofs.TreeAnswers.{IsTrees-crossed, IsTrees-uncrossed}
use Rattle.pg_graph.proofs.Cuts.{IsCuts-dropped, IsCuts-answered, find_parting}
use Rattle.pg_game.specs.declared.field.Field.TheVariants.{Graph as OnGraph}
use Rattle.pg_game.proofs.Strategy.{free_point}
use Rattle.pg_switch.specs.Replies.{short_reply, cut_reply, HeldUntil}
use Rattle.pg_switch.proofs.ClaimLaws.{x-next_y, y-next_x}
use Rattle.pg_switch.proofs.EdgeSets.{left_edges, left_edges-below, with_set-edges, IsTrees-from}
use Rattle.pg_switch.proofs.EdgeSets.{AreTrees-from, IsCuts-from, AreCuts-from, without-agree}
use Rattle.pg_switch.proofs.EdgeSets.{minus-agree}
use Rattle.pg_switch.proofs.Finding.{crossing-cases, parting-cases, parting-apart, joins-agree}
use Rattle.pg_switch.proofs.Finding.{lowest_free-free}
use Rattle.pg_switch.proofs.LostElement.{AreLeft, IsAnswer, IsReply, AreDue, StandBy, held_by}
use Rattle.pg_switch.proofs.LostElement.{grown_by, IsStanding-by, answer-kept, left-free, due-now}
use Rattle.pg_switch.proofs.LostElement.{due-after, stand-next}

-- ---- replies that cross

-- members are edges, or e
pub left-edges : (h : Graph) (p : Position) (a1 a2 : FinSet nat_cmp) (x : ℕ)
    → AreLeft (edge_count h) p a1 a2 x
    → AreEdges h (contains a1)
left-edges h p a1 a2 x l f k = elim (cases_eq f x) [
  | inl e ↦ let low = l.bound in omega arith
  | inr ne ↦ let low = (l.first f k ne).0 in omega arith
]

-- where a member of the other set that crosses makes good for x, and where none crosses the one set
-- needs no x
pub crossing-replies : (h : Graph) (Stand : (ℕ → Bool) → (ℕ → Bool) → (ℕ → Bool) → Type 0)
    (p : Position) (x z : ℕ) (one another : FinSet nat_cmp)
    → AreBelow p.x (edge_count h)
    → IsFreeEdge h p z
    → AreLeft (edge_count h) p one another x
    → contains another x ≡ false
    → ((y : ℕ) → y < edge_count h
    → contains another y ≡ true
    → Crosses h (either (contains p.x) (minus (contains one) x)) (first_end_of h x) y
    → Stand (plus (contains p.x) y) (minus (contains one) x) (minus (contains another) y))
    → (((y : ℕ) → contains another y ≡ true
    → Crosses h (either (contains p.x) (minus (contains one) x)) (first_end_of h x) y
    → ⊥)
    → Stand (contains p.x) (minus (contains one) x) (contains another))
    → IsReply (edge_count h) plus Stand p (contains p.x) x one another
    (short_reply h p one another x)
crossing-replies h Stand p x z one another small fz left not2 crossed uncrossed =
    let s = contains p.x in
    let set = with_set p (remove one x) in
    let is_set : set ≡ either s (minus (contains one) x) =
    ap (λ (a : ℕ → Bool). either s a) (contains-remove_minus one x) in
    let edges_left : AreEdges h (contains (remove one x)) = λ f k.
    left-edges h p one another x left f
    (minus_parts (contains one) x f
    (subst (λ (a : ℕ → Bool). a f ≡ true) (contains-remove_minus one x) k)).0 in
    elim (crossing-cases h set (first_end_of h x) another
    (with_set-edges h p (remove one x) small edges_left)) [
      | inl found ↦
          let y_is : short_reply h p one another x ≡ found.0 =
          ap (λ (r : Option ℕ). unwrap_or r (lowest_free_edge h p)) found.4 in
          subst (λ (w : ℕ). IsReply (edge_count h) plus Stand p s x one another w) (sym y_is)
          (inl (
            found.2,
            crossed found.0 found.1 found.2
                (subst (λ (a : ℕ → Bool). Crosses h a (first_end_of h x) found.0) is_set found.3),
          ))
      | inr none ↦
          let y_is : short_reply h p one another x ≡ lowest_free_edge h p =
          ap (λ (r : Option ℕ). unwrap_or r (lowest_free_edge h p)) none.1 in
          subst (λ (w : ℕ). IsReply (edge_count h) plus Stand p s x one another w) (sym y_is)
          (inr (
            lowest_free-free h p z fz,
            uncrossed (λ v k c. none.0 v (left.second v k
                (λ e. both_ways _ not2 (subst (λ (w : ℕ). contains another w ≡ true) e k))).0 k
                (subst (λ (a : ℕ → Bool). Crosses h a (first_end_of h x) v) (sym is_set) c)),
          ))
    ]

short-replies : (h : Graph) (p : Position) (x z : ℕ) (one another : FinSet nat_cmp)
    → AreBelow p.x (edge_count h)
    → IsFreeEdge h p z
    → StandBy (spans_in h) (edge_count h) X (contains p.x) (contains one) (contains another)
    → AreLeft (edge_count h) p one another x
    → contains one x ≡ true
    → IsReply (edge_count h) (grown_by X) (StandBy (spans_in h) (edge_count h) X) p (contains p.x) x
    one another (short_reply h p one another x)
short-replies h p x z one another small fz d left ax = crossing-replies h
    (StandBy (spans_in h) (edge_count h) X) p x z one another small fz left (d.apart x ax)
    (λ y low k c. IsTrees-crossed h (contains p.x) (contains one) (contains another)
    (first_end_of h x) x y d ax k c) (λ none. IsTrees-uncrossed h (contains p.x) (contains one)
    (contains another) x d ax (λ v k. let low = small v k in omega arith)
    (left-edges h p one another x left) none)

-- ---- replies that part

-- what the definition tests is what the other one spans
test-spans : (h : Graph) (p : Position) (d : FinSet nat_cmp) (x : ℕ)
    → joins_in h (without_set p d) (first_end_of h x) (second_end_of h x)
    ≡ spans_in h (outside (left_edges h p) (contains d)) x
test-spans h p d x = joins-agree h (without_set p d) (outside (left_edges h p) (contains d))
    (first_end_of h x) (second_end_of h x) (without-agree h p d)
    ∙ sym (spans_in-joins h (outside (left_edges h p) (contains d)) x)

test-spans_minus : (h : Graph) (p : Position) (d : FinSet nat_cmp) (x y : ℕ)
    → joins_in h (minus (without_set p d) y) (first_end_of h x) (second_end_of h x)
    ≡ spans_in h (minus (outside (left_edges h p) (contains d)) y) x
test-spans_minus h p d x y = joins-agree h (minus (without_set p d) y)
    (minus (outside (left_edges h p) (contains d)) y) (first_end_of h x) (second_end_of h x)
    (minus-agree (without_set p d) (outside (left_edges h p) (contains d)) y (suc (edge_count h))
    (without-agree h p d))
    ∙ sym (spans_in-joins h (minus (outside (left_edges h p) (contains d)) y) x)

cut-replies : (h : Graph) (p : Position) (x z : ℕ) (one another : FinSet nat_cmp)
    → IsFreeEdge h p z
    → StandBy (spans_in h) (edge_count h) Y (left_edges h p) (contains one) (contains another)
    → AreLeft (edge_count h) p one another x
    → contains one x ≡ true
    → IsReply (edge_count h) (grown_by Y) (StandBy (spans_in h) (edge_count h) Y) p (left_edges h p)
    x one another (cut_reply h p one another x)
cut-replies h p x z one another fz d left dx =
    let m = edge_count h in
    let r = left_edges h p in
    let wide = without_set p one in
    let u = first_end_of h x in
    let v = second_end_of h x in
    let not2 : contains another x ≡ false = d.apart x dx in
    let free2 : (y : ℕ) → contains another y ≡ true → IsFreeEdge h p y = λ y k. left.second y k
    (λ e. both_ways _ not2 (subst (λ (w : ℕ). contains another w ≡ true) e k)) in
    elim (cases_Bool (joins_in h wide u v)) [
      | inl on ↦ elim (parting-cases h wide u v another on) [
        | inl found ↦
            let y = found.0 in
            let y_is : cut_reply h p one another x ≡ y =
            ap (λ (q : Option ℕ). unwrap_or q (lowest_free_edge h p)) found.4 in
            let low = (free2 y found.2).0 in
            subst (λ (w : ℕ). IsReply m (grown_by Y) (StandBy (spans_in h) m Y) p r x one another w)
            (sym y_is)
            (inl (
              found.2,
              IsCuts-answered (spans_in h) (IsSpan-graph h) m r (contains one) (contains another) x
                  y d dx found.2 (λ e. absurd (omega (arith, low, e)))
                  (sym (test-spans_minus h p one x y) ∙ found.3),
            ))
        | inr none ↦
            let y = find_parting (spans_in h) (IsSpan-graph h) m r (contains one) (contains another)
            x (suc m) (left_edges-below h p) d dx (sym (test-spans h p one x) ∙ on) in
            absurd
            (both_ways _ y.2
            (sym (test-spans_minus h p one x y.0) ∙ none y.0 (free2 y.0 y.1).0 y.1))
      ]
      | inr off ↦
          let y_is : cut_reply h p one another x ≡ lowest_free_edge h p =
          ap (λ (q : Option ℕ). unwrap_or q (lowest_free_edge h p))
          (parting-apart h wide u v another off) in
          subst (λ (w : ℕ). IsReply m (grown_by Y) (StandBy (spans_in h) m Y) p r x one another w)
          (sym y_is)
          (inr (
            lowest_free-free h p z fz,
            IsCuts-dropped (spans_in h) (IsSpan-graph h) m r (contains one) (contains another) x d
                (sym (test-spans h p one x) ∙ off),
          ))
    ]

-- ---- either side: Short by trees, Cut by cuts

abbrev pub edge_by : Side → Graph → Position → FinSet nat_cmp → FinSet nat_cmp → ℕ → ℕ
edge_by X h p a1 a2 x = short_edge h p a1 a2 x
edge_by Y h p a1 a2 x = cut_edge h p a1 a2 x

abbrev pub SetsHoldOn : Side → Field → Position → FinSet nat_cmp → FinSet nat_cmp → Type 0
SetsHoldOn X field p a1 a2 = TreesHoldOn field p a1 a2
SetsHoldOn Y field p a1 a2 = CutsHoldOn field p a1 a2

-- the answer keeps the sets
pub edge-kept : (side : Side) (h : Graph) (p : Position) (a1 a2 : FinSet nat_cmp) (x z : ℕ)
    → AreBelow p.x (edge_count h)
    → AreDue (spans_in h) (edge_count h) side p a1 a2 x
    → IsFreeEdge h p z
    → IsAnswer (edge_count h) (grown_by side) (StandBy (spans_in h) (edge_count h) side) p
    (held_by (edge_count h) side p) x a1 a2 (edge_by side h p a1 a2 x)
edge-kept X h p a1 a2 x z small d fz = answer-kept (edge_count h) (grown_by X)
    (StandBy (spans_in h) (edge_count h) X) p (contains p.x) x
    (IsStanding-by (spans_in h) (IsSpan-graph h) (edge_count h) X)
    (λ one another. short_reply h p one another x) (lowest_free_edge h p) a1 a2
    (λ one another. short-replies h p x z one another small fz) (lowest_free-free h p z fz) d.sets
    d.left
edge-kept Y h p a1 a2 x z small d fz = answer-kept (edge_count h) (grown_by Y)
    (StandBy (spans_in h) (edge_count h) Y) p (left_edges h p) x
    (IsStanding-by (spans_in h) (IsSpan-graph h) (edge_count h) Y)
    (λ one another. cut_reply h p one another x) (lowest_free_edge h p) a1 a2
    (λ one another. cut-replies h p x z one another fz) (lowest_free-free h p z fz) d.sets d.left

-- the sets hold once it is claimed
pub sets-hold : (side : Side) (g : Game) (h : Graph) (p : Position) (a1 a2 : FinSet nat_cmp)
    (x y : ℕ)
    → g.field ≡ OnGraph h
    → p.turn ≡ side
    → AreDue (spans_in h) (edge_count h) side p a1 a2 x
    → IsAnswer (edge_count h) (grown_by side) (StandBy (spans_in h) (edge_count h) side) p
    (held_by (edge_count h) side p) x a1 a2 y
    → SetsHoldOn side g.field (after g p y) (remove (remove a1 x) y) (remove (remove a2 x) y)
sets-hold side g h p a1 a2 x y on mine d s = by side
    (λ f k. left-free (rules_of g) (edge_count h) p a1 x y d.left.first f k)
    (λ f k. left-free (rules_of g) (edge_count h) p a2 x y d.left.second f k)
    (stand-next (spans_in h) (edge_count h) (rules_of g) side p a1 a2 x y mine s)
  where
    b1 : FinSet nat_cmp
    b1 = remove (remove a1 x) y

    b2 : FinSet nat_cmp
    b2 = remove (remove a2 x) y

    by : (side : Side)
        → AreFreeEdges h (after g p y) (remove (remove a1 x) y)
        → AreFreeEdges h (after g p y) (remove (remove a2 x) y)
        → StandBy (spans_in h) (edge_count h) side (held_by (edge_count h) side (after g p y))
        (contains (remove (remove a1 x) y)) (contains (remove (remove a2 x) y))
        → SetsHoldOn side g.field (after g p y) (remove (remove a1 x) y) (remove (remove a2 x) y)
    by X free1 free2 t = subst (λ (f : Field). TreesHoldOn f (after g p y) b1 b2) (sym on)
        (AreTrees-from h (after g p y) b1 b2 (λ f k. inl (free1 f k)) free2 t)
    by Y free1 free2 t = subst (λ (f : Field). CutsHoldOn f (after g p y) b1 b2) (sym on)
        (AreCuts-from h (after g p y) b1 b2 (λ f k. inl (free1 f k)) free2 t)

-- the first set is left without e
pub left-without_e : (g : Game) (h : Graph) (p : Position) (a1 a2 f : FinSet nat_cmp) (x y : ℕ)
    → g.field ≡ OnGraph h
    → AreLeft (edge_count h) p a1 a2 x
    → f ≡ remove (remove a1 x) y
    → contains f (point_count g) ≡ false
left-without_e g h p a1 a2 f x y on left is_f =
    let points : point_count g ≡ edge_count h = ap field_points on in
    false_from_ne_true _ (λ k.
    let low =
    (left-free (rules_of g) (edge_count h) p a1 x y left.first (point_count g)
    (subst (λ (q : FinSet nat_cmp). contains q (point_count g) ≡ true) is_f k)).0 in
    absurd (omega (arith, low, points)))

-- ---- what is due

-- the edges over which the side's sets stand, or which are taken from them, are edges
abbrev AreOwn : Side → Graph → Position → Type 0
AreOwn X h p = AreBelow p.x (edge_count h)
AreOwn Y h p = AreBelow p.y (edge_count h)

own-now : (side : Side) (g : Game) (h : Graph) (p : Position)
    → g.field ≡ OnGraph h
    → IsPosition g p
    → AreOwn side h p
own-now X g h p on position =
    λ v k. subst (λ (n : ℕ). v < n) (ap field_points on) (position.x_range v k)
own-now Y g h p on position =
    λ v k. subst (λ (n : ℕ). v < n) (ap field_points on) (position.y_range v k)

own-before : (side : Side) (g : Game) (h : Graph) (b p : Position) (x : ℕ)
    → p ≡ after g b x
    → b.turn ≡ other side
    → AreOwn side h p
    → AreOwn side h b
own-before X g h b p x leads yours small = λ v k. small v
    (subst (λ (s : FinSet nat_cmp). contains s v ≡ true)
    (sym (ap (λ (r : Position). r.x) leads
    ∙ x-next_y (edge_count h) (terminals_joined h) b x yours)) k)
own-before Y g h b p x leads yours small = λ v k. small v
    (subst (λ (s : FinSet nat_cmp). contains s v ≡ true)
    (sym (ap (λ (r : Position). r.y) leads
    ∙ y-next_x (edge_count h) (terminals_joined h) b x yours)) k)

-- sets that hold on a graph
record AreHeld (side : Side) (h : Graph) (p : Position) (a1 a2 : FinSet nat_cmp) : Type 0 where
  pub first_free : AreFreeWithE h p side a1
  pub second_free : AreFreeEdges h p a2
  pub sets : StandBy (spans_in h) (edge_count h) side (held_by (edge_count h) side p) (contains a1)
      (contains a2)

are-held : (side : Side) (g : Game) (h : Graph) (p : Position) (a1 a2 : FinSet nat_cmp)
    → g.field ≡ OnGraph h
    → AreOwn side h p
    → SetsHoldOn side g.field p a1 a2
    → AreHeld side h p a1 a2
are-held X g h p a1 a2 on small held =
    let t : AreTrees h p a1 a2 = subst (λ (f : Field). TreesHoldOn f p a1 a2) on held in
    record {
      first_free = t.first_free;
      second_free = t.second_free;
      sets = IsTrees-from h p a1 a2 small t;
    }
are-held Y g h p a1 a2 on small held =
    let t : AreCuts h p a1 a2 = subst (λ (f : Field). CutsHoldOn f p a1 a2) on held in
    record {
      first_free = t.first_free;
      second_free = t.second_free;
      sets = IsCuts-from h p a1 a2 small t;
    }

pub sets-due : (side : Side) (g : Game) (h : Graph) (p : Position) (a1 a2 : FinSet nat_cmp)
    (last : Option ℕ)
    → g.field ≡ OnGraph h
    → IsPosition g p
    → p.turn ≡ side
    → HeldUntil g p (λ q. SetsHoldOn side g.field q a1 a2) last
    → AreDue (spans_in h) (edge_count h) side p a1 a2 (answered_edge h last)
sets-due side g h p a1 a2 None on position mine held =
    let t = are-held side g h p a1 a2 on (own-now side g h p on position) held in
    due-now (spans_in h) (edge_count h) (rules_of g) side p a1 a2 t.first_free t.second_free t.sets
sets-due side g h p a1 a2 (Some x) on position mine held =
    let b = held.before in
    let yours : b.turn ≡ other side = held.theirs ∙ ap other mine in
    let small =
    own-before side g h b p x held.leads yours (own-now side g h p on position) in
    let t = are-held side g h b a1 a2 on small held.held in
    let low : x < edge_count h = subst (λ (n : ℕ). x < n) (ap field_points on) held.within in
    subst (λ (q : Position). AreDue (spans_in h) (edge_count h) side q a1 a2 x) (sym held.leads)
    (due-after (spans_in h) (edge_count h) (rules_of g) side b a1 a2 x yours low t.first_free
    t.second_free t.sets)

-- ---- some edge is free while the game goes on

pub some_free : (g : Game) (h : Graph) (p : Position)
    → g.field ≡ OnGraph h
    → is_over g p ≡ false
    → (z : ℕ) × IsFreeEdge h p z
some_free g h p on going =
    let z = free_point g p going in
    (z.0, (subst (λ (n : ℕ). z.0 < n) (ap field_points on) z.1, z.2))
