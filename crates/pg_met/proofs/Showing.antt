-- Nodes that show answers, when one is added.
use Rattle.std.proofs.Common.{◌≡◌, ℕ, zero, suc, ◌+◌, ◌<◌, ◌≤◌, Bool, true, false, not, cond}
use Rattle.std.proofs.Common.{Option, Some, None, List, [], ◌∷◌, ◌++◌, map, length, get_or, refl}
use Rattle.std.proofs.Common.{sym, ap, ◌∙◌, subst, inl, inr, ◌⊎◌, arith, slice_get, slice_set}
use Rattle.std.proofs.Common.{length-append}
use Rattle.std.specs.Prelude.{nat_le}
use Rattle.pg_met.proofs.Common.{cases_Bool, cases_eq, false≢true, le-leb, and_from, filter}
use Rattle.pg_met.proofs.Common.{range_with_len, slice_get_within, slice_get-get_or}
use Rattle.pg_met.proofs.Common.{get_or_from_slice_get, sum_by-set, length-set, Contains, count_by}
use Rattle.pg_met.proofs.Common.{is_none, Position, Side, X, Y, is_free, Node, Body, Over, Move}
use Rattle.pg_met.proofs.Common.{Pairs, Potential, Trees, Cuts, Threat, Weaker, Reply, IsNodeOf}
use Rattle.pg_met.proofs.Common.{point_count-le, criterion_of, first_criterion, nodes-push, Game}
use Rattle.pg_met.proofs.Common.{Goal, Score, NodesHold, BodyHolds, position_of, is_over}
use Rattle.pg_met.proofs.Common.{free_points, point_count, after, decided, claimer, claimed_goal}
use Rattle.pg_met.proofs.Common.{answer_for, undecided-going, in_free_points, at_push, at_old}
use Rattle.pg_met.proofs.Common.{at_new, at_contains, at_set_other, at_set_same, map-same_at}
use Rattle.pg_met.proofs.Common.{same_some}
use Rattle.pg_base.specs.Side.{other}
use Rattle.pg_cert.specs.declared.node.Body.TheVariants.{All}
use Rattle.pg_text.specs.Text.{ascend_from}
use Rattle.pg_leaf.proofs.FirstCriterion.{undecided-criterion}
use Rattle.pg_met.specs.declared.known.Answered.{Answered}
use Rattle.pg_met.specs.declared.claims.Claims.{Claims}
use Rattle.pg_met.specs.Known.{answer_of, IsShown, IsBodyBy, HaveReplies}
use Rattle.pg_met.specs.Claims.{nodes_of}
use Rattle.pg_met.specs.Settles.{IsSettledAt, IsLeftOpen}
use Rattle.pg_met.specs.Table.{HasShape, AreShown}
use Rattle.pg_met.proofs.SettleLaws.{Contains-map}

-- ---- the body that an answer by moves gives holds

turn-wanted : (b : Bool) (turn : Side) → b ≡ answer_for turn → turn ≡ claimer b
turn-wanted true X h = refl
turn-wanted true Y h = absurd (false≢true (sym h))
turn-wanted false X h = absurd (false≢true h)
turn-wanted false Y h = refl

turn-other : (b : Bool) (turn : Side) → b ≡ not (answer_for turn) → turn ≡ other (claimer b)
turn-other true X h = absurd (false≢true (sym h))
turn-other true Y h = refl
turn-other false X h = refl
turn-other false Y h = absurd (false≢true h)

-- a body by moves is by no criterion
body-criterion : (turn : Side) (moves : List (ℕ × ℕ)) (answers : List (Option Answered)) (b : Bool)
    (body : Body)
    → IsBodyBy turn moves answers b body
    → criterion_of body ≡ None
body-criterion turn moves answers b Over h = absurd h
body-criterion turn moves answers b (Move point child) h = refl
body-criterion turn moves answers b (All replies) h = refl
body-criterion turn moves answers b (Pairs pairs) h = absurd h
body-criterion turn moves answers b Potential h = absurd h
body-criterion turn moves answers b (Trees e first second) h = absurd h
body-criterion turn moves answers b (Cuts e first second) h = absurd h
body-criterion turn moves answers b (Threat points) h = absurd h
body-criterion turn moves answers b (Weaker child) h = absurd h

free-point_of : (g : Game) (p : Position) (ms : List (ℕ × ℕ)) (m : ℕ × ℕ)
    → map (λ r. r.0) ms ≡ free_points g p
    → Contains ms m
    → (m.0 < point_count g) × (is_free p m.0 ≡ true)
free-point_of g p ms m points c = in_free_points g p m.0
    (subst (λ vs. Contains vs m.0) points (Contains-map (λ (r : ℕ × ℕ). r.0) ms m c))

-- the numbers of a filtered range ascend
ascend-filter : (t : ℕ → Bool) (m k n : ℕ)
    → m ≤ k
    → ascend_from m (filter t (range_with_len k n)) ≡ true
ascend-filter t m k zero le = refl
ascend-filter t m k (suc n) le = elim (cases_Bool (t k)) [
  | inl here ↦ rw here
      (and_from (nat_le m k) _ (le-leb m k le) (ascend-filter t (k + 1) (k + 1) n (omega arith)))
  | inr off ↦ rw off (ascend-filter t m (k + 1) n (omega arith))
]

ascend-free_points : (g : Game) (p : Position) → ascend_from 0 (free_points g p) ≡ true
unfolding free_points
ascend-free_points g p = ascend-filter (is_free p) 0 0 (point_count g) (omega arith)

module _ (g : Game) (t : Score) (positions : List Position) (moves : List (List (ℕ × ℕ)))
    (parents : List (List ℕ)) (answers : List (Option Answered)) (nodes : Bool → List Node)
    (shape : HasShape g t positions moves parents) (shown : AreShown g t positions answers nodes)
    (place : ℕ) (p : Position) (ms : List (ℕ × ℕ)) (pos_at : slice_get positions place ≡ Some p)
    (mov_at : slice_get moves place ≡ Some ms) (some : 0 < length ms) where
  child-number : (b : Bool) (m : ℕ × ℕ) (n : ℕ) → IsShown answers m.1 b n → n < length (nodes b)
  child-number b m n s = let by = shown.shown m.1 b n s in slice_get_within (nodes b) n by.0 by.1

  child-from_shown : (b : Bool) (m : ℕ × ℕ) (n : ℕ)
      → Contains ms m
      → IsShown answers m.1 b n
      → IsNodeOf (nodes b) n (after g p m.0)
  child-from_shown b m n c s =
      let by = shown.shown m.1 b n s in
      let e : Some (position_of by.0) ≡ Some (after g p m.0) =
      sym by.2 ∙ shape.leads place p ms pos_at mov_at m c in
      let position : position_of by.0 ≡ after g p m.0 = cc in
      record { node = by.0; at = by.1; position = position }

  going : is_over g p ≡ false
  going = undecided-going g t p (shape.undecided place p ms pos_at mov_at some)

  inside_of : (m : ℕ × ℕ) → Contains ms m → (m.0 < point_count g) × (is_free p m.0 ≡ true)
  inside_of m c = free-point_of g p ms m (shape.points place p ms pos_at mov_at some) c

  replied : (b : Bool) (replies : List Reply)
      → HaveReplies b ms answers replies
      → map (λ (r : Reply). r.point) replies ≡ free_points g p
  replied b replies h = map-same_at (λ (r : Reply). r.point) (λ (m : ℕ × ℕ). m.0) replies ms h.count
      (λ n r m r_at m_at. (h.shown n m r m_at r_at).0)
      ∙ shape.points place p ms pos_at mov_at some

  -- the move of the reply at a place, and what it leads to
  reply-at : (b : Bool) (replies : List Reply) (h : HaveReplies b ms answers replies) (k : ℕ)
      (d : Reply)
      → k < length replies
      → (m : ℕ × ℕ) × Contains ms m
      × ((get_or replies k d).point ≡ m.0)
      × IsShown answers m.1 b (get_or replies k d).child
  reply-at b replies h k d lt =
      let w : ℕ × ℕ = (0, 0) in
      let m = get_or ms k w in
      let m_at : slice_get ms k ≡ Some m = slice_get-get_or ms k w (omega (arith, lt, h.count)) in
      let s = h.shown k m (get_or replies k d) m_at (slice_get-get_or replies k d lt) in
      (m, at_contains ms k m m_at, s.0, s.1)

  body-by : (b : Bool) (goal : Goal) (body : Body)
      → length (nodes b) ≤ 100000
      → IsBodyBy p.turn ms answers b body
      → BodyHolds g (claimer b) goal (nodes b) (length (nodes b)) p body
  body-by b goal Over few h = absurd h
  body-by b goal (Move point child) few h =
      let m : ℕ × ℕ = (point, h.1.place) in
      let inside = inside_of m h.1.member in
      let number = child-number b m child h.1.shown in
      let most = point_count-le g in
      record {
        owes = record {
          position = shape.fits place p pos_at;
          allowed = refl;
          turn = turn-wanted b p.turn h.0;
          free = inside;
          end = going;
          pairs = tt;
          potential = tt;
          trees = tt;
          cuts = tt;
          threat = tt;
          version = refl;
        };
        range = (omega (arith, inside.0, most), omega (arith, number, few));
        earlier = number;
        follows = record { leads = λ range free. child-from_shown b m child h.1.member h.1.shown };
      }
  body-by b goal (All replies) few h =
      let points = replied b replies h.1 in
      let most = point_count-le g in
      record {
        owes = record {
          position = shape.fits place p pos_at;
          allowed = refl;
          turn = turn-other b p.turn h.0;
          free = points;
          end = going;
          pairs = tt;
          potential = tt;
          trees = tt;
          cuts = tt;
          threat = tt;
          version = refl;
        };
        range = (
          λ k d lt.
              let f = reply-at b replies h.1 k d lt in
              let inside = inside_of f.0 f.1 in
              let number = child-number b f.0 (get_or replies k d).child f.3 in
              (omega (arith, inside.0, most, f.2), omega (arith, number, few)),
          ap (ascend_from 0) points ∙ ascend-free_points g p,
        );
        earlier = λ k d lt.
            let f = reply-at b replies h.1 k d lt in
            child-number b f.0 (get_or replies k d).child f.3;
        follows = λ k d lt.
            let f = reply-at b replies h.1 k d lt in
            record {
              leads = λ range free.
                  subst (λ (v : ℕ). IsNodeOf (nodes b) (get_or replies k d).child (after g p v))
                  (sym f.2) (child-from_shown b f.0 (get_or replies k d).child f.1 f.3);
            };
      }
  body-by b goal (Pairs pairs) few h = absurd h
  body-by b goal Potential few h = absurd h
  body-by b goal (Trees e first second) few h = absurd h
  body-by b goal (Cuts e first second) few h = absurd h
  body-by b goal (Threat points) few h = absurd h
  body-by b goal (Weaker child) few h = absurd h

-- ---- with one more answer and its node

pub answer-cases : (b c : Bool) → (b ≡ c) ⊎ (b ≡ not c)
answer-cases true true = inl refl
answer-cases true false = inr refl
answer-cases false true = inr refl
answer-cases false false = inl refl

side-few : (nodes : Bool → List Node) (b : Bool) (n total : ℕ)
    → length (nodes true) + length (nodes false) + n ≡ total
    → length (nodes b) ≤ total
side-few nodes true n total e = omega arith
side-few nodes false n total e = omega arith

one_if : Option Answered → ℕ
one_if o = cond (is_none o) 1 0

one_more : (a : Bool) (old new : Claims) (node : Node)
    → nodes_of new a ≡ nodes_of old a ++ node ∷ []
    → nodes_of new (not a) ≡ nodes_of old (not a)
    → length (nodes_of new true) + length (nodes_of new false)
    ≡ length (nodes_of old true) + length (nodes_of old false) + 1
one_more true old new node added other =
    omega (arith, ap length added, ap length other, length-append (nodes_of old true) (node ∷ []))
one_more false old new node added other =
    omega (arith, ap length added, ap length other, length-append (nodes_of old false) (node ∷ []))

-- the node's number, or 0
unfoldable pub number_of : Option (Option Answered) → ℕ
number_of None = 0
number_of (Some None) = 0
number_of (Some (Some x)) = x.node

filled≢open : {y : Answered} → ◌≡◌ {A = Option (Option Answered)} (Some None) (Some (Some y)) → ⊥
filled≢open e =
    let f : Option (Option Answered) → Bool = is_open in
    absurd (false≢true (sym (ap f e)))
  where
    is_open : Option (Option Answered) → Bool
    is_open None = false
    is_open (Some None) = true
    is_open (Some (Some y)) = false

pub one_fewer : (answers : List (Option Answered)) (place : ℕ) (x : Answered)
    → slice_get answers place ≡ Some None
    → count_by is_none (slice_set answers place (Some x)) + 1 ≡ count_by is_none answers
unfolding one_if
one_fewer answers place x at =
    let within = slice_get_within answers place None at in
    let there : get_or answers place None ≡ None =
    get_or_from_slice_get answers place None None at in
    let sum =
    sum_by-set (λ (o : Option Answered). cond (is_none o) 1 0) answers place (Some x) None within in
    let one : ◌≡◌ {A = ℕ} (cond (is_none (get_or answers place None)) 1 0) 1 = ap one_if there in
    omega (arith, sum, one)

pub shown-set : (g : Game) (t : Score) (positions : List Position) (moves : List (List (ℕ × ℕ)))
    (parents : List (List ℕ)) (before behind : List (Option Answered)) (old new : Claims)
    (place : ℕ) (p : Position) (ms : List (ℕ × ℕ))
    → HasShape g t positions moves parents
    → AreShown g t positions before (nodes_of old)
    → length before ≡ length positions
    → length positions ≤ 100000
    → slice_get before place ≡ Some None
    → slice_get positions place ≡ Some p
    → slice_get moves place ≡ Some ms
    → 0 < length ms
    → IsSettledAt p ms place before behind old new
    → AreShown g t positions behind (nodes_of new)
unfolding number_of
shown-set g t positions moves parents before behind old new place p ms shape shown len few open_at
    pos_at mov_at some s = record {
      hold = hold;
      shown = λ i b n is. shows i b n
          (subst (λ (os : List (Option Answered)). IsShown os i b n) s.answers is);
      placed = λ b n node at.
          let f = place_of b n node at in
          (f.0, subst (λ (os : List (Option Answered)). IsShown os f.0 b n) (sym s.answers) f.1);
      kinds = λ b n node at. elim (answer-cases b a) [
        | inl e ↦ elim (at_push (nodes_of old a) s.node node n
            (ap (λ ns. slice_get ns n) (sym s.added)
            ∙ ap (λ c. slice_get (nodes_of new c) n) (sym e)
            ∙ at)) [
              | inl was ↦ shown.kinds a n node was
              | inr fresh ↦
                  subst (λ (x : Node). criterion_of x.body ≡ first_criterion g t (position_of x))
                  fresh.1 (body-criterion p.turn ms before a s.node.body s.shows
                  ∙ sym (undecided-criterion g t (position_of s.node)
                  (ap (decided g t) s.position ∙ shape.undecided place p ms pos_at mov_at some)))
            ]
        | inr e ↦ shown.kinds (not a) n node (ap (λ ns. slice_get ns n) (sym s.other)
            ∙ ap (λ c. slice_get (nodes_of new c) n) (sym e)
            ∙ at)
      ];
      count =
          let more = one_more a old new s.node s.added s.other in
          let fewer = one_fewer before place x open_at in
          let same = length-set before place (Some x) in
          rw s.answers (omega (arith, more, fewer, same, shown.count));
    }
  where
    a : Bool
    a = s.answer

    x : Answered
    x = record { answer = s.answer; node = length (nodes_of old s.answer) }

    body : BodyHolds g (claimer a) (claimed_goal g.kind t a) (nodes_of old a)
        (length (nodes_of old a)) (position_of s.node) s.node.body
    body = subst (λ (q : Position). BodyHolds g (claimer a) (claimed_goal g.kind t a)
        (nodes_of old a) (length (nodes_of old a)) q s.node.body) (sym s.position)
        (body-by g t positions moves parents before (nodes_of old) shape shown place p ms pos_at
        mov_at some a (claimed_goal g.kind t a) s.node.body (let fewer =
        side-few (nodes_of old) a (count_by is_none before) (length before) shown.count in
        omega (arith, fewer, len, few)) s.shows)

    hold : (b : Bool) → NodesHold g (claimer b) (claimed_goal g.kind t b) (nodes_of new b)
    hold b = elim (answer-cases b a) [
      | inl e ↦
          subst (λ c. NodesHold g (claimer c) (claimed_goal g.kind t c) (nodes_of new c)) (sym e)
          (subst (λ (ns : List Node). NodesHold g (claimer a) (claimed_goal g.kind t a) ns)
          (sym s.added) (nodes-push g (claimer a) (claimed_goal g.kind t a) (nodes_of old a) s.node
          (shown.hold a) body))
      | inr e ↦
          subst (λ c. NodesHold g (claimer c) (claimed_goal g.kind t c) (nodes_of new c)) (sym e)
          (subst (λ (ns : List Node). NodesHold g (claimer (not a))
          (claimed_goal g.kind t (not a)) ns) (sym s.other) (shown.hold (not a)))
    ]

    -- a node that stood before stands now
    still : (b : Bool) (n : ℕ) (node : Node)
        → slice_get (nodes_of old b) n ≡ Some node
        → slice_get (nodes_of new b) n ≡ Some node
    still b n node at = elim (answer-cases b a) [
      | inl e ↦ subst (λ c. slice_get (nodes_of new c) n ≡ Some node) (sym e)
          (ap (λ ns. slice_get ns n) s.added
          ∙ at_old (nodes_of old a) s.node node n
          (ap (λ c. slice_get (nodes_of old c) n) (sym e) ∙ at))
      | inr e ↦ subst (λ c. slice_get (nodes_of new c) n ≡ Some node) (sym e)
          (ap (λ ns. slice_get ns n) s.other
          ∙ (ap (λ c. slice_get (nodes_of old c) n) (sym e) ∙ at))
    ]

    there : slice_get (slice_set before place (Some x)) place ≡ Some (Some x)
    there = at_set_same before place (Some x) (slice_get_within before place None open_at)

    stays : (i : ℕ) (b : Bool) (n : ℕ)
        → IsShown before i b n
        → IsShown (slice_set before place (Some x)) i b n
    stays i b n is = elim (cases_eq i place) [
      | inl e ↦ absurd (filled≢open (sym open_at ∙ ap (slice_get before) (sym e) ∙ is))
      | inr ne ↦ at_set_other before place i (Some x) ne ∙ is
    ]

    shows : (i : ℕ) (b : Bool) (n : ℕ)
        → IsShown (slice_set before place (Some x)) i b n
        → (node : Node) × (slice_get (nodes_of new b) n ≡ Some node)
        × (slice_get positions i ≡ Some (position_of node))
    shows i b n is = elim (cases_eq i place) [
      | inl e ↦
          let both : ◌≡◌ {A = Option (Option Answered)} (Some (Some x)) (Some (Some (record {
            answer = b;
            node = n;
          }))) = sym there ∙ ap (slice_get (slice_set before place (Some x))) (sym e) ∙ is in
          let same_answer : a ≡ b = same_some (ap answer_of both) in
          let same_number : length (nodes_of old a) ≡ n = ap number_of both in (
            s.node,
            subst (λ (c : Bool). slice_get (nodes_of new c) n ≡ Some s.node) same_answer
                (subst (λ (k : ℕ). slice_get (nodes_of new a) k ≡ Some s.node) same_number
                (ap (λ ns. slice_get ns (length (nodes_of old a))) s.added
                ∙ at_new (nodes_of old a) s.node)),
            ap (slice_get positions) e ∙ pos_at ∙ ap Some (sym s.position),
          )
      | inr ne ↦
          let f = shown.shown i b n (sym (at_set_other before place i (Some x) ne) ∙ is) in
          (f.0, still b n f.0 f.1, f.2)
    ]

    place_of : (b : Bool) (n : ℕ) (node : Node)
        → slice_get (nodes_of new b) n ≡ Some node
        → (i : ℕ) × IsShown (slice_set before place (Some x)) i b n
    place_of b n node at = elim (answer-cases b a) [
      | inl e ↦ elim (at_push (nodes_of old a) s.node node n
          (ap (λ ns. slice_get ns n) (sym s.added)
          ∙ ap (λ c. slice_get (nodes_of new c) n) (sym e)
          ∙ at)) [
            | inl old_at ↦
                let f = shown.placed a n node old_at in (
                  f.0,
                  subst (λ (c : Bool). IsShown (slice_set before place (Some x)) f.0 c n) (sym e)
                      (stays f.0 a n f.1),
                )
            | inr fresh ↦ (
              place,
              there ∙ λ i. Some (Some (record { answer = sym e i; node = sym fresh.0 i })),
            )
          ]
      | inr e ↦
          let f = shown.placed (not a) n node
          (ap (λ ns. slice_get ns n) (sym s.other)
          ∙ ap (λ c. slice_get (nodes_of new c) n) (sym e)
          ∙ at) in (
            f.0,
            subst (λ (c : Bool). IsShown (slice_set before place (Some x)) f.0 c n) (sym e)
                (stays f.0 (not a) n f.1),
          )
    ]

pub shown-open : (g : Game) (t : Score) (positions : List Position)
    (before behind : List (Option Answered)) (old new : Claims) (p : Position) (ms : List (ℕ × ℕ))
    → AreShown g t positions before (nodes_of old)
    → IsLeftOpen p ms before behind old new
    → AreShown g t positions behind (nodes_of new)
shown-open g t positions before behind old new p ms shown s =
    let claims : nodes_of new ≡ nodes_of old = λ i b. s.claims b i in
    subst (λ (os : List (Option Answered)). AreShown g t positions os (nodes_of new))
    (sym s.answers)
    (subst (λ (ns : Bool → List Node). AreShown g t positions before ns) (sym claims) shown)
