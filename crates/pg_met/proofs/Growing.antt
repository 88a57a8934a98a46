-- One more position in the tree.
use Rattle.std.proofs.Common.{◌≡◌, ℕ, zero, suc, ◌+◌, ◌<◌, Bool, true, false, not, cond, Option}
use Rattle.std.proofs.Common.{Some, None, List, [], ◌∷◌, ◌++◌, length, refl, sym, ap, ◌∙◌, subst}
use Rattle.std.proofs.Common.{inl, inr, arith, slice_get, length-append}
use Rattle.pg_met.proofs.Common.{slice_get_within, Contains}
use Rattle.pg_met.proofs.Common.{count_by, is_none, Position}
use Rattle.pg_met.proofs.Common.{Node, Game, Score, NodesHold, BodyHolds}
use Rattle.pg_met.proofs.Common.{position_of, after, IsPosition, criterion_of, first_criterion}
use Rattle.pg_met.proofs.Common.{decided, claimer, claimed_goal, by_moves, map-members, nodes-push}
use Rattle.pg_met.proofs.Common.{sum_by_push, at_push, at_old, at_new, some≢none, same_some}
use Rattle.pg_met.specs.declared.known.Answered.{Answered}
use Rattle.pg_met.specs.Known.{answer_at, answer_of, IsShown}
use Rattle.pg_met.specs.Settles.{by_answers}
use Rattle.pg_met.specs.Table.{HasShape, Agree, AreShown, AreDecided, AreExpanded}
use Rattle.pg_met.specs.Met.{IsTree, LeafAdds, IsLeafAdded, Extends}
use Rattle.pg_met.proofs.Showing.{answer-cases}

at_before : {X : Type 0} (xs : List X) (x y : X) (k : ℕ)
    → slice_get (xs ++ x ∷ []) k ≡ Some y
    → k < length xs
    → slice_get xs k ≡ Some y
at_before xs x y k at lt = elim (at_push xs x y k at) [
  | inl old ↦ old
  | inr new ↦ absurd (omega (arith, new.0))
]

same_before : {X : Type 0} (xs : List X) (x : X) (k : ℕ)
    → k < length xs
    → slice_get (xs ++ x ∷ []) k ≡ slice_get xs k
same_before [] x k lt = absurd (omega arith)
same_before (y ∷ ys) x zero lt = refl
same_before (y ∷ ys) x (suc k) lt = same_before ys x k (omega arith)

none_in : {X : Type 0} (x : X) (P : Type 0) → Contains [] x → P
none_in x P c = absurd (omega (arith, c.1))

module _ (g : Game) (t : Score) (positions : List Position) (moves : List (List (ℕ × ℕ)))
    (parents : List (List ℕ)) (q : Position) (shape : HasShape g t positions moves parents)
    (fresh : (k : ℕ) → slice_get positions k ≡ Some q → ⊥) (position : IsPosition g q) where
  -- a place with moves stood before
  old_moves : (i : ℕ) (p : Position) (ms : List (ℕ × ℕ))
      → slice_get (positions ++ q ∷ []) i ≡ Some p
      → slice_get (moves ++ [] ∷ []) i ≡ Some ms
      → 0 < length ms
      → (slice_get positions i ≡ Some p) × (slice_get moves i ≡ Some ms)
  old_moves i p ms pos mov some = elim (at_push moves [] ms i mov) [
    | inl old ↦
        let w = slice_get_within moves i ms old in
        (at_before positions q p i pos (omega (arith, w, shape.move_count)), old)
    | inr new ↦ let e : ◌≡◌ {A = ℕ} 0 (length ms) = ap length new.1 in absurd (omega arith)
  ]

  some_from : (ms : List (ℕ × ℕ)) (m : ℕ × ℕ) → Contains ms m → 0 < length ms
  some_from ms m c = omega (arith, c.1)

  pub shape-push : HasShape g t (positions ++ q ∷ []) (moves ++ [] ∷ []) (parents ++ [] ∷ [])
  shape-push = record {
    move_count =
        let none : List (ℕ × ℕ) = [] in
        omega (
          arith,
          length-append positions (q ∷ []),
          length-append moves (none ∷ []),
          shape.move_count,
        );
    parent_count =
        let none : List ℕ = [] in
        omega (
          arith,
          length-append positions (q ∷ []),
          length-append parents (none ∷ []),
          shape.parent_count,
        );
    fits = λ i p a. elim (at_push positions q p i a) [
      | inl old ↦ shape.fits i p old
      | inr new ↦ subst (λ (r : Position). IsPosition g r) new.1 position
    ];
    different = λ i k p a b. elim (at_push positions q p i a) [
      | inl old ↦ elim (at_push positions q p k b) [
        | inl other ↦ shape.different i k p old other
        | inr new ↦ absurd (fresh i (old ∙ ap Some (sym new.1)))
      ]
      | inr new ↦ elim (at_push positions q p k b) [
        | inl other ↦ absurd (fresh k (other ∙ ap Some (sym new.1)))
        | inr last ↦ new.0 ∙ sym last.0
      ]
    ];
    undecided = λ i p ms pos mov some.
        let o = old_moves i p ms pos mov some in
        shape.undecided i p ms o.0 o.1 some;
    points = λ i p ms pos mov some.
        let o = old_moves i p ms pos mov some in
        shape.points i p ms o.0 o.1 some;
    leads = λ i p ms pos mov m c.
        let o = old_moves i p ms pos mov (some_from ms m c) in
        at_old positions q (after g p m.0) m.1 (shape.leads i p ms o.0 o.1 m c);
    kept = λ i ms mov m c. elim (at_push moves [] ms i mov) [
      | inl old ↦ let k = shape.kept i ms old m c in (k.0, at_old parents [] k.0 m.1 k.1, k.2)
      | inr new ↦ let e : ◌≡◌ {A = ℕ} 0 (length ms) = ap length new.1 in absurd (omega (arith, c.1))
    ];
    parent_range = λ i ps at k c. elim (at_push parents [] ps i at) [
      | inl old ↦
          let r = shape.parent_range i ps old k c in
          omega (arith, r, length-append positions (q ∷ []))
      | inr new ↦ let e : ◌≡◌ {A = ℕ} 0 (length ps) = ap length new.1 in absurd (omega (arith, c.1))
    ];
  }

  module _ (answers : List (Option Answered)) (agree : Agree positions moves answers [])
      (a : Option Answered) where
    by_same : (i : ℕ) (p : Position) (ms : List (ℕ × ℕ))
        → slice_get positions i ≡ Some p
        → slice_get moves i ≡ Some ms
        → by_answers (answers ++ a ∷ []) p ms ≡ by_answers answers p ms
    by_same i p ms pos mov = ap (by_moves p.turn)
        (map-members (λ (m : ℕ × ℕ). answer_at (answers ++ a ∷ []) m.1)
        (λ m. answer_at answers m.1) ms (λ m c.
        let w = slice_get_within positions m.1 _ (shape.leads i p ms pos mov m c) in
        ap answer_of (same_before answers a m.1 (omega (arith, w, agree.count)))))

    answer_same : (i : ℕ)
        → i < length positions
        → answer_at (answers ++ a ∷ []) i ≡ answer_at answers i
    answer_same i lt = ap answer_of (same_before answers a i (omega (arith, agree.count)))

    pub agree-push : Agree (positions ++ q ∷ []) (moves ++ [] ∷ []) (answers ++ a ∷ []) []
    agree-push = record {
      count = omega (
        arith,
        length-append positions (q ∷ []),
        length-append answers (a ∷ []),
        agree.count,
      );
      range = λ i c. none_in i (i < length (positions ++ q ∷ [])) c;
      sound = λ i p ms pos mov some b is.
          let o = old_moves i p ms pos mov some in
          by_same i p ms o.0 o.1
          ∙ agree.sound i p ms o.0 o.1 some b
          (sym (answer_same i (slice_get_within positions i p o.0)) ∙ is);
      known = λ i p ms pos mov some b is.
          let o = old_moves i p ms pos mov some in
          elim (agree.known i p ms o.0 o.1 some b (sym (by_same i p ms o.0 o.1) ∙ is)) [
            | inl on ↦ inl (answer_same i (slice_get_within positions i p o.0) ∙ on)
            | inr c ↦ inr c
          ];
    }

  pub expanded-push : (table : List Position)
      → AreExpanded table positions moves
      → AreExpanded table (positions ++ q ∷ []) (moves ++ [] ∷ [])
  expanded-push table e = record {
    placed = λ p c.
        let f = e.placed p c in
        (f.0, f.1, at_old positions q p f.0 f.2, at_old moves [] f.1 f.0 f.3, f.4);
    listed = λ i p ms pos mov some.
        let o = old_moves i p ms pos mov some in
        e.listed i p ms o.0 o.1 some;
  }

-- ---- the answers and nodes

one_more_by : (a : Bool) (old new : Bool → List Node) (node : Node)
    → new a ≡ old a ++ node ∷ []
    → new (not a) ≡ old (not a)
    → length (new true) + length (new false) ≡ length (old true) + length (old false) + 1
one_more_by true old new node added other =
    omega (arith, ap length added, ap length other, length-append (old true) (node ∷ []))
one_more_by false old new node added other =
    omega (arith, ap length added, ap length other, length-append (old false) (node ∷ []))

count-push : (answers : List (Option Answered)) (a : Option Answered)
    → count_by is_none (answers ++ a ∷ []) ≡ count_by is_none answers + cond (is_none a) 1 0
count-push answers a = sum_by_push (λ (o : Option Answered). cond (is_none o) 1 0) answers a

shown-open-push : (g : Game) (t : Score) (positions : List Position) (q : Position)
    (answers : List (Option Answered)) (old new : Bool → List Node)
    → length answers ≡ length positions
    → AreShown g t positions answers old
    → ((b : Bool) → new b ≡ old b)
    → AreShown g t (positions ++ q ∷ []) (answers ++ None ∷ []) new
shown-open-push g t positions q answers old new len shown same =
    subst (λ (ns : Bool → List Node). AreShown g t (positions ++ q ∷ []) (answers ++ None ∷ []) ns)
    (λ i b. sym (same b) i) (record {
      hold = shown.hold;
      shown = λ i b n is.
          let f = shown.shown i b n (before i b n is) in
          (f.0, f.1, at_old positions q (position_of f.0) i f.2);
      placed = λ b n node at.
          let f = shown.placed b n node at in
          (f.0, at_old answers None (Some (record { answer = b; node = n })) f.0 f.1);
      kinds = λ b n node at. shown.kinds b n node at;
      count =
          let none : Option Answered = None in
          omega (arith, count-push answers none, length-append answers (none ∷ []), shown.count);
    })
  where
    before : (i : ℕ) (b : Bool) (n : ℕ)
        → IsShown (answers ++ None ∷ []) i b n
        → IsShown answers i b n
    before i b n is = elim (at_push answers None (Some (record { answer = b; node = n })) i is) [
      | inl old ↦ old
      | inr new ↦ absurd (some≢none (sym new.1))
    ]

shown-leaf-push : (g : Game) (t : Score) (positions : List Position) (q : Position)
    (answers : List (Option Answered)) (a : Answered) (old new : Bool → List Node)
    → length answers ≡ length positions
    → AreShown g t positions answers old
    → IsLeafAdded g t q a old new
    → AreShown g t (positions ++ q ∷ []) (answers ++ Some a ∷ []) new
shown-leaf-push g t positions q answers a old new len shown s = record {
  hold = λ b. elim (answer-cases b a.answer) [
    | inl e ↦ subst (λ c. NodesHold g (claimer c) (claimed_goal g.kind t c) (new c)) (sym e)
        (subst (λ (ns : List Node).
        NodesHold g (claimer a.answer) (claimed_goal g.kind t a.answer) ns) (sym s.added)
        (nodes-push g (claimer a.answer) (claimed_goal g.kind t a.answer) (old a.answer) s.node
        (shown.hold a.answer) (subst (λ (p : Position). BodyHolds g (claimer a.answer)
        (claimed_goal g.kind t a.answer) (old a.answer) (length (old a.answer)) p s.node.body)
        (sym s.position) (s.shows.holds (old a.answer) (length (old a.answer))))))
    | inr e ↦ subst (λ c. NodesHold g (claimer c) (claimed_goal g.kind t c) (new c)) (sym e)
        (subst (λ (ns : List Node). NodesHold g (claimer (not a.answer))
        (claimed_goal g.kind t (not a.answer)) ns) (sym s.other) (shown.hold (not a.answer)))
  ];
  shown = shows;
  placed = λ b n node at. elim (answer-cases b a.answer) [
    | inl e ↦ elim (at_push (old a.answer) s.node node n
        (ap (λ ns. slice_get ns n) (sym s.added) ∙ ap (λ c. slice_get (new c) n) (sym e) ∙ at)) [
          | inl was ↦
              let f = shown.placed a.answer n node was in (
                f.0,
                subst (λ (c : Bool). IsShown (answers ++ Some a ∷ []) f.0 c n) (sym e)
                    (at_old answers (Some a)
                    (Some (record { answer = a.answer; node = n })) f.0 f.1),
              )
          | inr fresh ↦ (
            length answers,
            at_new answers (Some a)
                ∙ λ i. Some (Some (record { answer = sym e i; node = (s.number ∙ sym fresh.0) i })),
          )
        ]
    | inr e ↦
        let f = shown.placed (not a.answer) n node
        (ap (λ ns. slice_get ns n) (sym s.other) ∙ ap (λ c. slice_get (new c) n) (sym e) ∙ at) in (
          f.0,
          subst (λ (c : Bool). IsShown (answers ++ Some a ∷ []) f.0 c n) (sym e)
              (at_old answers (Some a) (Some (record { answer = not a.answer; node = n })) f.0 f.1),
        )
  ];
  kinds = λ b n node at. elim (answer-cases b a.answer) [
    | inl e ↦ elim (at_push (old a.answer) s.node node n
        (ap (λ ns. slice_get ns n) (sym s.added) ∙ ap (λ c. slice_get (new c) n) (sym e) ∙ at)) [
          | inl was ↦ shown.kinds a.answer n node was
          | inr fresh ↦
              subst (λ (x : Node). criterion_of x.body ≡ first_criterion g t (position_of x))
              fresh.1 (s.shows.first ∙ ap (first_criterion g t) (sym s.position))
        ]
    | inr e ↦ shown.kinds (not a.answer) n node
        (ap (λ ns. slice_get ns n) (sym s.other) ∙ ap (λ c. slice_get (new c) n) (sym e) ∙ at)
  ];
  count =
      let some : Option Answered = Some a in
      let more = one_more_by a.answer old new s.node s.added s.other in
      omega (arith, count-push answers some, length-append answers (some ∷ []), more, shown.count);
}
  where
    still : (b : Bool) (n : ℕ) (node : Node)
        → slice_get (old b) n ≡ Some node
        → slice_get (new b) n ≡ Some node
    still b n node at = elim (answer-cases b a.answer) [
      | inl e ↦
          subst (λ c. slice_get (new c) n ≡ Some node) (sym e) (ap (λ ns. slice_get ns n) s.added
          ∙ at_old (old a.answer) s.node node n (ap (λ c. slice_get (old c) n) (sym e) ∙ at))
      | inr e ↦ subst (λ c. slice_get (new c) n ≡ Some node) (sym e)
          (ap (λ ns. slice_get ns n) s.other ∙ (ap (λ c. slice_get (old c) n) (sym e) ∙ at))
    ]

    shows : (i : ℕ) (b : Bool) (n : ℕ)
        → IsShown (answers ++ Some a ∷ []) i b n
        → (node : Node) × (slice_get (new b) n ≡ Some node)
        × (slice_get (positions ++ q ∷ []) i ≡ Some (position_of node))
    shows i b n is = elim (at_push answers (Some a) (Some (record { answer = b; node = n })) i is) [
      | inl was ↦
          let f = shown.shown i b n was in
          (f.0, still b n f.0 f.1, at_old positions q (position_of f.0) i f.2)
      | inr fresh ↦
          let same : a ≡ record { answer = b; node = n } = same_some fresh.1 in (
            s.node,
            subst (λ (x : Answered). slice_get (new x.answer) x.node ≡ Some s.node) same
                (ap (λ ns. slice_get ns a.node) s.added
                ∙ ap (slice_get (old a.answer ++ s.node ∷ [])) s.number
                ∙ at_new (old a.answer) s.node),
            ap (slice_get (positions ++ q ∷ [])) (fresh.0 ∙ len)
                ∙ at_new positions q
                ∙ ap Some (sym s.position),
          )
    ]

pub shown-push : (g : Game) (t : Score) (positions : List Position) (q : Position)
    (answers : List (Option Answered)) (a : Option Answered) (old new : Bool → List Node)
    → length answers ≡ length positions
    → AreShown g t positions answers old
    → LeafAdds g t q a old new
    → AreShown g t (positions ++ q ∷ []) (answers ++ a ∷ []) new
shown-push g t positions q answers None old new len shown s =
    shown-open-push g t positions q answers old new len shown s.1
shown-push g t positions q answers (Some a) old new len shown s =
    shown-leaf-push g t positions q answers a old new len shown s

leaf-answer : (g : Game) (t : Score) (q : Position) (a : Option Answered)
    (old new : Bool → List Node) (b : Bool)
    → LeafAdds g t q a old new
    → decided g t q ≡ Some b
    → answer_of (Some a) ≡ Some b
leaf-answer g t q None old new b s is = absurd (some≢none (sym is ∙ s.0))
leaf-answer g t q (Some a) old new b s is = sym s.decides ∙ is

pub leafs-push : (g : Game) (t : Score) (positions : List Position) (q : Position)
    (answers : List (Option Answered)) (a : Option Answered) (old new : Bool → List Node)
    → length answers ≡ length positions
    → AreDecided g t positions answers
    → LeafAdds g t q a old new
    → AreDecided g t (positions ++ q ∷ []) (answers ++ a ∷ [])
leafs-push g t positions q answers a old new len leafs s i p b at is =
    elim (at_push positions q p i at) [
      | inl was ↦ ap answer_of (same_before answers a i
          (let w = slice_get_within positions i p was in omega (arith, len)))
          ∙ leafs i p b was is
      | inr fresh ↦ ap (answer_at (answers ++ a ∷ [])) (fresh.0 ∙ sym len)
          ∙ ap answer_of (at_new answers a)
          ∙ leaf-answer g t q a old new b s (ap (decided g t) fresh.1 ∙ is)
    ]

-- a position that wasn't met, with what a leaf adds for it
pub tree-push : (g : Game) (t : Score) (positions : List Position)
    (moves : List (List (ℕ × ℕ))) (parents : List (List ℕ))
    (answers : List (Option Answered)) (old new : Bool → List Node) (q : Position)
    (a : Option Answered)
    → IsTree g t [] positions moves parents answers old
    → ((k : ℕ) → slice_get positions k ≡ Some q → ⊥)
    → LeafAdds g t q a old new
    → IsPosition g q
    → IsTree g t [] (positions ++ q ∷ []) (moves ++ [] ∷ []) (parents ++ [] ∷ [])
    (answers ++ a ∷ []) new
tree-push g t positions moves parents answers old new q a tree fresh s position = record {
  shape = shape-push g t positions moves parents q tree.shape fresh position;
  agree = agree-push g t positions moves parents q tree.shape fresh position answers tree.agree a;
  shown = shown-push g t positions q answers a old new tree.agree.count tree.shown s;
  leafs = leafs-push g t positions q answers a old new tree.agree.count tree.leafs s;
}

pub extends-push : (q : Position) (positions : List Position) (moves : List (List (ℕ × ℕ)))
    (parents : List (List ℕ)) (answers : List (Option Answered)) (a : Option Answered)
    → Extends q positions (positions ++ q ∷ []) moves (moves ++ [] ∷ []) parents
    (parents ++ [] ∷ []) answers (answers ++ a ∷ [])
extends-push q positions moves parents answers a = record {
  same_positions = λ i p at. at_old positions q p i at;
  same_moves = λ i ms at. at_old moves [] ms i at;
  same_parents = λ i ps at. at_old parents [] ps i at;
  same_answers = λ i o at. at_old answers a o i at;
  count = omega (arith, length-append positions (q ∷ []));
  new = λ i p at. elim (at_push positions q p i at) [
    | inl old ↦ inl old
    | inr new ↦ inr (sym new.1)
  ];
  new_parents = λ i ps at. elim (at_push parents [] ps i at) [
    | inl old ↦ inl old
    | inr new ↦ inr (sym new.1)
  ];
}
