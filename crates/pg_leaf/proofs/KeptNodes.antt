-- A claim's nodes without those that its root doesn't reach: what is marked, and what is kept.
use Rattle.std.proofs.Common.{◌≡◌, ℕ, ◌+◌, ◌<◌, ◌≤◌, Bool, true, false, Some, List, [], ◌∷◌}
use Rattle.std.proofs.Common.{◌++◌, map, length, get_or, take, refl, sym, ap, ◌∙◌, subst, inl, inr}
use Rattle.std.proofs.Common.{◌⊎◌, arith, slice_get, length-append}
use Rattle.pg_leaf.proofs.Common.{cases_eq, cases_Bool}
use Rattle.pg_leaf.proofs.Common.{false≢true, take_more, All-contains}
use Rattle.pg_leaf.proofs.Common.{slice_get_within, slice_get-get_or, get_or_from_slice_get, Goal}
use Rattle.pg_leaf.proofs.Common.{Side, Game, Position, is_free, after, point_count, position_of}
use Rattle.pg_leaf.proofs.Common.{IsNodeOf, NamesEarlier, Body, Over, Move, Pairs, Potential, Trees}
use Rattle.pg_leaf.proofs.Common.{Cuts, Threat, Weaker, Node, Reply, IsMarked, at_contains}
use Rattle.pg_leaf.proofs.Common.{contains_at, at_new, at_old, at_push}
use Rattle.pg_leaf.proofs.Common.{map-same_at, one_at}
use Rattle.pg_text.specs.Text.{ascend_from}
use Rattle.pg_cert.specs.declared.node.Body.TheVariants.{All as AllReplies}
use Rattle.pg_leaf.specs.Sound.{BodyHolds}
use Rattle.pg_leaf.specs.Pruned.{AreMarked, AreNamed, AreRenumbered, IsKept, IsMoved, IsPruned}
use Rattle.pg_leaf.specs.Pruned.{IsSource, MarksMore, Names, Renumbers}
use Rattle.pg_leaf.proofs.Nodes.{nodes-push}

-- ---- one mark more, and those of replies

pub marks-same : (named : ℕ → Type 0) (old : List Bool)
    → ((i : ℕ) → named i → ⊥)
    → MarksMore named old old
marks-same named old none = record {
  count = refl;
  kept = λ i on. on;
  marked = λ i n. absurd (none i n);
  only = λ i on. inl on;
}

pub names-earlier : (body : Body) (k i : ℕ) → NamesEarlier k body → Names body i → i < k
names-earlier Over k i e n = absurd n
names-earlier (Move point child) k i e n = omega (arith, e, n)
names-earlier (AllReplies replies) k i e n =
    let low = All-contains (λ (r : Reply). r.child < k) replies n.0 e n.1 in
    omega (arith, low, n.2)
names-earlier (Pairs pairs) k i e n = absurd n
names-earlier Potential k i e n = absurd n
names-earlier (Trees e1 first second) k i e n = absurd n
names-earlier (Cuts e1 first second) k i e n = absurd n
names-earlier (Threat points) k i e n = absurd n
names-earlier (Weaker child) k i e n = omega (arith, e, n)

-- ---- all marks

module _ (nodes : List Node) (k : ℕ) (node : Node) (old new : List Bool)
    (at : slice_get nodes k ≡ Some node) (earlier : NamesEarlier k node.body)
    (was : AreMarked nodes (k + 1) old) where
  marked-on : IsMarked old k → MarksMore (Names node.body) old new → AreMarked nodes k new
  marked-on on more = record {
    count = more.count ∙ was.count;
    last = λ n e. more.kept n (was.last n e);
    closed = λ j i m low here is names. elim (cases_eq j k) [
      | inl e ↦ more.marked i
          (subst (λ (n : Node). Names n.body i)
          (one_at nodes k m node (ap (slice_get nodes) (sym e) ∙ is) at) names)
      | inr ne ↦ elim (more.only j here) [
        | inl before ↦ more.kept i (was.closed j i m (omega (arith, low, ne)) before is names)
        | inr named ↦
            let under = names-earlier node.body k j earlier named in
            absurd (omega (arith, under, low))
      ]
    ];
    used = λ i here high. elim (more.only i here) [
      | inl before ↦
          let u = was.used i before high in
          record {
            by = u.by;
            node = u.node;
            marked = more.kept u.by u.marked;
            at = u.at;
            names = u.names;
          }
      | inr named ↦ record { by = k; node = node; marked = more.kept k on; at = at; names = named }
    ];
  }

  marked-off : slice_get old k ≡ Some false → AreMarked nodes k old
  marked-off off = record {
    count = was.count;
    last = was.last;
    closed = λ j i m low here is names. elim (cases_eq j k) [
      | inl e ↦
          absurd (false≢true (one_at old k false true off (ap (slice_get old) (sym e) ∙ here)))
      | inr ne ↦ was.closed j i m (omega (arith, low, ne)) here is names
    ];
    used = was.used;
  }

  pub marked-step : (IsMarked old k → MarksMore (Names node.body) old new)
      → (slice_get old k ≡ Some false → new ≡ old)
      → AreMarked nodes k new
  marked-step more same =
      let within : k < length old =
      let low = slice_get_within nodes k node at in omega (arith, low, was.count) in
      let is = slice_get-get_or old k false within in
      elim (cases_Bool (get_or old k false)) [
        | inl on ↦ let here = is ∙ ap Some on in marked-on here (more here)
        | inr off ↦
            let here = is ∙ ap Some off in
            subst (λ (marks : List Bool). AreMarked nodes k marks) (sym (same here))
            (marked-off here)
      ]

-- ---- new numbers

pub reply-renumbered : (numbers : List ℕ) (replies new : List Reply) (k n : ℕ) (d : Reply)
    → k < length replies
    → slice_get numbers (get_or replies k d).child ≡ Some n
    → AreRenumbered numbers (take k replies) new
    → AreRenumbered numbers (take (k + 1) replies)
    (new ++ record { point = (get_or replies k d).point; child = n } ∷ [])
reply-renumbered numbers replies new k n d within at were =
    let r = get_or replies k d in
    let is = take_more replies k d within in
    let s : Reply = record { point = r.point; child = n } in
    subst (λ (rs : List Reply). AreRenumbered numbers rs (new ++ s ∷ [])) (sym is) (record {
      count = omega (
        arith,
        were.count,
        length-append new (s ∷ []),
        length-append (take k replies) (r ∷ []),
      );
      each = λ j q there. elim (at_push (take k replies) r q j there) [
        | inl old ↦
            let f = were.each j q old in
            (f.0, f.1, at_old new s (record { point = q.point; child = f.0 }) j f.2)
        | inr last ↦
            let end : j ≡ length new = last.0 ∙ sym were.count in (
              n,
              ap (λ (x : Reply). slice_get numbers x.child) (sym last.1) ∙ at,
              ap (slice_get (new ++ s ∷ [])) end
                  ∙ at_new new s
                  ∙ ap (λ (x : Reply). Some (record { point = x.point; child = n })) last.1,
            )
      ];
    })

renumbers-more : (numbers : List ℕ) (x : ℕ) (old new : Body)
    → Renumbers numbers old new
    → Renumbers (numbers ++ x ∷ []) old new
renumbers-more numbers x Over new h = h
renumbers-more numbers x (Move point child) new h = (h.0, at_old numbers x h.0 child h.1, h.2)
renumbers-more numbers x (AllReplies replies) new h = (
  h.0,
  record {
    count = h.1.count;
    each = λ k r there. let f = h.1.each k r there in (f.0, at_old numbers x f.0 r.child f.1, f.2);
  },
  h.2,
)
renumbers-more numbers x (Pairs pairs) new h = h
renumbers-more numbers x Potential new h = h
renumbers-more numbers x (Trees e first second) new h = h
renumbers-more numbers x (Cuts e first second) new h = h
renumbers-more numbers x (Threat points) new h = h
renumbers-more numbers x (Weaker child) new h = (h.0, at_old numbers x h.0 child h.1, h.2)

-- what the new body names comes from what the old one names
pub renumbers-names : (numbers : List ℕ) (old new : Body) (i d : ℕ)
    → Renumbers numbers old new
    → Names old i
    → slice_get numbers i ≡ Some d
    → Names new d
renumbers-names numbers Over new i d h n at = absurd n
renumbers-names numbers (Move point child) new i d h n at = subst (λ (b : Body). Names b d)
    (sym h.2) (one_at numbers i h.0 d (ap (slice_get numbers) (sym n) ∙ h.1) at)
renumbers-names numbers (AllReplies replies) new i d h n at =
    let k = contains_at replies n.0 n.1 in
    let f = h.1.each k.0 n.0 k.1 in
    let same = one_at numbers i f.0 d (ap (slice_get numbers) (sym n.2) ∙ f.1) at in
    subst (λ (b : Body). Names b d) (sym h.2) (
      record { point = n.0.point; child = f.0 },
      at_contains h.0 k.0 (record { point = n.0.point; child = f.0 }) f.2,
      same,
    )
renumbers-names numbers (Pairs pairs) new i d h n at = absurd n
renumbers-names numbers Potential new i d h n at = absurd n
renumbers-names numbers (Trees e first second) new i d h n at = absurd n
renumbers-names numbers (Cuts e first second) new i d h n at = absurd n
renumbers-names numbers (Threat points) new i d h n at = absurd n
renumbers-names numbers (Weaker child) new i d h n at = subst (λ (b : Body). Names b d) (sym h.2)
    (one_at numbers i h.0 d (ap (slice_get numbers) (sym n) ∙ h.1) at)

-- ---- the body of a node that is kept

-- the reply at a place comes from the one that stood there
record IsFrom (numbers : List ℕ) (replies others : List Reply) (n : ℕ) (d : Reply) : Type 0 where
  pub within : n < length replies
  pub number : slice_get numbers (get_or replies n d).child ≡ Some (get_or others n d).child
  pub point : (get_or others n d).point ≡ (get_or replies n d).point

reply-from : (numbers : List ℕ) (replies others : List Reply) (n : ℕ) (d : Reply)
    → AreRenumbered numbers replies others
    → n < length others
    → IsFrom numbers replies others n d
reply-from numbers replies others n d are lt =
    let within : n < length replies = omega (arith, lt, are.count) in
    let f = are.each n (get_or replies n d) (slice_get-get_or replies n d within) in
    let is = get_or_from_slice_get others n (record {
      point = (get_or replies n d).point;
      child = f.0;
    }) d f.2 in
    record {
      within = within;
      number = f.1 ∙ ap (λ (r : Reply). Some r.child) (sym is);
      point = ap (λ (r : Reply). r.point) is;
    }

module _ (g : Game) (side : Side) (goal : Goal) (nodes out : List Node) (k : ℕ) (more : List ℕ)
    (p : Position) (few : length out ≤ 99999) (kept : ℕ → Type 0)
    (child : (i d : ℕ) (q : Position) → kept i
    → i < k
    → slice_get more i ≡ Some d
    → IsNodeOf nodes i q
    → IsNodeOf out d q)
    (below : (i d : ℕ) → kept i → i < k → slice_get more i ≡ Some d → d < length out) where
  named-at : (replies : List Reply) (n : ℕ) (d : Reply)
      → n < length replies
      → AreNamed replies (get_or replies n d).child
  named-at replies n d lt = (
    get_or replies n d,
    at_contains replies n (get_or replies n d) (slice_get-get_or replies n d lt),
    refl,
  )

  replies-hold : (replies others : List Reply)
      → AreRenumbered more replies others
      → ((i : ℕ) → AreNamed replies i → kept i)
      → BodyHolds g side goal nodes k p (AllReplies replies)
      → BodyHolds g side goal out (length out) p (AllReplies others)
  replies-hold replies others are each h =
      let points : map (λ (r : Reply). r.point) others ≡ map (λ (r : Reply). r.point) replies =
      map-same_at (λ (r : Reply). r.point) (λ (r : Reply). r.point) others replies are.count
      (λ n r m r_at m_at.
      let f = are.each n m m_at in
      ap (λ (s : Reply). s.point) (one_at others n r (record {
        point = m.point;
        child = f.0;
      }) r_at f.2)) in
      record {
        owes = record {
          position = h.owes.position;
          allowed = refl;
          turn = h.owes.turn;
          free = points ∙ h.owes.free;
          end = h.owes.end;
          pairs = tt;
          potential = tt;
          trees = tt;
          cuts = tt;
          threat = tt;
          version = refl;
        };
        range = (
          λ n d lt.
              let f = reply-from more replies others n d are lt in
              let low = below (get_or replies n d).child (get_or others n d).child
              (each (get_or replies n d).child (named-at replies n d f.within))
              (h.earlier n d f.within) f.number in (
                subst (λ v. v < 1024) (sym f.point) (h.range.0 n d f.within).0,
                omega (arith, few, low),
              ),
          ap (ascend_from 0) points ∙ h.range.1,
        );
        earlier = λ n d lt.
            let f = reply-from more replies others n d are lt in
            below (get_or replies n d).child (get_or others n d).child
            (each (get_or replies n d).child (named-at replies n d f.within))
            (h.earlier n d f.within) f.number;
        follows = λ n d lt. let f = reply-from more replies others n d are lt in record {
          leads = λ range free.
              let leads =
              (h.follows n d f.within).leads (subst (λ v. v < point_count g) f.point range)
              (subst (λ v. is_free p v ≡ true) f.point free) in
              subst (λ v. IsNodeOf out (get_or others n d).child (after g p v)) (sym f.point)
              (child (get_or replies n d).child (get_or others n d).child
              (after g p (get_or replies n d).point)
              (each (get_or replies n d).child (named-at replies n d f.within))
              (h.earlier n d f.within) f.number leads);
        };
      }

  pub body-moved : (old new : Body)
      → Renumbers more old new
      → ((i : ℕ) → Names old i → kept i)
      → BodyHolds g side goal nodes k p old
      → BodyHolds g side goal out (length out) p new
  body-moved Over new e each h =
      subst (λ (b : Body). BodyHolds g side goal out (length out) p b) (sym e) (record {
        owes = h.owes;
        range = h.range;
        earlier = h.earlier;
        follows = h.follows;
      })
  body-moved (Move point c) new e each h =
      let low = below c e.0 (each c refl) h.earlier e.1 in
      subst (λ (b : Body). BodyHolds g side goal out (length out) p b) (sym e.2) (record {
        owes = record {
          position = h.owes.position;
          allowed = refl;
          turn = h.owes.turn;
          free = h.owes.free;
          end = h.owes.end;
          pairs = tt;
          potential = tt;
          trees = tt;
          cuts = tt;
          threat = tt;
          version = refl;
        };
        range = (h.range.0, omega (arith, low, few));
        earlier = low;
        follows = record {
          leads = λ range free. child c e.0 (after g p point) (each c refl) h.earlier e.1
              (h.follows.leads range free);
        };
      })
  body-moved (AllReplies replies) new e each h =
      subst (λ (b : Body). BodyHolds g side goal out (length out) p b) (sym e.2)
      (replies-hold replies e.0 e.1 each h)
  body-moved (Pairs pairs) new e each h =
      subst (λ (b : Body). BodyHolds g side goal out (length out) p b) (sym e) (record {
        owes = h.owes;
        range = h.range;
        earlier = h.earlier;
        follows = h.follows;
      })
  body-moved Potential new e each h =
      subst (λ (b : Body). BodyHolds g side goal out (length out) p b) (sym e) (record {
        owes = h.owes;
        range = h.range;
        earlier = h.earlier;
        follows = h.follows;
      })
  body-moved (Trees f first second) new e each h =
      subst (λ (b : Body). BodyHolds g side goal out (length out) p b) (sym e) (record {
        owes = h.owes;
        range = h.range;
        earlier = h.earlier;
        follows = h.follows;
      })
  body-moved (Cuts f first second) new e each h =
      subst (λ (b : Body). BodyHolds g side goal out (length out) p b) (sym e) (record {
        owes = h.owes;
        range = h.range;
        earlier = h.earlier;
        follows = h.follows;
      })
  body-moved (Threat points) new e each h =
      subst (λ (b : Body). BodyHolds g side goal out (length out) p b) (sym e) (record {
        owes = h.owes;
        range = h.range;
        earlier = h.earlier;
        follows = h.follows;
      })
  body-moved (Weaker child) new e each h = absurd (false≢true h.owes.version)

-- ---- one node after the other

module _ (nodes : List Node) (marks : List Bool) (k : ℕ) (numbers : List ℕ) (out : List Node)
    (was : IsPruned nodes marks k numbers out) (n : Node) (at : slice_get nodes k ≡ Some n) where
  count : length (numbers ++ length out ∷ []) ≡ k + 1
  count = omega (arith, length-append numbers (length out ∷ []), was.count)

  -- a number is an earlier node's, or the new one
  number-parts : (i d : ℕ)
      → slice_get (numbers ++ length out ∷ []) i ≡ Some d
      → (slice_get numbers i ≡ Some d) ⊎ ((i ≡ k) × (length out ≡ d))
  number-parts i d there = elim (at_push numbers (length out) d i there) [
    | inl old ↦ inl old
    | inr new ↦ inr (new.0 ∙ was.count, new.1)
  ]

  earlier-number : (i d : ℕ)
      → i < k
      → slice_get (numbers ++ length out ∷ []) i ≡ Some d
      → slice_get numbers i ≡ Some d
  earlier-number i d low there = elim (number-parts i d there) [
    | inl old ↦ old
    | inr new ↦ absurd (omega (arith, low, new.0))
  ]

  moved-more : (behind : List Node) (i d : ℕ) (m : Node)
      → ((j : ℕ) (x : Node) → slice_get out j ≡ Some x → slice_get behind j ≡ Some x)
      → IsMarked marks i
      → slice_get numbers i ≡ Some d
      → slice_get nodes i ≡ Some m
      → IsMoved (numbers ++ length out ∷ []) behind d m
  moved-more behind i d m keeps on there is =
      let f = was.moved i d m on there is in
      record {
        node = f.node;
        at = keeps d f.node f.at;
        position = f.position;
        body = renumbers-more numbers (length out) m.body f.node.body f.body;
      }

  source-more : (d : ℕ) (m : Node)
      → slice_get out d ≡ Some m
      → IsSource nodes marks (numbers ++ length out ∷ []) d m
  source-more d m there =
      let f = was.source d m there in
      record {
        from = f.from;
        node = f.node;
        marked = f.marked;
        at = f.at;
        number = at_old numbers (length out) d f.from f.number;
        position = f.position;
        body = renumbers-more numbers (length out) f.node.body m.body f.body;
      }

  pub pruned-left : slice_get marks k ≡ Some false
      → IsPruned nodes marks (k + 1) (numbers ++ length out ∷ []) out
  pruned-left off = record {
    count = count;
    few = omega (arith, was.few);
    last = λ i d e on there.
        absurd (false≢true (one_at marks k false true off (let same : k ≡ i = omega (
          arith,
          e,
        ) in ap (slice_get marks) same ∙ on)));
    moved = λ i d m on there is. elim (number-parts i d there) [
      | inl old ↦ moved-more out i d m (λ j x here. here) on old is
      | inr new ↦ absurd
          (false≢true (one_at marks k false true off (ap (slice_get marks) (sym new.0) ∙ on)))
    ];
    source = source-more;
    hold = was.hold;
  }

  module _ (on : IsMarked marks k) (are : AreMarked nodes 0 marks) (earlier : NamesEarlier k n.body)
      (limit : k < 100000) (m : Node) (same : position_of m ≡ position_of n)
      (body : Renumbers (numbers ++ length out ∷ []) n.body m.body) where
    pub pruned-taken : IsPruned nodes marks (k + 1) (numbers ++ length out ∷ []) (out ++ m ∷ [])
    pruned-taken = record {
      count = count;
      few = omega (arith, was.few, length-append out (m ∷ []));
      last = λ i d e here there. elim (number-parts i d there) [
        | inl old ↦
            let low = slice_get_within numbers i d old in
            absurd (omega (arith, low, was.count, e))
        | inr new ↦ omega (arith, length-append out (m ∷ []), new.1)
      ];
      moved = λ i d x here there is. elim (number-parts i d there) [
        | inl old ↦ moved-more (out ++ m ∷ []) i d x (λ j y at_j. at_old out m y j at_j) here old is
        | inr new ↦
            let node_is = one_at nodes k n x at (ap (slice_get nodes) (sym new.0) ∙ is) in
            record {
              node = m;
              at = ap (slice_get (out ++ m ∷ [])) (sym new.1) ∙ at_new out m;
              position = same ∙ ap (λ (y : Node). position_of y) node_is;
              body = subst (λ (y : Node). Renumbers (numbers ++ length out ∷ []) y.body m.body)
                  node_is body;
            }
      ];
      source = λ d x there. elim (at_push out m x d there) [
        | inl old ↦ source-more d x old
        | inr new ↦ subst (λ (y : Node). IsSource nodes marks (numbers ++ length out ∷ []) d y)
            new.1 (record {
              from = k;
              node = n;
              marked = on;
              at = at;
              number = ap (slice_get (numbers ++ length out ∷ [])) (sym was.count)
                  ∙ at_new numbers (length out)
                  ∙ ap Some (sym new.0);
              position = same;
              body = body;
            })
      ];
      hold = λ g side goal h. nodes-push g side goal out m (was.hold g side goal h)
          (holds g side goal (h k n at));
    }
      where
        child : (i d : ℕ) (q : Position)
            → IsMarked marks i
            → i < k
            → slice_get (numbers ++ length out ∷ []) i ≡ Some d
            → IsNodeOf nodes i q
            → IsNodeOf out d q
        child i d q here low there c =
            let f = was.moved i d c.node here (earlier-number i d low there) c.at in
            record { node = f.node; at = f.at; position = f.position ∙ c.position }

        below : (i d : ℕ)
            → IsMarked marks i
            → i < k
            → slice_get (numbers ++ length out ∷ []) i ≡ Some d
            → d < length out
        below i d here low there =
            let within = slice_get_within nodes k n at in
            let f = was.moved i d (get_or nodes i n) here (earlier-number i d low there)
            (slice_get-get_or nodes i n (omega (arith, within, low))) in
            slice_get_within out d f.node f.at

        holds : (g : Game) (side : Side) (goal : Goal)
            → BodyHolds g side goal nodes k (position_of n) n.body
            → BodyHolds g side goal out (length out) (position_of m) m.body
        holds g side goal h =
            subst (λ (q : Position). BodyHolds g side goal out (length out) q m.body) (sym same)
            (body-moved g side goal nodes out k (numbers ++ length out ∷ []) (position_of n)
            (omega (arith, was.few, limit)) (IsMarked marks) child below n.body m.body body
            (λ i named. are.closed k i n (omega arith) on at named) h)

-- what is kept of one node is one step more
pub pruned-step : (nodes : List Node) (marks : List Bool) (k : ℕ) (numbers more : List ℕ)
    (out behind : List Node) (n : Node) (marked : Bool)
    → slice_get nodes k ≡ Some n
    → slice_get marks k ≡ Some marked
    → AreMarked nodes 0 marks
    → NamesEarlier k n.body
    → k < 100000
    → IsPruned nodes marks k numbers out
    → IsKept marked n numbers more out behind
    → IsPruned nodes marks (k + 1) more behind
pruned-step nodes marks k numbers more out behind n true at on are earlier limit was kept =
    let taken = kept.taken refl in
    let m = taken.0 in
    subst (λ (ns : List ℕ). IsPruned nodes marks (k + 1) ns behind) (sym kept.number)
    (subst (λ (ms : List Node). IsPruned nodes marks (k + 1) (numbers ++ length out ∷ []) ms)
    (sym taken.3)
    (pruned-taken nodes marks k numbers out was n at on are earlier limit m taken.1
    (subst (λ (ns : List ℕ). Renumbers ns n.body m.body) kept.number taken.2)))
pruned-step nodes marks k numbers more out behind n false at off are earlier limit was kept =
    subst (λ (ns : List ℕ). IsPruned nodes marks (k + 1) ns behind) (sym kept.number)
    (subst (λ (ms : List Node). IsPruned nodes marks (k + 1) (numbers ++ length out ∷ []) ms)
    (sym (kept.left refl)) (pruned-left nodes marks k numbers out was n at off))
