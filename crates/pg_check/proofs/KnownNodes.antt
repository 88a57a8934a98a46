-- What is known of a claim by its nodes so far decides as the claim does.
use Rattle.std.proofs.Common.{◌≡◌, ◌∙◌, ◌↔◌, ℕ, ◌+◌, ◌<◌, zero, suc, true, List, [], ◌∷◌, ◌++◌, map}
use Rattle.std.proofs.Common.{take, get_or, Option, Some, None, slice_get, refl, sym, ap, subst}
use Rattle.std.proofs.Common.{arith}
use Rattle.std.specs.Prelude.{option_map}
use Rattle.pg_check.proofs.Common.{slice_get-map, slice_get_within, slice_get-get_or, take_more}
use Rattle.pg_check.proofs.Common.{map_push, Side, Game, Position, IsNoWorse, Claim, Node, Body}
use Rattle.pg_check.proofs.Common.{Over, Move, Pairs, Potential, Trees, Cuts, Threat, Weaker}
use Rattle.pg_check.proofs.Common.{NodeFault, position_of, fault_number, is_allowed, IsNodeOf}
use Rattle.pg_check.proofs.Common.{NamesEarlier, Owes, HasTurn, TakesFree, EndsRight, HasPairs}
use Rattle.pg_check.proofs.Common.{HasPotential, HasTrees, HasCuts, HasThreat, FollowsMove}
use Rattle.pg_check.proofs.Common.{FollowMoves, HasWeaker, Passes, IsSound, IsLeastFault, kept}
use Rattle.pg_cert.specs.declared.node.Body.TheVariants.{All}
use Rattle.pg_cert.specs.declared.node_fault.NodeFault.TheVariants as faults
use Rattle.pg_check.specs.declared.present.Present.{Present}
use Rattle.pg_check.specs.Present.{bare, known, PassesSoFar, IsSoundSoFar, IsLeastSoFar, IsKnownOf}

-- a position that was kept, as a node that has it
pub bare-iff : (marks : List Position) (child : ℕ) (q : Position)
    → (slice_get marks child ≡ Some q → IsNodeOf (map bare marks) child q)
    × (IsNodeOf (map bare marks) child q → slice_get marks child ≡ Some q)
bare-iff marks child q = (
  λ e. record {
    node = bare q;
    at = slice_get-map bare marks child ∙ ap (option_map bare) e;
    position = refl;
  },
  λ h. here (slice_get marks child) h refl,
)
  where
    here : (o : Option Position) (h : IsNodeOf (map bare marks) child q)
        → slice_get marks child ≡ o
        → slice_get marks child ≡ Some q
    here None h e =
        let none : None ≡ Some h.node =
        sym (slice_get-map bare marks child ∙ ap (option_map bare) e) ∙ h.at in
        absurd cc
    here (Some p) h e =
        let same : Some (bare p) ≡ Some h.node =
        sym (slice_get-map bare marks child ∙ ap (option_map bare) e) ∙ h.at in
        let node : bare p ≡ h.node = cc in
        e ∙ ap Some (ap position_of node ∙ h.position)

-- the first members are those of the list
taken-at : {A : Type 0} (xs : List A) (k i : ℕ) → i < k → slice_get (take k xs) i ≡ slice_get xs i
taken-at [] zero i lt = refl
taken-at [] (suc k) i lt = refl
taken-at (x ∷ xs) zero i lt = absurd (omega (arith, lt))
taken-at (x ∷ xs) (suc k) zero lt = refl
taken-at (x ∷ xs) (suc k) (suc i) lt = taken-at xs k i (omega (arith, lt))

module _ (g : Game) (c : Present) (claim : Claim) (k : ℕ) (is : IsKnownOf c claim k) where
  there : (child : ℕ)
      → child < k
      → slice_get (map bare (kept c.marks)) child
      ≡ option_map bare (option_map position_of (slice_get claim.nodes child))
  there child lt = slice_get-map bare (kept c.marks) child
      ∙ ap (λ (l : List Position). option_map bare (slice_get l child)) is.marks
      ∙ ap (option_map bare) (slice_get-map position_of (take k claim.nodes) child)
      ∙ ap (λ (o : Option Node). option_map bare (option_map position_of o))
      (taken-at claim.nodes k child lt)

  to-claim : (child : ℕ) (q : Position) (o : Option Node)
      → slice_get claim.nodes child ≡ o
      → slice_get (map bare (kept c.marks)) child ≡ option_map bare (option_map position_of o)
      → IsNodeOf (map bare (kept c.marks)) child q
      → IsNodeOf claim.nodes child q
  to-claim child q None at here h = let e : None ≡ Some h.node = sym here ∙ h.at in absurd cc
  to-claim child q (Some n) at here h =
      let e : Some (bare (position_of n)) ≡ Some h.node = sym here ∙ h.at in
      let same : bare (position_of n) ≡ h.node = cc in
      record { node = n; at = at; position = ap position_of same ∙ h.position }

  from-claim : (child : ℕ) (q : Position)
      → child < k
      → IsNodeOf claim.nodes child q
      → IsNodeOf (map bare (kept c.marks)) child q
  from-claim child q lt h = record {
    node = bare (position_of h.node);
    at = there child lt ∙ ap (λ (o : Option Node). option_map bare (option_map position_of o)) h.at;
    position = h.position;
  }

  -- a move, and all moves, lead to the same nodes by what is known as in the claim
  same-move : (p : Position) (v child : ℕ)
      → child < k
      → FollowsMove g (map bare (kept c.marks)) p v child ↔ FollowsMove g claim.nodes p v child
  same-move p v child lt = (
    λ h. record {
      leads = λ range free. to-claim child _ (slice_get claim.nodes child) refl (there child lt)
          (h.leads range free);
    },
    λ h. record { leads = λ range free. from-claim child _ lt (h.leads range free) },
  )

  -- where the body is allowed the children are earlier
  abbrev EarlierWhereAllowed : Body → Type 0
  EarlierWhereAllowed body =
      is_allowed g.kind g.bias c.side c.goal body ≡ true → NamesEarlier k body

  same-moves : (p : Position) (body : Body)
      → EarlierWhereAllowed body
      → FollowMoves g (map bare (kept c.marks)) p body ↔ FollowMoves g claim.nodes p body
  same-moves p (Move v child) earlier = same-move p v child (earlier refl)
  same-moves p (All rs) earlier = (
    λ h i d lt. (same-move p (get_or rs i d).point (get_or rs i d).child (earlier refl i d lt)).0
        (h i d lt),
    λ h i d lt. (same-move p (get_or rs i d).point (get_or rs i d).child (earlier refl i d lt)).1
        (h i d lt),
  )
  same-moves p Over earlier = (λ h. h, λ h. h)
  same-moves p (Pairs ps) earlier = (λ h. h, λ h. h)
  same-moves p Potential earlier = (λ h. h, λ h. h)
  same-moves p (Trees e a b) earlier = (λ h. h, λ h. h)
  same-moves p (Cuts e a b) earlier = (λ h. h, λ h. h)
  same-moves p (Threat ps) earlier = (λ h. h, λ h. h)
  same-moves p (Weaker child) earlier = (λ h. h, λ h. h)

  -- a weaker position is that of the same node
  same-weaker : (side : Side) (p : Position) (body : Body)
      → NamesEarlier k body
      → HasWeaker (map bare (kept c.marks)) side p body ↔ HasWeaker claim.nodes side p body
  same-weaker side p (Weaker child) earlier = (
    λ h.
        let at = to-claim child (position_of h.node) (slice_get claim.nodes child) refl
        (there child earlier) (record { node = h.node; at = h.at; position = refl }) in
        record {
          node = at.node;
          at = at.at;
          no_worse = subst (λ (q : Position). IsNoWorse side q p) (sym at.position) h.no_worse;
        },
    λ h.
        let at = from-claim child (position_of h.node) earlier (record {
          node = h.node;
          at = h.at;
          position = refl;
        }) in
        record {
          node = at.node;
          at = at.at;
          no_worse = subst (λ (q : Position). IsNoWorse side q p) (sym at.position) h.no_worse;
        },
  )
  same-weaker side p (Move v child) earlier = (λ h. h, λ h. h)
  same-weaker side p (All rs) earlier = (λ h. h, λ h. h)
  same-weaker side p Over earlier = (λ h. h, λ h. h)
  same-weaker side p (Pairs ps) earlier = (λ h. h, λ h. h)
  same-weaker side p Potential earlier = (λ h. h, λ h. h)
  same-weaker side p (Trees e a b) earlier = (λ h. h, λ h. h)
  same-weaker side p (Cuts e a b) earlier = (λ h. h, λ h. h)
  same-weaker side p (Threat ps) earlier = (λ h. h, λ h. h)

  -- the claim by the words of what is known
  abbrev told : Claim
  told = record { turn = c.turn; side = c.side; goal = c.goal; nodes = claim.nodes }

  told-is : told ≡ claim
  told-is = let t = is.turn in let s = is.side in let o = is.goal in rw (t, s, o) refl

  same-owed : (n : Node) (P : Type 0) → Owes g (known c) n P ↔ Owes g told n P
  same-owed n P = (
    λ h o. h (record { allowed = o.allowed; in_game = o.in_game }),
    λ h o. h (record { allowed = o.allowed; in_game = o.in_game }),
  )

  -- the children are earlier where that has been tried before
  abbrev TriedBefore : Node → NodeFault → Type 0
  TriedBefore n fault = 1 < fault_number fault → EarlierWhereAllowed n.body

  same-passes : (n : Node) (fault : NodeFault)
      → TriedBefore n fault
      → PassesSoFar g c k n fault ↔ Passes g told k n fault
  same-passes n faults.Child tried = (λ h. h, λ h. h)
  same-passes n faults.Marks tried =
      let moves = same-moves (position_of n) n.body (tried (omega arith)) in
      (λ h. (h.0, moves.0 h.1), λ h. (h.0, moves.1 h.1))
  same-passes n faults.Turn tried = same-owed n (HasTurn c.side (position_of n) n.body)
  same-passes n faults.Moves tried = same-owed n (TakesFree g (position_of n) n.body)
  same-passes n faults.End tried = same-owed n (EndsRight g c.side c.goal (position_of n) n.body)
  same-passes n faults.Pairs tried = same-owed n (HasPairs g c.side (position_of n) n.body)
  same-passes n faults.Potential tried = same-owed n (HasPotential g c.side (position_of n) n.body)
  same-passes n faults.Trees tried = same-owed n (HasTrees g (position_of n) n.body)
  same-passes n faults.Cuts tried = same-owed n (HasCuts g (position_of n) n.body)
  same-passes n faults.Threat tried = same-owed n (HasThreat g c.side (position_of n) n.body)
  same-passes n faults.Root tried =
      (λ h last. h (last ∙ sym is.count), λ h last. h (last ∙ is.count))
  same-passes n faults.Body tried = (λ h. h, λ h. h)
  same-passes n faults.Weaker tried = (
    λ h o earlier. (same-weaker c.side (position_of n) n.body earlier).0
        (h (record { allowed = o.allowed; in_game = o.in_game }) earlier),
    λ h o earlier. (same-weaker c.side (position_of n) n.body earlier).1
        (h (record { allowed = o.allowed; in_game = o.in_game }) earlier),
  )

  -- so a node is sound by what is known just where it is in the claim, and its least fault is the
  -- same
  pub sound-in : (n : Node) → IsSoundSoFar g c k n → IsSound g claim k n
  sound-in n h = subst (λ (d : Claim). IsSound g d k n) told-is
      (λ fault. (same-passes n fault (λ _. h faults.Child)).0 (h fault))

  pub least-in : (n : Node) (fault : NodeFault)
      → IsLeastSoFar g c k n fault
      → IsLeastFault g claim k n fault
  least-in n fault h = subst (λ (d : Claim). IsLeastFault g d k n fault) told-is (record {
    fails = λ passes. h.fails ((same-passes n fault (λ lt. h.lesser faults.Child lt)).1 passes);
    lesser = λ before lt. (same-passes n before (λ later. h.lesser faults.Child (omega (
      arith,
      later,
      lt,
    )))).0 (h.lesser before lt);
  })

-- with one node more
pub known-more : (c : Present) (claim : Claim) (k : ℕ) (n : Node) (next : Present)
    → slice_get claim.nodes k ≡ Some n
    → (kept next.marks) ≡ (kept c.marks) ++ position_of n ∷ []
    → next.turn ≡ c.turn
    → next.side ≡ c.side
    → next.goal ≡ c.goal
    → next.count ≡ c.count
    → IsKnownOf c claim k
    → IsKnownOf next claim (k + 1)
known-more c claim k n next at more turn side goal count is = record {
  turn = turn ∙ is.turn;
  side = side ∙ is.side;
  goal = goal ∙ is.goal;
  count = count ∙ is.count;
  marks = more
      ∙ ap (λ (l : List Position). l ++ position_of n ∷ []) is.marks
      ∙ sym (pushed claim.nodes k n at);
}
  where
    pushed : (xs : List Node) (i : ℕ) (x : Node)
        → slice_get xs i ≡ Some x
        → map position_of (take (i + 1) xs) ≡ map position_of (take i xs) ++ position_of x ∷ []
    pushed xs i x e =
        let lt = slice_get_within xs i x e in
        let found : Some (get_or xs i x) ≡ Some x = sym (slice_get-get_or xs i x lt) ∙ e in
        let same : get_or xs i x ≡ x = cc in
        ap (map position_of) (take_more xs i x lt ∙ ap (λ (y : Node). take i xs ++ y ∷ []) same)
        ∙ map_push position_of (take i xs) x
