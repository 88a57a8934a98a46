-- What a reply of the other side keeps, body by body.
use Rattle.std.proofs.Common.{◌≡◌, ◌∙◌, ℕ, ◌<◌, ◌≤◌, true, false, ◌&&◌, ◌==◌, List, [], ◌∷◌}
use Rattle.std.proofs.Common.{Option, Some, None, map, find, refl, sym, ap, subst, inl, inr, ◌⊎◌}
use Rattle.std.proofs.Common.{arith, eqb, eqb-true, eq-eqb, if◌then◌else◌}
use Rattle.pg_player.proofs.Common.{cases_Bool, false≢true, both_ways, list_any, other, Goal, Kind}
use Rattle.pg_player.proofs.Common.{MakerBreaker, MakerMaker, AvoiderEnforcer, Switching, Side, X}
use Rattle.pg_player.proofs.Common.{Y, Game, Position, is_free, point_count, bias_of}
use Rattle.pg_player.proofs.Common.{free_points, is_over, after, IsPosition, Forces, AvoiderHolds}
use Rattle.pg_player.proofs.Common.{side≢other, other_other, turn-passes, IsPosition-after}
use Rattle.pg_player.proofs.Common.{LeadsToLine, near-from, near-stays, near-filling}
use Rattle.pg_player.proofs.Common.{Forces-all-from, find_member, find_none, kept-reply_breaker}
use Rattle.pg_player.proofs.Common.{kept-reply_draw, kept-y, Claim, Node, Body, Over, Move, All}
use Rattle.pg_player.proofs.Common.{Pairs, Potential, Trees, Cuts, Threat, Weaker, Reply, Standing}
use Rattle.pg_player.proofs.Common.{arrives, replied_by, shows_defence, pairs_fit, PotentialFits}
use Rattle.pg_player.proofs.Common.{FollowsMove, IsNodeOf}
use Rattle.pg_game.proofs.FreePoints.{any-free_points}
use Rattle.pg_player.specs.Stand.{LeadsOn}
use Rattle.pg_player.specs.InPlay.{Stands, PotentialWaiting, InPlay, GoesOn}
use Rattle.pg_player.proofs.Plays.{single}
use Rattle.pg_player.proofs.Arriving.{goes_on, arrived, Settles-node}
use Rattle.pg_player.proofs.Keeping.{trees_kind, cuts_kind, threat_kind}

-- the side that replied isn't to move where it claims one point a turn
passed : (g : Game) (p : Position) (side : Side) (v : ℕ)
    → bias_of g (other side) ≡ 1
    → IsPosition g p
    → p.turn ≡ other side
    → (after g p v).turn ≡ other side
    → ⊥
passed g p side v one position theirs again =
    let few : p.left ≤ bias_of g (other side) =
    subst (λ (s : Side). p.left ≤ bias_of g s) theirs position.few_left in
    let turn : (after g p v).turn ≡ side =
    turn-passes g p v (omega (arith, few, one)) ∙ ap other theirs ∙ other_other side in
    side≢other side (sym turn ∙ again)

claims_one : (g : Game) (side : Side) → g.bias ≡ 1 → bias_of g side ≡ 1
claims_one g X one = refl
claims_one g Y one = one

-- where pairs are allowed, the other side claims one point a turn
pairs_single : (g : Game) (kind : Kind) (side : Side) (goal : Goal)
    → g.kind ≡ kind
    → (shows_defence kind side goal && pairs_fit kind g.bias) ≡ true
    → bias_of g (other side) ≡ 1
pairs_single g MakerBreaker X goal e ok = absurd (false≢true ok)
pairs_single g MakerBreaker Y goal e ok = refl
pairs_single g MakerMaker side goal e ok = claims_one g (other side) (single g MakerMaker e refl)
pairs_single g AvoiderEnforcer X goal e ok = eqb-true g.bias 1 ok
pairs_single g AvoiderEnforcer Y goal e ok = refl
pairs_single g Switching side goal e ok = absurd (false≢true ok)

-- what is left of a potential after a reply
record PotentialKept (kind : Kind) (g : Game) (p : Position) (side : Side) : Type 0 where
  pub fits : PotentialFits kind g p side
  pub waits : PotentialWaiting kind g p side

potential_kept : (g : Game) (kind : Kind) (p : Position) (side : Side) (goal : Goal) (v : ℕ)
    → g.kind ≡ kind
    → shows_defence kind side goal ≡ true
    → IsPosition g p
    → p.turn ≡ other side
    → v < point_count g
    → is_free p v ≡ true
    → PotentialWaiting kind g p side
    → PotentialKept kind g (after g p v) side
potential_kept g MakerBreaker p X goal v e ok position theirs within free h = absurd (false≢true ok)
potential_kept g MakerBreaker p Y goal v e ok position theirs within free h =
    let holds = kept-reply_breaker g p v e position h theirs within free in
    record { fits = holds; waits = holds }
potential_kept g MakerMaker p side goal v e ok position theirs within free h =
    let holds = kept-reply_draw g p side v e position h theirs within free in
    record { fits = holds; waits = holds }
potential_kept g AvoiderEnforcer p X goal v e ok position theirs within free h =
    let holds : AvoiderHolds g (after g p v) = elim h [
      | inl now ↦ kept-y g p v position now theirs within free
      | inr next ↦ next v within free
    ] in
    record { fits = holds; waits = inl holds }
potential_kept g AvoiderEnforcer p Y goal v e ok position theirs within free h =
    absurd (false≢true ok)
potential_kept g Switching p side goal v e ok position theirs within free h = absurd (false≢true ok)

-- a goal that is forced stays so after a reply
forced_after : (g : Game) (c : Claim) (s : Standing) (v : ℕ)
    → InPlay g c s
    → is_over g s.imagined ≡ false
    → s.imagined.turn ≡ other c.side
    → v < point_count g
    → is_free s.imagined v ≡ true
    → Forces g (after g s.imagined v) c.side c.goal
forced_after g c s v h going theirs within free =
    Forces-all-from g s.imagined c.side c.goal going theirs h.forced v within free

some_or_none : {A : Type 0} (o : Option A) → ((x : A) × (o ≡ Some x)) ⊎ (o ≡ None)
some_or_none (Some x) = inl (x, refl)
some_or_none None = inr refl

-- the reply that names the point
find_reply-some : (g : Game) (p : Position) (replies : List Reply) (v : ℕ)
    → map (λ r. r.point) replies ≡ free_points g p
    → v < point_count g
    → is_free p v ≡ true
    → find (λ r. r.point == v) replies ≡ None
    → ⊥
find_reply-some g p replies v exact within free none =
    let listed : list_any (λ q. eqb q v) (map (λ r. r.point) replies) ≡ true =
    subst (λ (vs : List ℕ). list_any (λ q. eqb q v) vs ≡ true) (sym exact)
    (any-free_points g p (λ q. eqb q v) v within free (eq-eqb v v refl)) in
    both_ways _ (find_none (λ r. r.point == v) replies none) (sym (through replies) ∙ listed)
  where
    through : (rs : List Reply)
        → list_any (λ q. eqb q v) (map (λ r. r.point) rs) ≡ list_any (λ r. r.point == v) rs
    through [] = refl
    through (r ∷ rs) = elim (cases_Bool (eqb r.point v)) [
      | inl on ↦ rw on refl
      | inr off ↦ rw off (through rs)
    ]

pub replied_by-child : (g : Game) (nodes : List Node) (replies : List Reply) (q : Position) (v : ℕ)
    (r : Reply)
    → find (λ q. q.point == v) replies ≡ Some r
    → replied_by (All replies) g nodes q v ≡ arrives nodes r.child
replied_by-child g nodes replies q v r found = rw found refl

module _ (g : Game) (c : Claim) (p : Position) (v : ℕ) (going : is_over g p ≡ false)
    (theirs : p.turn ≡ other c.side) (within : v < point_count g) (free : is_free p v ≡ true) where
  -- at `all`: on to the child that is named
  follows-reply : (replies : List Reply) (last : Option ℕ) (r : Reply)
      → InPlay g c (record { body = All replies; last = last; imagined = p })
      → find (λ q. q.point == v) replies ≡ Some r
      → IsNodeOf c.nodes r.child (after g p v)
  follows-reply replies last r h found =
      let all = h.stands.waiting going theirs in
      let member = find_member (λ q. q.point == v) replies r found in
      let point : r.point ≡ v = eqb-true r.point v member.1 in
      let follow : FollowsMove g c.nodes p r.point r.child =
      subst (λ (q : Reply). FollowsMove g c.nodes p q.point q.child) member.0.2
      (all.next member.0.0 r member.0.1) in
      subst (λ (q : ℕ). IsNodeOf c.nodes r.child (after g p q)) point
      (follow.leads (subst (λ (q : ℕ). q < point_count g) (sym point) within)
      (subst (λ (q : ℕ). is_free p q ≡ true) (sym point) free))

  -- everywhere else it stays
  stands_on : (b : Body) (last : Option ℕ)
      → ((rs : List Reply) → b ≡ All rs → ⊥)
      → ((ps : List ℕ) → b ≡ Threat ps → ⊥)
      → InPlay g c (record { body = b; last = last; imagined = p })
      → Stands g c (record { body = b; last = Some v; imagined = after g p v })
  stands_on Over last other_than no_line h = absurd (h.stands.waiting going theirs)
  stands_on (Move point child) last other_than no_line h = absurd (h.stands.waiting going theirs)
  stands_on (All replies) last other_than no_line h = absurd (other_than replies refl)
  stands_on (Pairs pairs) last other_than no_line h =
      let all = h.stands.waiting going theirs in
      record {
        allowed = h.stands.allowed;
        ready = λ on mine. record {
          are = all.are;
          state = inl (record {
            before = p;
            reply = v;
            last_is = refl;
            theirs = theirs;
            within = within;
            free = free;
            leads = refl;
            held = all.holds;
          });
        };
        waiting = λ on again. absurd (passed g p c.side v
            (pairs_single g g.kind c.side c.goal refl h.stands.allowed) h.position theirs again);
      }
  stands_on Potential last other_than no_line h =
      let kept = potential_kept g g.kind p c.side c.goal v refl h.stands.allowed h.position theirs
      within free (h.stands.waiting going theirs) in
      record {
        allowed = h.stands.allowed;
        ready = λ on mine. kept.fits;
        waiting = λ on again. kept.waits;
      }
  stands_on (Trees with_e first second) last other_than no_line h = record {
    allowed = h.stands.allowed;
    ready = λ on mine. record {
      before = p;
      theirs = theirs ∙ ap other (sym mine);
      within = within;
      free = free;
      leads = refl;
      held = h.stands.waiting going theirs;
    };
    waiting = λ on again. absurd (passed g p c.side v (claims_one g (other c.side)
        (single g Switching (trees_kind g.kind c.side h.stands.allowed).0 refl)) h.position theirs
        again);
  }
  stands_on (Cuts with_e first second) last other_than no_line h = record {
    allowed = h.stands.allowed;
    ready = λ on mine. record {
      before = p;
      theirs = theirs ∙ ap other (sym mine);
      within = within;
      free = free;
      leads = refl;
      held = h.stands.waiting going theirs;
    };
    waiting = λ on again. absurd (passed g p c.side v (claims_one g (other c.side)
        (single g Switching (cuts_kind g.kind c.side h.stands.allowed).0 refl)) h.position theirs
        again);
  }
  stands_on (Threat points) last other_than no_line h = absurd (no_line points refl)
  stands_on (Weaker child) last other_than no_line h = absurd (h.stands.waiting going theirs)

  on-stays : (b : Body) (last : Option ℕ)
      → ((rs : List Reply) → b ≡ All rs → ⊥)
      → ((ps : List ℕ) → b ≡ Threat ps → ⊥)
      → InPlay g c (record { body = b; last = last; imagined = p })
      → GoesOn g c (after g p v) (record { body = b; last = Some v; imagined = after g p v })
  on-stays b last other_than no_line h = goes_on g c (after g p v) b (Some v) h.sound
      (IsPosition-after g p v h.position within free) (forced_after g c (record {
        body = b;
        last = last;
        imagined = p;
      }) v h going theirs within free) (stands_on b last other_than no_line h)

  -- on a threat line: the next attack where the forced point was taken, and else that point
  line_on : (u : ℕ) (points : List ℕ) (last : Option ℕ)
      → InPlay g c (record { body = Threat (u ∷ points); last = last; imagined = p })
      → (after g p v).turn ≡ c.side
      → LeadsToLine g (after g p v) c.side (if u == v then points else u ∷ [])
  line_on u points last h mine =
      let must = h.stands.waiting going theirs in
      elim (cases_Bool (u == v)) [
        | inl taken ↦ rw taken
            (subst (λ (w : ℕ). LeadsToLine g (after g p w) c.side points)
            (eqb-true u v taken) must.2)
        | inr left ↦
            rw left (near-filling g (after g p v) c.side u mine (near-stays g p c.side u v (λ e.
            absurd (false≢true (sym left ∙ eq-eqb u v (sym e)))) (near-from g p c.side u must.0)))
      ]

  on-line : (u : ℕ) (points : List ℕ) (last : Option ℕ)
      → InPlay g c (record { body = Threat (u ∷ points); last = last; imagined = p })
      → GoesOn g c (after g p v) (record {
        body = Threat (if u == v then points else u ∷ []);
        last = Some v;
        imagined = after g p v;
      })
  on-line u points last h = goes_on g c (after g p v) (Threat (if u == v then points else u ∷ []))
      (Some v) h.sound (IsPosition-after g p v h.position within free) (forced_after g c (record {
        body = Threat (u ∷ points);
        last = last;
        imagined = p;
      }) v h going theirs within free) (record {
        allowed = h.stands.allowed;
        ready = λ on mine. line_on u points last h mine;
        waiting = λ on again. absurd (passed g p c.side v
            (claims_one g (other c.side) (threat_kind g.kind c.side g.bias h.stands.allowed).1)
            h.position theirs again);
      })

  -- the reply leads on
  pub leads_on : (b : Body) (last : Option ℕ)
      → InPlay g c (record { body = b; last = last; imagined = p })
      → LeadsOn c.nodes b v
  leads_on Over last h = h.stands.waiting going theirs
  leads_on (Move point child) last h = h.stands.waiting going theirs
  leads_on (All replies) last h =
      let all = h.stands.waiting going theirs in
      elim (some_or_none (find (λ q. q.point == v) replies)) [
        | inl some ↦
            let node = follows-reply replies last some.0 h some.1 in
            (some.0, some.1, Settles-node g c h.sound some.0.child node.node node.at)
        | inr none ↦ absurd (find_reply-some g p replies v all.exact within free none)
      ]
  leads_on (Pairs pairs) last h = tt
  leads_on Potential last h = tt
  leads_on (Trees with_e first second) last h = tt
  leads_on (Cuts with_e first second) last h = tt
  leads_on (Weaker child) last h = h.stands.waiting going theirs
  leads_on (Threat []) last h = h.stands.waiting going theirs
  leads_on (Threat (u ∷ points)) last h = tt

  at_same : (b : Body) (last : Option ℕ) (next : Standing)
      → ((rs : List Reply) → b ≡ All rs → ⊥)
      → ((ps : List ℕ) → b ≡ Threat ps → ⊥)
      → InPlay g c (record { body = b; last = last; imagined = p })
      → ◌≡◌ {A = Option Standing} (Some (record {
        body = b;
        last = Some v;
        imagined = after g p v;
      })) (Some next)
      → GoesOn g c (after g p v) next
  at_same b last next other_than no_line h rule =
      let same : ◌≡◌ {A = Standing} (record {
        body = b;
        last = Some v;
        imagined = after g p v;
      }) next = cc in
      subst (λ (s : Standing). GoesOn g c (after g p v) s) same
      (on-stays b last other_than no_line h)

  -- a reply keeps the player going
  pub on-replied : (b : Body) (last : Option ℕ) (next : Standing)
      → InPlay g c (record { body = b; last = last; imagined = p })
      → replied_by b g c.nodes p v ≡ Some next
      → GoesOn g c (after g p v) next
  on-replied Over last next h rule = absurd (h.stands.waiting going theirs)
  on-replied (Move point child) last next h rule = absurd (h.stands.waiting going theirs)
  on-replied (All replies) last next h rule =
      let r = leads_on (All replies) last h in
      arrived g c r.0.child (after g p v) next h.sound (follows-reply replies last r.0 h r.1)
      (sym (replied_by-child g c.nodes replies p v r.0 r.1) ∙ rule)
  on-replied (Pairs pairs) last next h rule =
      at_same (Pairs pairs) last next (λ rs e. cc) (λ ps e. cc) h rule
  on-replied Potential last next h rule =
      at_same Potential last next (λ rs e. cc) (λ ps e. cc) h rule
  on-replied (Trees with_e first second) last next h rule =
      at_same (Trees with_e first second) last next (λ rs e. cc) (λ ps e. cc) h rule
  on-replied (Cuts with_e first second) last next h rule =
      at_same (Cuts with_e first second) last next (λ rs e. cc) (λ ps e. cc) h rule
  on-replied (Threat []) last next h rule = absurd (h.stands.waiting going theirs)
  on-replied (Threat (u ∷ points)) last next h rule =
      let same : ◌≡◌ {A = Standing} (record {
        body = Threat (if u == v then points else u ∷ []);
        last = Some v;
        imagined = after g p v;
      }) next = cc in
      subst (λ (s : Standing). GoesOn g c (after g p v) s) same (on-line u points last h)
  on-replied (Weaker child) last next h rule = absurd (h.stands.waiting going theirs)
