-- The own move keeps the plan, and so the side goes on to its win.
use Rattle.std.proofs.Common.{◌≡◌, ◌≢◌, ℕ, ◌<◌, ◌≤◌, Bool, true, Option, Some, None, inl, inr}
use Rattle.std.proofs.Common.{sym, ap, ◌∙◌, subst, arith}
use Rattle.std.specs.Prelude.{slice_index}
use Rattle.pg_span.proofs.Common.{both_ways, false_from_ne_true, FinSet, contains, insert, remove}
use Rattle.pg_span.proofs.Common.{nat_cmp, AreBelow, plus, minus, either, other, Score, Side}
use Rattle.pg_span.proofs.Common.{X, Y, contains-insert_plus, minus_parts, either_cases}
use Rattle.pg_span.proofs.Common.{plus_cases, edge_count, first_end_of, second_end_of, Room}
use Rattle.pg_span.proofs.Common.{Position, ending_by, Rules, moved, IsFreeEdge}
use Rattle.pg_span.proofs.Common.{answered_edge, short_edge, trees_answer, IsPlace, joins_all}
use Rattle.pg_span.proofs.Common.{AreJoiningTrees, x-plus, x-same, joins_all-more}
use Rattle.pg_span.proofs.Common.{HeldUntilReply}
use Rattle.pg_game.proofs.Sides.{side≢other}
use Rattle.pg_switch.specs.Claims.{IsMonotone}
use Rattle.pg_switch.proofs.AnswerLaws.{left-edges}
use Rattle.pg_switch.proofs.LostElement.{IsAnswer, left-other, left-free, stays_free, remove-both}
use Rattle.pg_switch.proofs.Seats.{some_element, on-claimed, range-next}
use Rattle.pg_span.specs.declared.cert.SpanBody.{SpanBody}
use Rattle.pg_span.specs.declared.cert.SpanBody.TheVariants.{Trees, Parts}
use Rattle.pg_span.specs.declared.game.SpanGame.{SpanGame}
use Rattle.pg_span.specs.declared.judge.SpanJudge.{SpanJudge}
use Rattle.pg_span.specs.Answers.{SpanMove, span_move, parts_edge}
use Rattle.pg_span.specs.Judge.{connects, IsJudgeOf}
use Rattle.pg_span.specs.Plan.{IsMovable}
use Rattle.pg_span.specs.Player.{span_start, IsOnSpanPlan}
use Rattle.pg_span.specs.Playing.{IsSpanDue, IsSpanPlaying}
use Rattle.pg_span.specs.Game.{span_rules_of}
use Rattle.pg_span.specs.Valid.{IsBodyAt, ArePartsOfGame}
use Rattle.pg_span.specs.declared.cert.TheConstants.{PART_NUMBERS}
use Rattle.pg_span.proofs.ClassLemmas.{forced-by}
use Rattle.pg_span.proofs.Connects.{connects-sound, connects-complete}
use Rattle.pg_span.proofs.PartSteps.{parts-claimed, parts-replied, parts-edge}
use Rattle.pg_span.proofs.TreeSteps.{AreJoining, TreesDue, trees-kept}

module _ (g : SpanGame) where
  abbrev r : Rules
  r = span_rules_of g

  abbrev m : ℕ
  m = edge_count g.graph

  abbrev a : ℕ → ℕ
  a = first_end_of g.graph

  abbrev b : ℕ → ℕ
  b = second_end_of g.graph

  abbrev all : (ℕ → Bool) → Bool
  all set = joins_all (first_end_of g.graph) (second_end_of g.graph)
      (edge_count g.graph) g.graph.vertices set

  pub more : IsMonotone (joins_all (first_end_of g.graph) (second_end_of g.graph)
      (edge_count g.graph) g.graph.vertices)
  more = joins_all-more a b m g.graph.vertices

  pub small : (v : ℕ) → v < m → v < Rattle.pg_base.specs.declared.limits.TheConstants.MAX_MEMBERS
  small v low = let few = g.fits.graph.few_edges in omega (arith, low, few)

  -- ---- what is due after a reply

  abbrev Due : Side → Position → SpanBody → Option ℕ → Type 0
  Due side p (Trees None a1 a2) last =
      (side ≡ X) × TreesDue g.graph p a1 a2 (answered_edge g.graph last)
  Due side p (Trees (Some v) a1 a2) last = (side ≡ X)
      × AreJoiningTrees a b m g.graph.vertices p (Some v) a1 a2
      × (answered_edge g.graph last ≤ m)
  Due side p (Parts numbers) last = (side ≡ Y) × ArePartsOfGame g p numbers

  joining-of : (p : Position) (a1 a2 : FinSet nat_cmp)
      → AreJoiningTrees a b m g.graph.vertices p None a1 a2
      → AreJoining g.graph (contains p.x) (contains a1) (contains a2)
  joining-of p a1 a2 t = record {
    apart = t.apart;
    one = connects-sound g.graph (either (contains p.x) (contains a1)) t.one_joins;
    two = connects-sound g.graph (either (contains p.x) (contains a2)) t.two_joins;
  }

  due-now : (side : Side) (p : Position) (plan : SpanBody)
      → IsBodyAt g p side plan
      → Due side p plan None
  due-now side p (Trees None a1 a2) h = (
    h.0,
    record {
      joining = joining-of p a1 a2 h.1;
      left = record {
        first = λ f k ne. h.1.one_free f k;
        second = λ f k ne. h.1.two_free f k;
        bound = omega arith;
      };
    },
  )
  due-now side p (Trees (Some v) a1 a2) h = (h.0, h.1, omega arith)
  due-now side p (Parts numbers) h = h

  due-after : (side : Side) (q : Position) (plan : SpanBody) (v : ℕ)
      → IsPlace m q
      → q.turn ≡ other side
      → IsFreeEdge g.graph q v
      → IsBodyAt g q side plan
      → Due side (moved r q v) plan (Some v)
  due-after side q (Trees None a1 a2) v place yours f h =
      let y : q.turn ≡ Y = yours ∙ ap other h.0 in (
        h.0,
        record {
          joining = subst (λ (s : ℕ → Bool). AreJoining g.graph s (contains a1) (contains a2))
              (sym (x-same m all q v y)) (joining-of q a1 a2 h.1);
          left = record {
            first = λ w k ne. stays_free r m q v w (h.1.one_free w k) (λ e. ne (sym e));
            second = λ w k ne. stays_free r m q v w (h.1.two_free w k) (λ e. ne (sym e));
            bound = let low = f.0 in omega arith;
          };
        },
      )
  due-after side q (Trees (Some w) a1 a2) v place yours f h =
      absurd (side≢other side (h.0 ∙ (sym (h.1.first_claimed.4) ∙ yours)))
  due-after side q (Parts numbers) v place yours f h = (
    h.0,
    (
      h.1.0,
      parts-replied a b m g.graph.vertices PART_NUMBERS (slice_index numbers) q v place
          (yours ∙ ap other h.0) f.0 f.1 h.1.1,
    ),
  )

  due-held : (side : Side) (p : Position) (plan : SpanBody) (last : Option ℕ)
      → HeldUntilReply r (λ q. IsBodyAt g q side plan) side p last
      → Due side p plan last
  due-held side p plan None h = due-now side p plan h
  due-held side p plan (Some v) h = subst (λ (q : Position). Due side q plan (Some v)) (sym h.leads)
      (due-after side h.before plan v h.place h.theirs (h.within, h.free) h.held)

  due-movable : (side : Side) (p : Position) (plan : SpanBody) (last : Option ℕ)
      → Due side p plan last
      → IsMovable g.graph plan last
  due-movable side p (Trees None a1 a2) last h = record {
    one = left-edges g.graph p a1 a2 (answered_edge g.graph last) h.1.left;
    two = left-edges g.graph p a2 a1 (answered_edge g.graph last)
        (left-other m p a1 a2 (answered_edge g.graph last) h.1.left);
    bound = h.1.left.bound;
  }
  due-movable side p (Trees (Some v) a1 a2) last h = record {
    one = λ f k. let low = (h.1.one_free f k).0 in omega arith;
    two = λ f k. let low = (h.1.two_free f k).0 in omega arith;
    bound = h.2;
  }
  due-movable side p (Parts numbers) last h = h.1.0

  pub movable : (side : Side) (p : Position) (plan : SpanBody) (last : Option ℕ)
      → IsSpanDue g side p plan last
      → IsMovable g.graph plan last
  movable side p plan last d = due-movable side p plan last (due-held side p plan last d.held)

  -- ---- the own move

  -- it is a free edge, and the plan holds after it
  pub record IsKept (side : Side) (p : Position) (v : ℕ) (plan : SpanBody) : Type 0 where
    pub free : IsFreeEdge g.graph p v
    pub holds : IsBodyAt g (moved r p v) side plan

  trees-hold : (p : Position) (a1 a2 : FinSet nat_cmp) (x v : ℕ)
      → p.turn ≡ X
      → AreBelow p.x m
      → TreesDue g.graph p a1 a2 x
      → IsAnswer m plus (AreJoining g.graph) p (contains p.x) x a1 a2 v
      → AreJoiningTrees a b m g.graph.vertices (moved r p v) None (remove (remove a1 x) v)
      (remove (remove a2 x) v)
  trees-hold p a1 a2 x v mine range d t = record {
    first_claimed = tt;
    one_free = left-free r m p a1 x v d.left.first;
    two_free = left-free r m p a2 x v d.left.second;
    apart = λ f k. false_from_ne_true _
        (λ i. both_ways _ (t.stand.apart f (taken a1 f k)) (taken a2 f i));
    one_joins = joins a1 d.left.first t.stand.one;
    two_joins = joins a2 d.left.second t.stand.two;
  } where
    taken : (s : FinSet nat_cmp) (f : ℕ)
        → contains (remove (remove s x) v) f ≡ true
        → minus (minus (contains s) x) v f ≡ true
    taken s f k = subst (λ (q : ℕ → Bool). q f ≡ true) (remove-both s x v) k

    joins : (s : FinSet nat_cmp)
        → ((f : ℕ) → contains s f ≡ true → f ≢ x → IsFreeEdge g.graph p f)
        → Rattle.pg_span.proofs.Connects.JoinsAll g.graph
        (either (plus (contains p.x) v) (minus (minus (contains s) x) v))
        → connects g.graph
        (either (contains (moved (span_rules_of g) p v).x) (contains (remove (remove s x) v)))
        ≡ true
    joins s free j =
        let same : either (plus (contains p.x) v) (minus (minus (contains s) x) v)
        ≡ either (contains (moved r p v).x) (contains (remove (remove s x) v)) =
        Rattle.std.proofs.Common.ap₂ either (sym (x-plus m all p v mine))
        (sym (remove-both s x v)) in
        subst (λ (q : ℕ → Bool). connects g.graph q ≡ true) same
        (connects-complete g.graph (either (plus (contains p.x) v) (minus (minus (contains s) x) v))
        (λ f k. elim (either_cases (plus (contains p.x) v) (minus (minus (contains s) x) v) f k) [
          | inl i ↦ elim (plus_cases (contains p.x) v f i) [
            | inl o ↦ range f o
            | inr e ↦ subst (λ (w : ℕ). w < edge_count g.graph) e t.free.0
          ]
          | inr i ↦
              let q = minus_parts (minus (contains s) x) v f i in
              let o = minus_parts (contains s) x f q.0 in
              (free f o.0 (λ e. o.1 (sym e))).0
        ]) j)

  -- the first edge is claimed
  first-holds : (p : Position) (v : ℕ) (a1 a2 : FinSet nat_cmp)
      → IsPlace m p
      → AreJoiningTrees a b m g.graph.vertices p (Some v) a1 a2
      → AreJoiningTrees a b m g.graph.vertices (moved r p v) None a1 a2
  first-holds p v a1 a2 place t =
      let c = t.first_claimed in
      let plain : contains (insert p.x v) ≡ contains (moved r p v).x =
      contains-insert_plus p.x v ∙ sym (x-plus m all p v c.4) in
      record {
        first_claimed = tt;
        one_free = λ f k. stays_free r m p v f (t.one_free f k)
            (λ e. both_ways _ c.2 (subst (λ (w : ℕ). contains a1 w ≡ true) (sym e) k));
        two_free = λ f k. stays_free r m p v f (t.two_free f k)
            (λ e. both_ways _ c.3 (subst (λ (w : ℕ). contains a2 w ≡ true) (sym e) k));
        apart = t.apart;
        one_joins = subst (λ (q : ℕ → Bool). connects g.graph (either q (contains a1)) ≡ true) plain
            t.one_joins;
        two_joins = subst (λ (q : ℕ → Bool). connects g.graph (either q (contains a2)) ≡ true) plain
            t.two_joins;
      }

  own-kept : (side : Side) (p : Position) (plan : SpanBody) (last : Option ℕ) (z : ℕ)
      → IsPlace m p
      → p.turn ≡ side
      → IsFreeEdge g.graph p z
      → Due side p plan last
      → IsKept side p (span_move g.graph p plan last).edge (span_move g.graph p plan last).plan
  unfolding span_move trees_answer
  own-kept side p (Trees None a1 a2) last z place turn fz h =
      let x = answered_edge g.graph last in
      let t = trees-kept g.graph p a1 a2 x z g.fits.graph place.x_range h.1 fz in
      record {
        free = t.free;
        holds = (
          h.0,
          trees-hold p a1 a2 x (short_edge g.graph p a1 a2 x) (turn ∙ h.0) place.x_range h.1 t,
        );
      }
  own-kept side p (Trees (Some v) a1 a2) last z place turn fz h =
      let c = h.1.first_claimed in
      record { free = (c.0, c.1); holds = (h.0, first-holds p v a1 a2 place h.1) }
  own-kept side p (Parts numbers) last z place turn fz h =
      let e = parts-edge g.graph p numbers z fz in
      record {
        free = e.0;
        holds = (
          h.0,
          (
            h.1.0,
            parts-claimed a b m g.graph.vertices PART_NUMBERS (slice_index numbers) p
                (parts_edge g.graph p numbers) place (turn ∙ h.0) e.0.0 e.0.1 e.1 h.1.1,
          ),
        );
      }

  pub kept : (side : Side) (p : Position) (plan later : SpanBody) (last : Option ℕ) (v : ℕ)
      → IsSpanDue g side p plan last
      → span_move g.graph p plan last ≡ record { edge = v; plan = later }
      → IsKept side p v later
  kept side p plan later last v d own =
      let z = some_element m all more (span_start g) (λ q. IsBodyAt g q side plan) side p d.going in
      subst (λ (t : SpanMove). IsKept side p t.edge t.plan) own
      (own-kept side p plan last z.0 d.place d.turn z.1 (due-held side p plan last d.held))

  -- so the side is on its plan after it
  pub on-own : (side : Side) (p : Position) (plan later : SpanBody) (last : Option ℕ) (v : ℕ)
      → IsSpanDue g side p plan last
      → IsKept side p v later
      → IsOnSpanPlan g side (moved r p v) later
  on-own side p plan later last v d k = on-claimed m all more (span_start g)
      (λ q. IsBodyAt g q side plan) side p last v (λ q. IsBodyAt g q side later) d k.free k.holds
      (λ q place h. forced-by g side q later place h)

  -- ---- what the code keeps

  -- the judge lent its joiner and took it back
  pub judge-kept : (judge later : SpanJudge) (joiner : Room)
      → IsJudgeOf judge g
      → joiner ≡ judge.joiner
      → later ≡ record { joiner = joiner; whole = judge.whole }
      → IsJudgeOf later g
  judge-kept judge later joiner j is_joiner is_later =
      subst (λ (w : SpanJudge). IsJudgeOf w g) (sym is_later) (record {
        made = subst (λ (room : Room). Rattle.pg_graph.specs.Joiner.IsMadeFor room g.graph)
            (sym is_joiner) j.made;
        whole = j.whole;
      })

  pub playing-next : (side : Side) (p next : Position) (plan : SpanBody) (ending : Option Score)
      (judge later : SpanJudge)
      → IsOnSpanPlan g side p plan
      → next ≡ p
      → ending ≡ ending_by r next
      → IsJudgeOf judge g
      → later ≡ judge
      → IsSpanPlaying g side next plan ending later
  playing-next side p next plan ending judge later o is_next known j is_later = record {
    on = subst (λ (q : Position). IsOnSpanPlan g side q plan) (sym is_next) o;
    known = known;
    judged = subst (λ (w : SpanJudge). IsJudgeOf w g) (sym is_later) j;
  }

  -- X's edges are edges after the own move
  pub range-own : (p next : Position) (v : ℕ)
      → IsPlace m p
      → IsFreeEdge g.graph p v
      → next ≡ moved r p v
      → AreBelow next.x m
  range-own p next v place f is = range-next m all p next v place f is
