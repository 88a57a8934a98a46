use Rattle.std.proofs.Common.{◌≡◌, ◌<◌, ◌≤◌, ◌+◌, ◌-◌, ◌∷◌, ℕ, true, Some, None, refl, sym, ap, ◌∙◌}
use Rattle.std.proofs.Common.{subst, arith}
use Rattle.std.specs.Prelude.{◌↔◌, length}
use Rattle.pg_threat.proofs.Common.{contains, point_count, lines_of, after, is_free, IsAttack}
use Rattle.pg_threat.proofs.Common.{LeadsToLine, Game, Position, point_count-le, View}
use Rattle.pg_threat.specs.Lacking.{is_lacking, IsIdle, IsLackedTwice}
use Rattle.pg_threat.specs.Search.{Begins, IsTried, IsFound, Replied, IsAnswering, IsSearching}
use Rattle.pg_threat.specs.Search.{SearchesAt}
use Rattle.pg_threat.proofs.Searching.{replies-are, tried-depth, begins-depth, search-next}
use Rattle.pg_threat.proofs.Searching.{attack-free, attack-answering, attack-least, reply-attacking}
use Rattle.pg_threat.proofs.Searching.{reply-least, attack-fails, attack-found, attack-falls}
use Rattle.pg_threat.proofs.Searching.{search-over, reply-none, reply-one, reply-two, reply-free}
use Rattle.pg_threat.proofs.Searching.{reply-found, reply-fails, reply-barren, replied-short}
use Rattle.pg_threat.proofs.Idle.{reply-idle}
use Rattle.pg_threat.proofs.Boards.{at_same, one-earlier, taken-back, two-played}
use Rattle.pg_threat.proofs.search.+attacks_and_replies.Goals as goal

-- ---- what the replies are

pub answered-partners-replies-requires-clause-few :
    goal.answered-partners-replies-requires-clause-few
answered-partners-replies-requires-clause-few t c =
    omega (arith, c.requires.attack.range, point_count-le c.args.b.now.game)

pub answered-returns-in_default-clause-found : goal.answered-returns-in_default-clause-found
answered-returns-in_default-clause-found t c =
    let g = c.args.b.now.game in
    let p = c.args.b.now.stand.position in
    let v = c.args.v in
    reply-none g (after g p v) c.args.side c.requires.searches.single c.requires.answering
    c.partners-replies.result
    (replies-are g p c.args.side c.args.depth c.requires.searches v c.requires.attack
    c.partners-replies.result c.partners-replies.ensures) c.args.depth c.in_default.ensures.none

pub answered-returns-in-Some-first_from-clause-found :
    goal.answered-returns-in-Some-first_from-clause-found
answered-returns-in-Some-first_from-clause-found t c =
    let g = c.args.b.now.game in
    let p = c.args.b.now.stand.position in
    let v = c.args.v in
    subst (λ (n : ℕ). IsFound (Replied g (after g p v) c.args.side) n (Some c.behind.result))
    (sym c.if-depth-eq1.true)
    (reply-two g (after g p v) c.args.side c.requires.searches.single c.requires.answering
    c.partners-replies.result
    (replies-are g p c.args.side c.args.depth c.requires.searches v c.requires.attack
    c.partners-replies.result c.partners-replies.ensures) c.in-Some.u c.in-Some.ensures.found
    c.in-Some-first_from.w c.behind.result c.in-Some-first_from.ensures.found
    (c.behind.ensures.points ∙ ap (λ xs. c.in-Some.u ∷ xs) c.last.ensures.points)
    (omega (arith, c.behind.ensures.len, c.last.ensures.len)))

pub answered-returns-in-None-clause-found : goal.answered-returns-in-None-clause-found
answered-returns-in-None-clause-found t c =
    let g = c.args.b.now.game in
    let p = c.args.b.now.stand.position in
    let v = c.args.v in
    subst (λ (n : ℕ). IsFound (Replied g (after g p v) c.args.side) n None)
    (sym c.if-depth-eq1.true)
    (reply-one g (after g p v) c.args.side c.requires.searches.single c.requires.answering
    c.partners-replies.result
    (replies-are g p c.args.side c.args.depth c.requires.searches v c.requires.attack
    c.partners-replies.result c.partners-replies.ensures) c.in-Some.u c.in-Some.ensures.found
    c.in-None.ensures.none)

pub answered-leaves_none-requires-clause-attacking :
    goal.answered-leaves_none-requires-clause-attacking
answered-leaves_none-requires-clause-attacking t c = c.requires.searches.attacking

pub answered-leaves_none-requires-clause-single : goal.answered-leaves_none-requires-clause-single
answered-leaves_none-requires-clause-single t c = c.requires.searches.single

pub answered-leaves_none-requires-clause-reply : goal.answered-leaves_none-requires-clause-reply
answered-leaves_none-requires-clause-reply t c =
    sym (c.partners-replies.ensures c.in-Some.u) ∙ c.in-Some.ensures.found.member

pub answered-returns-then-leaves_none-clause-found :
    goal.answered-returns-then-leaves_none-clause-found
answered-returns-then-leaves_none-clause-found t c =
    let g = c.args.b.now.game in
    let p = c.args.b.now.stand.position in
    let v = c.args.v in
    let deeper : 2 ≤ c.args.depth =
    omega (arith, c.requires.searches.some, c.if-depth-eq1.false) in
    reply-barren g (after g p v) c.args.side c.requires.searches.single c.requires.answering
    c.partners-replies.result
    (replies-are g p c.args.side c.args.depth c.requires.searches v c.requires.attack
    c.partners-replies.result c.partners-replies.ensures) c.in-Some.u c.in-Some.ensures.found
    c.args.depth deeper
    (attack-least g p c.args.side c.args.depth c.requires.searches v c.requires.attack
    c.requires.answering) (c.leaves_none.ensures c.if-leaves_none.true)

pub answered-returns-then-is_idle-clause-found : goal.answered-returns-then-is_idle-clause-found
answered-returns-then-is_idle-clause-found t c =
    let g = c.args.b.now.game in
    let p = c.args.b.now.stand.position in
    let v = c.args.v in
    let deeper : 2 ≤ c.args.depth =
    omega (arith, c.requires.searches.some, c.if-depth-eq1.false) in
    reply-idle g p c.args.side c.requires.searches.single c.requires.searches.attacking v
    c.in-Some.u c.args.depth deeper c.requires.attack c.requires.answering
    c.partners-replies.result (replies-are g p c.args.side c.args.depth c.requires.searches v
    c.requires.attack c.partners-replies.result c.partners-replies.ensures) c.in-Some.ensures.found
    (attack-least g p c.args.side c.args.depth c.requires.searches v c.requires.attack
    c.requires.answering) c.requires.searches.least
    (subst (λ (n : ℕ). IsIdle g p c.args.side v c.in-Some.u n) c.from.ensures
    (c.is_idle.ensures c.if-is_idle.true))

pub answered-is_idle-requires-clause-few : goal.answered-is_idle-requires-clause-few
answered-is_idle-requires-clause-few t c =
    omega (arith, c.from.ensures, c.requires.searches.few)

pub answered-play-requires-2-clause-range : goal.answered-play-requires-2-clause-range
answered-play-requires-2-clause-range t c =
    let g = c.args.b.now.game in
    let p = c.args.b.now.stand.position in
    let v = c.args.v in
    subst (λ (h : Game). c.in-Some.u < point_count h) (sym c.play.ensures.game)
    (reply-free g (after g p v) c.args.side c.requires.searches.single c.requires.answering
    c.partners-replies.result
    (replies-are g p c.args.side c.args.depth c.requires.searches v c.requires.attack
    c.partners-replies.result c.partners-replies.ensures) c.in-Some.u
    c.in-Some.ensures.found.member).0

pub answered-play-requires-2-clause-free : goal.answered-play-requires-2-clause-free
answered-play-requires-2-clause-free t c =
    let g = c.args.b.now.game in
    let p = c.args.b.now.stand.position in
    let v = c.args.v in
    subst (λ (x : Position). is_free x c.in-Some.u ≡ true) (sym c.play.ensures.position)
    (reply-free g (after g p v) c.args.side c.requires.searches.single c.requires.answering
    c.partners-replies.result
    (replies-are g p c.args.side c.args.depth c.requires.searches v c.requires.attack
    c.partners-replies.result c.partners-replies.ensures) c.in-Some.u
    c.in-Some.ensures.found.member).1

pub answered-first_of_depth-found-requires : goal.answered-first_of_depth-found-requires
answered-first_of_depth-found-requires t c =
    let g = c.args.b.now.game in
    let p = c.args.b.now.stand.position in
    let q = after g p c.args.v in
    let u = c.in-Some.u in
    let are : (x : ℕ)
    → contains c.partners-replies.result x ≡ is_lacking g (after g p c.args.v) c.args.side 1 x =
    replies-are g p c.args.side c.args.depth c.requires.searches c.args.v
    c.requires.attack c.partners-replies.result c.partners-replies.ensures in
    let least = c.in-Some.ensures.found in
    let member = least.member in
    let all = c.attacks_at-attacks.result.all in
    let forks = c.attacks_at-attacks.result.forks in
    let deeper : 2 ≤ c.args.depth =
    omega (arith, c.requires.searches.some, c.if-depth-eq1.false) in
    let some : 1 ≤ c.args.depth - 1 = omega (arith, deeper) in
    let attacking = reply-attacking g q c.args.side c.requires.searches.single c.requires.answering
    c.partners-replies.result are u member in
    let none = reply-least g q c.args.side c.requires.searches.single c.requires.answering
    c.partners-replies.result are u least c.args.depth deeper
    (attack-least g p c.args.side c.args.depth c.requires.searches c.args.v c.requires.attack
    c.requires.answering) in
    let searches : SearchesAt g (after g q u) c.args.side (c.args.depth - 1) = record {
      attacking = attacking;
      single = c.requires.searches.single;
      least = none;
      some = some;
      few = omega (arith, deeper, c.requires.searches.few);
    } in
    let played = two-played c.args.b.now c.play.new.self c.play-2.new.self c.args.v u
    c.play.ensures.game c.play.ensures.position c.play-2.ensures.game c.play-2.ensures.position in
    let at = λ (P : Game → Position → Type 0) (h : P g (after g q u)). at_same P g
    c.play-2.new.self.game (after g q u) c.play-2.new.self.stand.position played.0 played.1 h in
    let from = λ (P : Game → Position → Type 0)
    (h : P c.play-2.new.self.game c.play-2.new.self.stand.position). at_same P
    c.play-2.new.self.game g c.play-2.new.self.stand.position (after g q u) (sym played.0)
    (sym played.1) h in
    let tried = from (λ h x. (v : ℕ) → (contains all v ≡ true) ↔ IsTried h x c.args.side v)
    c.attacks_at-attacks.ensures.all in
    let twice = from (λ h x. (v : ℕ) → contains all v ≡ true
    → IsLackedTwice h x c.args.side 2 (length (lines_of h)) v
    → contains forks v ≡ true) c.attacks_at-attacks.ensures.twice in (
      omega (arith, c.decreases, deeper),
      (
        at (λ h x. SearchesAt h x c.args.side (c.args.depth - 1)) searches,
        (
          tried-depth c.play-2.new.self.game c.play-2.new.self.stand.position c.args.side
              (c.args.depth - 1) all forks c.of_depth.result.now c.of_depth.ensures
              c.attacks_at-attacks.ensures.all c.attacks_at-attacks.ensures.forks,
          at (λ h x. Begins h x c.args.side (c.args.depth - 1) c.of_depth.result.now)
              (begins-depth g (after g q u) c.args.side (c.args.depth - 1) searches all forks
              c.of_depth.result.now c.of_depth.ensures tried twice),
        ),
      ),
    )

pub answered-returns-in-Some-found-clause-found : goal.answered-returns-in-Some-found-clause-found
answered-returns-in-Some-found-clause-found t c =
    let g = c.args.b.now.game in
    let p = c.args.b.now.stand.position in
    let q = after g p c.args.v in
    let u = c.in-Some.u in
    let deeper : 2 ≤ c.args.depth =
    omega (arith, c.requires.searches.some, c.if-depth-eq1.false) in
    let played = two-played c.args.b.now c.play.new.self c.play-2.new.self c.args.v u
    c.play.ensures.game c.play.ensures.position c.play-2.ensures.game c.play-2.ensures.position in
    reply-found g q c.args.side c.requires.searches.single c.requires.answering
    c.partners-replies.result
    (replies-are g p c.args.side c.args.depth c.requires.searches c.args.v c.requires.attack
    c.partners-replies.result c.partners-replies.ensures) u c.in-Some.ensures.found c.args.depth
    deeper
    (attack-least g p c.args.side c.args.depth c.requires.searches c.args.v c.requires.attack
    c.requires.answering) c.in-Some-found.line c.behind-in-Some-found.result
    (at_same
    (λ h x. IsFound (LeadsToLine h x c.args.side) (c.args.depth - 1) (Some c.in-Some-found.line))
    c.play-2.new.self.game g c.play-2.new.self.stand.position (after g q u) (sym played.0)
    (sym played.1) c.in-Some-found.ensures.found) c.behind-in-Some-found.ensures.points
    c.behind-in-Some-found.ensures.len

pub answered-returns-in-None-found-clause-found : goal.answered-returns-in-None-found-clause-found
answered-returns-in-None-found-clause-found t c =
    let g = c.args.b.now.game in
    let p = c.args.b.now.stand.position in
    let q = after g p c.args.v in
    let u = c.in-Some.u in
    let deeper : 2 ≤ c.args.depth =
    omega (arith, c.requires.searches.some, c.if-depth-eq1.false) in
    let played = two-played c.args.b.now c.play.new.self c.play-2.new.self c.args.v u
    c.play.ensures.game c.play.ensures.position c.play-2.ensures.game c.play-2.ensures.position in
    reply-fails g q c.args.side c.requires.searches.single c.requires.answering
    c.partners-replies.result
    (replies-are g p c.args.side c.args.depth c.requires.searches c.args.v c.requires.attack
    c.partners-replies.result c.partners-replies.ensures) u c.in-Some.ensures.found c.args.depth
    deeper
    (attack-least g p c.args.side c.args.depth c.requires.searches c.args.v c.requires.attack
    c.requires.answering)
    (at_same (λ h x. IsFound (LeadsToLine h x c.args.side) (c.args.depth - 1) None)
    c.play-2.new.self.game g c.play-2.new.self.stand.position (after g q u) (sym played.0)
    (sym played.1) c.in-None-found.ensures.found)

-- ---- the attacks

pub first_of_depth-loop-next-init : goal.first_of_depth-loop-next-init
first_of_depth-loop-next-init t c = (
  refl,
  search-next c.args.b.now.game c.args.b.now.stand.position c.args.side c.args.depth
      c.requires.searches c.args.attacks.now c.requires.tried c.requires.begins 0
      c.first_from-next.result
      (λ w points below deep leads. absurd (omega arith)) c.first_from-next.ensures.found
      c.first_from-next.ensures.range c.first_from-next.ensures.none,
)

pub first_of_depth-answered-requires : goal.first_of_depth-answered-requires
first_of_depth-answered-requires t c =
    let g = c.args.b.now.game in
    let p = c.args.b.now.stand.position in
    let v = c.in-Some.v in
    let member = (c.loop-next.invariant.1.tried v c.in-Some.is).0 in
    let at =
    λ (P : View → Type 0) (h : P c.args.b.now). subst P (sym c.loop-next.invariant.0) h in (
      omega (arith, c.decreases),
      (
        at (λ b. SearchesAt b.game b.stand.position c.args.side c.args.depth) c.requires.searches,
        (
          at (λ b. IsAttack b.game b.stand.position v)
              (attack-free g p c.args.side c.args.depth c.requires.searches c.args.attacks.now
              c.requires.tried c.requires.begins v member),
          at (λ b. IsAnswering b.game (after b.game b.stand.position v) c.args.side)
              (attack-answering g p c.args.side c.args.depth c.requires.searches
              c.args.attacks.now c.requires.tried c.requires.begins v member),
        ),
      ),
    )

pub first_of_depth-returns-in-Some-answered-clause-found :
    goal.first_of_depth-returns-in-Some-answered-clause-found
first_of_depth-returns-in-Some-answered-clause-found t c =
    let v = c.in-Some.v in
    let searching = subst
    (λ (b : View). IsSearching b.game b.stand.position c.args.side c.args.depth c.args.attacks.now
    c.loop-next.next) c.loop-next.invariant.0 c.loop-next.invariant.1 in
    attack-found c.args.b.now.game c.args.b.now.stand.position c.args.side c.args.depth
    c.requires.searches c.args.attacks.now c.requires.tried c.requires.begins v
    (searching.tried v c.in-Some.is).0 c.loop-next.next
    c.in-Some-answered.line c.behind.result c.in-Some.is searching
    (subst (λ (b : View). IsFound (Replied b.game (after b.game b.stand.position v) c.args.side)
    c.args.depth (Some c.in-Some-answered.line)) c.loop-next.invariant.0
    c.in-Some-answered.ensures.found) c.behind.ensures.points c.behind.ensures.len

pub first_of_depth-behind-requires : goal.first_of_depth-behind-requires
first_of_depth-behind-requires t c =
    replied-short c.loop-next.b.game
    (after c.loop-next.b.game c.loop-next.b.stand.position c.in-Some.v) c.args.side c.args.depth
    c.in-Some-answered.line c.in-Some-answered.ensures.found c.requires.searches.few

pub first_of_depth-overflow_add-v : goal.first_of_depth-overflow_add-v
first_of_depth-overflow_add-v t c =
    let small = (c.loop-next.invariant.1.tried c.in-Some.v c.in-Some.is).1 in
    omega (arith, small)

pub first_of_depth-loop-next-smaller : goal.first_of_depth-loop-next-smaller
first_of_depth-loop-next-smaller t c = attack-falls c.args.attacks.now c.in-Some.v c.loop-next.next
    c.first_from-next-in-Some.result (c.loop-next.invariant.1.tried c.in-Some.v c.in-Some.is).1
    c.in-Some.is c.first_from-next-in-Some.ensures.found

pub first_of_depth-loop-next-preserved : goal.first_of_depth-loop-next-preserved
first_of_depth-loop-next-preserved t c =
    let v = c.in-Some.v in
    let searching = subst
    (λ (b : View). IsSearching b.game b.stand.position c.args.side c.args.depth c.args.attacks.now
    c.loop-next.next) c.loop-next.invariant.0 c.loop-next.invariant.1 in
    let back = c.in_default-answered.ensures.kept ∙ c.loop-next.invariant.0 in
    let fails = subst
    (λ (b : View). IsFound (Replied b.game (after b.game b.stand.position v) c.args.side)
    c.args.depth None) c.loop-next.invariant.0 c.in_default-answered.ensures.found in
    let member = (searching.tried v c.in-Some.is).0 in
    let next = c.first_from-next-in-Some.result in (
      back,
      subst
          (λ (b : View). IsSearching b.game b.stand.position c.args.side c.args.depth
          c.args.attacks.now next) (sym back)
          (search-next c.args.b.now.game c.args.b.now.stand.position c.args.side c.args.depth
          c.requires.searches c.args.attacks.now c.requires.tried c.requires.begins (v + 1) next
          (attack-fails c.args.b.now.game c.args.b.now.stand.position c.args.side c.args.depth
          c.requires.searches c.args.attacks.now c.requires.tried c.requires.begins v member
          c.loop-next.next c.in-Some.is searching fails) c.first_from-next-in-Some.ensures.found
          c.first_from-next-in-Some.ensures.range c.first_from-next-in-Some.ensures.none),
    )

pub first_of_depth-returns-clause-found : goal.first_of_depth-returns-clause-found
first_of_depth-returns-clause-found t c =
    let searching = subst
    (λ (b : View). IsSearching b.game b.stand.position c.args.side c.args.depth c.args.attacks.now
    c.loop-next.next) c.loop-next.invariant.0 c.loop-next.invariant.1 in
    search-over c.args.b.now.game c.args.b.now.stand.position c.args.side c.args.depth
    c.requires.searches c.args.attacks.now c.requires.tried c.requires.begins
    (rw c.in_default.is at searching)

-- ---- the board afterwards

pub answered-undo-requires : goal.answered-undo-requires
answered-undo-requires t c =
    one-earlier c.first_of_depth-found.new.b.earlier c.play.new.self.earlier c.play.new.self.stand
    (ap (λ (b : View). b.earlier) c.first_of_depth-found.ensures.kept ∙ c.play-2.ensures.earlier)

pub answered-undo-requires-2 : goal.answered-undo-requires-2
answered-undo-requires-2 t c =
    let back = taken-back c.play.new.self c.play-2.new.self c.first_of_depth-found.new.b
    c.undo.new.self c.play-2.ensures.game c.play-2.ensures.earlier
    c.first_of_depth-found.ensures.kept c.undo.ensures.game c.undo.ensures.earlier in
    one-earlier c.undo.new.self.earlier c.args.b.now.earlier c.args.b.now.stand
    (ap (λ (b : View). b.earlier) back ∙ c.play.ensures.earlier)

pub answered-returns-in-Some-found-clause-kept : goal.answered-returns-in-Some-found-clause-kept
answered-returns-in-Some-found-clause-kept t c =
    let back = taken-back c.play.new.self c.play-2.new.self c.first_of_depth-found.new.b
    c.undo.new.self c.play-2.ensures.game c.play-2.ensures.earlier c.in-Some-found.ensures.kept
    c.undo.ensures.game c.undo.ensures.earlier in
    taken-back c.args.b.now c.play.new.self c.undo.new.self c.undo-2.new.self c.play.ensures.game
    c.play.ensures.earlier back c.undo-2.ensures.game c.undo-2.ensures.earlier

pub answered-returns-in-None-found-clause-kept : goal.answered-returns-in-None-found-clause-kept
answered-returns-in-None-found-clause-kept t c =
    let back = taken-back c.play.new.self c.play-2.new.self c.first_of_depth-found.new.b
    c.undo.new.self c.play-2.ensures.game c.play-2.ensures.earlier c.in-None-found.ensures.kept
    c.undo.ensures.game c.undo.ensures.earlier in
    taken-back c.args.b.now c.play.new.self c.undo.new.self c.undo-2.new.self c.play.ensures.game
    c.play.ensures.earlier back c.undo-2.ensures.game c.undo-2.ensures.earlier

pub first_of_depth-returns-in-Some-answered-clause-kept :
    goal.first_of_depth-returns-in-Some-answered-clause-kept
first_of_depth-returns-in-Some-answered-clause-kept t c =
    c.in-Some-answered.ensures.kept ∙ c.loop-next.invariant.0
