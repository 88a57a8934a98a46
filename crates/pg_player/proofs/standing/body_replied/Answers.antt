use Rattle.std.proofs.Common.{◌≡◌, ◌∙◌, ◌==◌, ℕ, Some, List, find, subst, sym}
use Rattle.pg_player.proofs.Common.{Body, All, Node, Reply, replied_by}
use Rattle.pg_player.specs.Stand.{LeadsOn, Settles, standing_of}
use Rattle.pg_player.proofs.Replying.{replied_by-child}
use Rattle.pg_player.proofs.standing.body_replied.Goals as goal

found : (replies rs : List Reply) (v : ℕ) (r : Reply)
    → rs ≡ replies
    → Some r ≡ find (λ q. q.point == v) rs
    → find (λ q. q.point == v) replies ≡ Some r
found replies rs v r same is =
    sym (subst (λ (qs : List Reply). Some r ≡ find (λ q. q.point == v) qs) same is)

child : (nodes : List Node) (replies : List Reply) (v : ℕ) (r : Reply)
    → LeadsOn nodes (All replies) v
    → find (λ q. q.point == v) replies ≡ Some r
    → Settles nodes r.child
child nodes replies v r h some =
    let e : Some h.0 ≡ Some r = sym h.1 ∙ some in
    let same : h.0 ≡ r = cc in
    subst (λ (q : Reply). Settles nodes q.child) same h.2

pub arrive-requires : goal.arrive-requires
arrive-requires c =
    let h =
    subst (λ (b : Body). LeadsOn c.args.claim.now.nodes b c.args.w) c.in-All.is c.requires.leads in
    child c.args.claim.now.nodes c.in-All.replies c.args.w c.in-Some.reply.now h
    (found c.in-All.replies c.as_slice.result.now c.args.w c.in-Some.reply.now c.as_slice.ensures
    c.in-Some.ensures)

pub returns-in-Some : goal.returns-in-Some
returns-in-Some c =
    let some = found c.in-All.replies c.as_slice.result.now c.args.w c.in-Some.reply.now
    c.as_slice.ensures c.in-Some.ensures in
    subst
    (λ (b : Body). replied_by b c.args.g.now c.args.claim.now.nodes c.args.q.now c.args.w
    ≡ Some (standing_of c.args.claim.now.nodes c.arrive.result)) (sym c.in-All.is)
    (replied_by-child c.args.g.now c.args.claim.now.nodes c.in-All.replies c.args.q.now c.args.w
    c.in-Some.reply.now some
    ∙ c.arrive.ensures)
