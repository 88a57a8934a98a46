use Rattle.std.proofs.Common.{◌≡◌, false, ◌∙◌, Some, is_some, sym, ap, subst, Bool}
use Rattle.pg_leaf.proofs.Common.{by_end, defends, attack_wins, answer_for, pairs_exist, View}
use Rattle.pg_leaf.proofs.Common.{Potential}
use Rattle.pg_leaf.specs.Leaf.{IsLeaf}
use Rattle.pg_leaf.proofs.FirstCriterion.{same-at, line-at, end-decides, end-leaf, known-at}
use Rattle.pg_leaf.proofs.FirstCriterion.{not-over}
use Rattle.pg_leaf.proofs.FirstCriterion.{by-potential, by-threat, by-pairs, by-none}
use Rattle.pg_leaf.proofs.FirstCriterion.{potential-leaf, threat-leaf, pairs-leaf}
use Rattle.pg_leaf.proofs.criteria.leaf_with.Goals as goal

pub returns-in-Some-clause-decided : goal.returns-in-Some-clause-decided
returns-in-Some-clause-decided c =
    let end = c.by_end.ensures
    ∙ same-at (λ g p. by_end g c.args.question p) c.requires.stands.game
    c.requires.stands.position in
    end-decides c.args.g.now c.args.question c.args.p.now c.by_end.result c.in-Some.answer end
    c.in-Some.is

pub returns-in-Some-clause-body : goal.returns-in-Some-clause-body
returns-in-Some-clause-body c =
    let end = c.by_end.ensures
    ∙ same-at (λ g p. by_end g c.args.question p) c.requires.stands.game
    c.requires.stands.position in
    end-leaf c.args.g.now c.args.question c.args.p.now c.by_end.result c.in-Some.answer end
    c.in-Some.is c.requires.asked.question c.requires.asked.position

pub returns-then-defends-clause-decided : goal.returns-then-defends-clause-decided
returns-then-defends-clause-decided c =
    let end = c.by_end.ensures
    ∙ same-at (λ g p. by_end g c.args.question p) c.requires.stands.game
    c.requires.stands.position in
    let going =
    not-over c.args.g.now c.args.question c.args.p.now c.by_end.result end c.in_default.is in
    let holds = sym (c.defends.ensures
    ∙ same-at (λ g p. defends g.kind g c.args.question p) c.requires.stands.game
    c.requires.stands.position)
    ∙ c.if-defends.true in
    ap Some (c.answer_for.ensures ∙ ap answer_for c.defender-side.ensures)
    ∙ sym (by-potential c.args.g.now c.args.question c.args.p.now going holds).0

pub returns-then-defends-clause-body : goal.returns-then-defends-clause-body
returns-then-defends-clause-body c =
    let end = c.by_end.ensures
    ∙ same-at (λ g p. by_end g c.args.question p) c.requires.stands.game
    c.requires.stands.position in
    let going =
    not-over c.args.g.now c.args.question c.args.p.now c.by_end.result end c.in_default.is in
    let holds = sym (c.defends.ensures
    ∙ same-at (λ g p. defends g.kind g c.args.question p) c.requires.stands.game
    c.requires.stands.position)
    ∙ c.if-defends.true in
    subst (λ (b : Bool). IsLeaf c.args.g.now c.args.question c.args.p.now b Potential)
    (sym (c.answer_for.ensures ∙ ap answer_for c.defender-side.ensures))
    (potential-leaf c.args.g.now c.args.question c.args.p.now going holds c.requires.asked.question
    c.requires.asked.lines c.requires.asked.position)

pub returns-in-Some-2-clause-decided : goal.returns-in-Some-2-clause-decided
returns-in-Some-2-clause-decided c =
    let end = c.by_end.ensures
    ∙ same-at (λ g p. by_end g c.args.question p) c.requires.stands.game
    c.requires.stands.position in
    let going =
    not-over c.args.g.now c.args.question c.args.p.now c.by_end.result end c.in_default.is in
    let weak = sym (c.defends.ensures
    ∙ same-at (λ g p. defends g.kind g c.args.question p) c.requires.stands.game
    c.requires.stands.position)
    ∙ c.if-defends.false in
    let wins = sym (c.in_ok-points.ensures.found
    ∙ same-at attack_wins c.requires.stands.game c.requires.stands.position)
    ∙ ap is_some c.in-Some-2.is in
    ap Some c.answer_for-in-Some-2.ensures
    ∙ sym (by-threat c.args.g.now c.args.question c.args.p.now going weak wins).0

pub returns-in-Some-2-clause-body : goal.returns-in-Some-2-clause-body
returns-in-Some-2-clause-body c =
    let end = c.by_end.ensures
    ∙ same-at (λ g p. by_end g c.args.question p) c.requires.stands.game
    c.requires.stands.position in
    let going =
    not-over c.args.g.now c.args.question c.args.p.now c.by_end.result end c.in_default.is in
    let weak = sym (c.defends.ensures
    ∙ same-at (λ g p. defends g.kind g c.args.question p) c.requires.stands.game
    c.requires.stands.position)
    ∙ c.if-defends.false in
    let wins = sym (c.in_ok-points.ensures.found
    ∙ same-at attack_wins c.requires.stands.game c.requires.stands.position)
    ∙ ap is_some c.in-Some-2.is in
    let line = line-at c.in-Some-2.points.items c.args.g.now c.args.b.now.game c.args.p.now
    c.args.b.now.stand.position c.requires.stands.game c.requires.stands.position
    (rw c.in-Some-2.is at c.in_ok-points.ensures.line) in
    let leaf = threat-leaf c.args.g.now c.args.question c.args.p.now c.in-Some-2.points.items going
    weak wins line c.requires.asked.position in
    rw (c.answer_for-in-Some-2.ensures, c.from_vec.ensures) leaf

pub returns-in-Some-3-clause-decided : goal.returns-in-Some-3-clause-decided
returns-in-Some-3-clause-decided c =
    let end = c.by_end.ensures
    ∙ same-at (λ g p. by_end g c.args.question p) c.requires.stands.game
    c.requires.stands.position in
    let going =
    not-over c.args.g.now c.args.question c.args.p.now c.by_end.result end c.in_default.is in
    let weak = sym (c.defends.ensures
    ∙ same-at (λ g p. defends g.kind g c.args.question p) c.requires.stands.game
    c.requires.stands.position)
    ∙ c.if-defends.false in
    let slow = sym (c.in_ok-points.ensures.found
    ∙ same-at attack_wins c.requires.stands.game c.requires.stands.position)
    ∙ ap is_some c.in_default-2.is in
    let exist = ap (pairs_exist c.args.g.now c.args.p.now) (sym c.defender-side.ensures)
    ∙ sym c.in_ok-pairs.ensures.exist
    ∙ ap is_some c.in-Some-3.is in
    ap Some (c.answer_for-in-Some-3.ensures ∙ ap answer_for c.defender-side.ensures)
    ∙ sym (by-pairs c.args.g.now c.args.question c.args.p.now going weak slow exist).0

pub returns-in-Some-3-clause-body : goal.returns-in-Some-3-clause-body
returns-in-Some-3-clause-body c =
    let end = c.by_end.ensures
    ∙ same-at (λ g p. by_end g c.args.question p) c.requires.stands.game
    c.requires.stands.position in
    let going =
    not-over c.args.g.now c.args.question c.args.p.now c.by_end.result end c.in_default.is in
    let weak = sym (c.defends.ensures
    ∙ same-at (λ g p. defends g.kind g c.args.question p) c.requires.stands.game
    c.requires.stands.position)
    ∙ c.if-defends.false in
    let slow = sym (c.in_ok-points.ensures.found
    ∙ same-at attack_wins c.requires.stands.game c.requires.stands.position)
    ∙ ap is_some c.in_default-2.is in
    let exist = ap (pairs_exist c.args.g.now c.args.p.now) (sym c.defender-side.ensures)
    ∙ sym c.in_ok-pairs.ensures.exist
    ∙ ap is_some c.in-Some-3.is in
    let leaf = pairs-leaf c.args.g.now c.args.question c.args.p.now c.in-Some-3.pairs.items going
    weak slow exist (rw c.defender-side.ensures at rw c.in-Some-3.is at c.in_ok-pairs.ensures.hold)
    c.requires.asked.question c.requires.asked.lines c.requires.asked.position in
    rw (c.answer_for-in-Some-3.ensures, c.defender-side.ensures, c.from_vec-in-Some-3.ensures) leaf

pub returns-in-None-clause-decided : goal.returns-in-None-clause-decided
returns-in-None-clause-decided c =
    let end = c.by_end.ensures
    ∙ same-at (λ g p. by_end g c.args.question p) c.requires.stands.game
    c.requires.stands.position in
    let going =
    not-over c.args.g.now c.args.question c.args.p.now c.by_end.result end c.in_default.is in
    let weak = sym (c.defends.ensures
    ∙ same-at (λ g p. defends g.kind g c.args.question p) c.requires.stands.game
    c.requires.stands.position)
    ∙ c.if-defends.false in
    let slow = sym (c.in_ok-points.ensures.found
    ∙ same-at attack_wins c.requires.stands.game c.requires.stands.position)
    ∙ ap is_some c.in_default-2.is in
    let exist = ap (pairs_exist c.args.g.now c.args.p.now) (sym c.defender-side.ensures)
    ∙ sym c.in_ok-pairs.ensures.exist
    ∙ ap is_some c.in-None.is in
    sym (by-none c.args.g.now c.args.question c.args.p.now going weak slow exist)

pub returns-then-is_short-clause-decided : goal.returns-then-is_short-clause-decided
returns-then-is_short-clause-decided c =
    let end = c.by_end.ensures
    ∙ same-at (λ g p. by_end g c.args.question p) c.requires.stands.game
    c.requires.stands.position in
    let going =
    not-over c.args.g.now c.args.question c.args.p.now c.by_end.result end c.in_default.is in
    let weak = sym (c.defends.ensures
    ∙ same-at (λ g p. defends g.kind g c.args.question p) c.requires.stands.game
    c.requires.stands.position)
    ∙ c.if-defends.false in
    let slow = sym (c.in_ok-points.ensures.found
    ∙ same-at attack_wins c.requires.stands.game c.requires.stands.position)
    ∙ ap is_some c.in_default-2.is in
    let none =
    subst (λ (b : View). pairs_exist b.game b.stand.position c.defender-side.result ≡ false)
    c.in_ok-points.ensures.kept (c.is_short.ensures c.if-is_short.true) in
    let exist = ap (pairs_exist c.args.g.now c.args.p.now) (sym c.defender-side.ensures)
    ∙ sym (same-at (λ g p. pairs_exist g p c.defender-side.result) c.requires.stands.game
    c.requires.stands.position)
    ∙ none in
    sym (by-none c.args.g.now c.args.question c.args.p.now going weak slow exist)

pub attack_with-requires-clause-known : goal.attack_with-requires-clause-known
attack_with-requires-clause-known c =
    known-at c.args.next.now c.args.g.now c.args.b.now.game c.args.p.now c.args.b.now.stand.position
    c.requires.stands.game c.requires.stands.position c.requires.stands.known
