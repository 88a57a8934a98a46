use Rattle.std.proofs.Common.{Some, sym, ap, ◌∙◌}
use Rattle.pg_game.specs.Decided.{at_least, answer_for, pairs_exist}
use Rattle.pg_plain.proofs.BestPlay.{over-none}
use Rattle.pg_plain.proofs.CriteriaLaws.{told-over, at-end, by-potential, by-threat, by-pairs}
use Rattle.pg_plain.proofs.CriteriaLaws.{by-none}
use Rattle.pg_plain.proofs.criteria.decided.Goals as goal

pub returns-in-Some-clause-decided : goal.returns-in-Some-clause-decided
returns-in-Some-clause-decided c =
    let over = told-over c.args.g.now c.args.p.now c.in-Some.score c.in-Some.ensures.result in
    ap Some (c.at_least.ensures ∙ ap (at_least c.args.wanted) over.1)
    ∙ sym (at-end c.args.g.now c.args.wanted c.args.p.now over.0)

pub returns-then-defends-clause-decided : goal.returns-then-defends-clause-decided
returns-then-defends-clause-decided c =
    let going = over-none c.args.g.now c.args.p.now c.in_default.ensures.result in
    ap Some (c.answer_for.ensures ∙ ap answer_for c.defender-side.ensures)
    ∙ sym (by-potential c.args.g.now c.args.wanted c.args.p.now going
    (sym c.defends.ensures ∙ c.if-defends.true))

pub returns-then-attack_wins-clause-decided : goal.returns-then-attack_wins-clause-decided
returns-then-attack_wins-clause-decided c =
    let going = over-none c.args.g.now c.args.p.now c.in_default.ensures.result in
    ap Some c.answer_for-then-attack_wins.ensures
    ∙ sym (by-threat c.args.g.now c.args.wanted c.args.p.now going
    (sym c.defends.ensures ∙ c.if-defends.false)
    (sym c.attack_wins.ensures ∙ c.if-attack_wins.true))

pub returns-then-pairs_exist-clause-decided : goal.returns-then-pairs_exist-clause-decided
returns-then-pairs_exist-clause-decided c =
    let going = over-none c.args.g.now c.args.p.now c.in_default.ensures.result in
    let exist = ap (pairs_exist c.args.g.now c.args.p.now) (sym c.defender-side.ensures)
    ∙ sym c.pairs_exist.ensures
    ∙ c.if-pairs_exist.true in
    ap Some (c.answer_for-then-pairs_exist.ensures ∙ ap answer_for c.defender-side.ensures)
    ∙ sym (by-pairs c.args.g.now c.args.wanted c.args.p.now going
    (sym c.defends.ensures ∙ c.if-defends.false)
    (sym c.attack_wins.ensures ∙ c.if-attack_wins.false) exist)

pub returns-clause-decided : goal.returns-clause-decided
returns-clause-decided c =
    let going = over-none c.args.g.now c.args.p.now c.in_default.ensures.result in
    let none = ap (pairs_exist c.args.g.now c.args.p.now) (sym c.defender-side.ensures)
    ∙ sym c.pairs_exist.ensures
    ∙ c.if-pairs_exist.false in
    sym
    (by-none c.args.g.now c.args.wanted c.args.p.now going
    (sym c.defends.ensures ∙ c.if-defends.false)
    (sym c.attack_wins.ensures ∙ c.if-attack_wins.false) none)
