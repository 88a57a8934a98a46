use Rattle.std.proofs.Common.{◌≡◌, ◌∙◌, true, not, sym, ap, rules, arith}
use Rattle.pg_threat.proofs.Common.{not-false, false≢true, MakerMaker, Side}
use denote.Enum.Bare.{sameb, same_true}
use Rattle.pg_base.specs.contracts.kind.Kind.{the_type}
use Rattle.pg_base.specs.declared.kind.Kind.{Kind}
use Rattle.pg_threat.specs.Lacking.{is_lacking}
use Rattle.pg_threat.proofs.Attacks.{tried-all, tried-sole}
use Rattle.pg_threat.proofs.search.tried.Goals as goal

pub returns-then-ne : goal.returns-then-ne
returns-then-ne c =
    tried-all c.args.b.now.game c.args.b.now.stand.position c.args.side c.args.attacks c.requires
    (λ kind. absurd (false≢true
    (sym (ap (λ (k : Kind). not (sameb the_type k MakerMaker)) (c.kind.ensures.exact ∙ kind))
    ∙ sym c.ne.ensures
    ∙ c.if-ne.true)))

pub returns-in-Some-first_from : goal.returns-in-Some-first_from
returns-in-Some-first_from c =
    let same : sameb the_type c.kind.result MakerMaker ≡ true =
    not-false _ (sym c.ne.ensures ∙ c.if-ne.false) in
    let kind =
    sym c.kind.ensures.exact ∙ same_true the_type (search rules) c.kind.result MakerMaker same in
    tried-sole c.args.b.now.game c.args.b.now.stand.position c.args.side c.args.attacks c.requires
    c.lacking-threats.result.points c.sole.result kind
    (λ u. c.lacking-threats.ensures.points u
    ∙ ap (λ (s : Side). is_lacking c.args.b.now.game c.args.b.now.stand.position s 1 u)
    c.other.ensures) c.sole.ensures

pub returns-in-None : goal.returns-in-None
returns-in-None c =
    tried-all c.args.b.now.game c.args.b.now.stand.position c.args.side c.args.attacks c.requires
    (λ kind u. sym (c.lacking-threats.ensures.points u
    ∙ ap (λ (s : Side). is_lacking c.args.b.now.game c.args.b.now.stand.position s 1 u)
    c.other.ensures)
    ∙ c.in-None.ensures.none u (omega arith))
