use Rattle.std.proofs.Common.{rules, ◌∙◌, not, ap}
use Rattle.pg_game.specs.Game.{is_over, outcome}
use Rattle.pg_check.proofs.RoundLaws.{not_over, theirs-going}
use Rattle.pg_check.proofs.threats.threat_holds.Goals as goal

pub leads_to_line-requires : goal.leads_to_line-requires
leads_to_line-requires c =
    let g = c.args.g.now in
    let p = c.args.p.now in
    let going = not_over (is_over g p) (outcome g p) c.over.result c.over.ensures.result
    (c.is_none.ensures ∙ ap not c.if-is_none.true) in
    record {
      position = c.requires.position;
      turn = search rules;
      single = search rules;
      theirs = λ kind. theirs-going g p c.args.side going kind;
    }
