use Rattle.std.proofs.Common.{string_bytes, subst}
use Rattle.pg_evidence.specs.Verdicts.{IsFound}
use Rattle.pg_cli.specs.declared.code.Code.TheVariants.{Node, Image}
use Rattle.pg_cli.proofs.Reports.{told_fault}
use Rattle.pg_cli.proofs.reporting.account.Goals as goal

pub returns-in_ok-rejection-in-Faulty-clause-told :
    goal.returns-in_ok-rejection-in-Faulty-clause-told
returns-in_ok-rejection-in-Faulty-clause-told c e found =
    told_fault c.args.game.now e c.in-Faulty.claim c.in-Faulty.node (Node c.in-Faulty.why)
    (string_bytes c.in_ok-rejection-in-Faulty.field-0)
    (subst (IsFound c.args.game.now e) c.in-Faulty.is found) c.in_ok-rejection-in-Faulty.ensures

pub returns-in_ok-rejection-in-FaultyImage-clause-told :
    goal.returns-in_ok-rejection-in-FaultyImage-clause-told
returns-in_ok-rejection-in-FaultyImage-clause-told c e found =
    told_fault c.args.game.now e c.in-FaultyImage.claim c.in-FaultyImage.node
    (Image c.in-FaultyImage.why) (string_bytes c.in_ok-rejection-in-FaultyImage.field-0)
    (subst (IsFound c.args.game.now e) c.in-FaultyImage.is found)
    c.in_ok-rejection-in-FaultyImage.ensures
