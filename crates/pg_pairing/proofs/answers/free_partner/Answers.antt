use Rattle.std.proofs.Common.{sym}
use Rattle.pg_pairing.proofs.AnswerLaws.{partner_below}
use Rattle.pg_pairing.proofs.answers.free_partner.Goals as goal

pub is_free-requires : goal.is_free-requires
is_free-requires c = partner_below c.args.pairs.now c.in_ok-last.field-0 c.in_ok-b.b c.requires
    (sym c.in_ok-b.ensures)
