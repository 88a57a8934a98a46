use Rattle.std.proofs.Common.{length}
use Rattle.std.specs.Prelude.{option_map}
use Rattle.pg_text.specs.Text.{words_of}
use Rattle.pg_cert_lines.specs.declared.signs.TheConstants.{COLON}
use Rattle.pg_cert_lines.specs.NodeLine.{word_reply}
use Rattle.pg_cert_lines.proofs.Outlines.{AreReadTo}
use Rattle.pg_cert_lines.proofs.values.reply_list.Given as goal

abbrev pub invariant-loop-rest : goal.invariant-loop-rest
invariant-loop-rest l = AreReadTo COLON word_reply (words_of (option_map (λ w. w.now) l.text))
    l.found.items (words_of (option_map (λ w. w.now) l.rest))

abbrev pub decreases-loop-rest : goal.decreases-loop-rest
decreases-loop-rest l = length (words_of (option_map (λ w. w.now) l.rest))
