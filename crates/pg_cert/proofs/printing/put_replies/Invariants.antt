use Rattle.std.proofs.Common.{◌≡◌, ◌++◌, take, map}
use Rattle.std.specs.Prelude.{string_bytes}
use Rattle.pg_text.specs.Text.{behind_spaces}
use Rattle.pg_cert.specs.Print.{reply_word}
use Rattle.pg_cert.proofs.printing.put_replies.Given as goal

abbrev pub invariant-loop-reply : goal.invariant-loop-reply
invariant-loop-reply l = string_bytes l.out
    ≡ string_bytes l.fn.out ++ behind_spaces (map reply_word (take l.reply-index l.replies))
