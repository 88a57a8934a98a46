-- What a command may do on names that hold certain bytes, and what was said by one that was
-- stopped.
use Rattle.std.specs.Prelude.{ℕ, [], Result, Ok, Err, IfSome, ⊤}
use Rattle.pg_talk.specs.Prelude.{ConsoleTold, Grows, Holding, FilesTold, Read, Write, Memory}
use Rattle.pg_talk.specs.Prelude.{Refusal}
use Rattle.pg_talk.specs.Done.{Done, End, Follows}
use Rattle.pg_talk.specs.declared.halt.Halt.{Halt}
use Rattle.pg_talk.specs.declared.halt.Halt.TheVariants.{Refused, Stopped}

-- where it is told what the names hold: the command has acted so by what they hold; or what so
-- stands against it was found, and nothing was said yet; or it was stopped, having acted so far or
-- not begun
abbrev pub Runs : (Holding → Refusal → Type 0)
    → (Holding → Done → End → Type 0)
    → FilesTold
    → FilesTold
    → ConsoleTold
    → ConsoleTold
    → Result ℕ Halt
    → Type 0
Runs Against Act files files' before after result =
    IfSome files.held (λ held. Follows (Against held) (Act held) held files' before after result)

-- nothing was said by a command that refuses; and this is so where a read has failed, and this
-- where memory is wanting
abbrev pub QuietsBy : Type 0 → Type 0 → ConsoleTold → ConsoleTold → Result ℕ Halt → Type 0
QuietsBy at_read at_memory before after (Ok status) = ⊤
QuietsBy at_read at_memory before after (Err (Refused refusal)) = Grows before.log after.log []
QuietsBy at_read at_memory before after (Err (Stopped Read)) = at_read
QuietsBy at_read at_memory before after (Err (Stopped Write)) = ⊤
QuietsBy at_read at_memory before after (Err (Stopped Memory)) = at_memory
