-- How a log agrees with the input of a console.
use Rattle.std.specs.Prelude.{◌≡◌, List, [], ◌∷◌, drop, Option, Some, None, ⊤}
use Rattle.pg_talk.specs.Prelude.{Bytes, reply, Entry, Said, Heard, Skipped, Ended}
use Rattle.pg_talk.specs.declared.dialogue.TheConstants.{MAX_REPLY}

-- what was heard, a reply's greatest length at most at a time, is the input in order, and this is
-- left of it
abbrev pub InOrder : Bytes → List Entry → Bytes → Type 0
InOrder left [] rest = rest ≡ left
InOrder left (Said text ∷ others) rest = InOrder left others rest
InOrder left (Heard text ∷ others) rest = (Heard text ≡ (reply MAX_REPLY left).entry)
    × InOrder (drop (reply MAX_REPLY left).taken left) others rest
InOrder left (Skipped text ∷ others) rest = (Skipped text ≡ (reply MAX_REPLY left).entry)
    × InOrder (drop (reply MAX_REPLY left).taken left) others rest
InOrder left (Ended ∷ others) rest = (Ended ≡ (reply MAX_REPLY left).entry)
    × InOrder (drop (reply MAX_REPLY left).taken left) others rest

-- the same where the input is told
abbrev pub Hearing : Option Bytes → List Entry → Option Bytes → Type 0
Hearing None entries after = ⊤
Hearing (Some left) entries None = ⊥
Hearing (Some left) entries (Some rest) = InOrder left entries rest
