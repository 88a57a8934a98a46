-- Whether each tag of a text that is opened is closed, the last opened first.
use Rattle.std.specs.Prelude.{◌≡◌, ℕ, Bool, ◌==◌, ◌&&◌, nat_le, if◌then◌else◌, List, [], ◌∷◌, ◌++◌}
use Rattle.pg_base.specs.Texts.{Bytes}

-- where a scan stands, with the names of the open tags, the last opened first
pub data Scan : Type 0 where
  Between : List Bytes → Scan  -- between tags
  Begun : List Bytes → Scan  -- behind the sign `<` that begins a tag
  Opening : Bytes
      → List Bytes
      → Scan  -- in the name of a tag that opens, of which so much has been read
  Within : Bytes → List Bytes → Scan  -- behind that name
  Quoted : Bytes → List Bytes → Scan  -- in a value between quotation marks
  Lone : List Bytes → Scan  -- behind the `/` that closes a tag at once
  Closing : Bytes → List Bytes → Scan  -- in the name of a closing tag, of which so much must follow
  Faulty : Scan  -- behind what no text with such tags has

-- a sign of a tag's name
abbrev pub is_letter : ℕ → Bool
is_letter c = nat_le 97 c && nat_le c 122

-- behind `</`: the name of the tag that was opened last must follow
abbrev pub closing : List Bytes → Scan
closing [] = Faulty
closing (name ∷ open_tags) = Closing name open_tags

-- one byte further: 34, 47, 60 and 62 are the signs `"`, `/`, `<` and `>`
abbrev pub next : Scan → ℕ → Scan
next (Between tags) c = if c == 60 then Begun tags else Between tags
next (Begun tags) c =
    if c == 47 then closing tags else if is_letter c then Opening (c ∷ []) tags else Faulty
next (Opening name tags) c =
    if is_letter c then Opening (name ++ c ∷ []) tags else if c == 32 then Within name tags
    else if c == 47 then Lone tags else if c == 62 then Between (name ∷ tags) else Faulty
next (Within name tags) c = if c == 34
    then Quoted name tags
    else if c == 47
    then Lone tags
    else if c == 62
    then Between (name ∷ tags)
    else if c == 60
    then Faulty
    else Within name tags
next (Quoted name tags) c =
    if c == 34 then Within name tags else if c == 60 then Faulty else Quoted name tags
next (Lone tags) c = if c == 62 then Between tags else Faulty
next (Closing [] tags) c = if c == 62 then Between tags else Faulty
next (Closing (sign ∷ name) tags) c = if c == sign then Closing name tags else Faulty
next Faulty c = Faulty

-- a text further
abbrev pub scan : Scan → Bytes → Scan
scan from [] = from
scan from (c ∷ cs) = scan (next from c) cs

-- each tag that is opened is closed, the last opened first, and the text ends between tags
abbrev pub CloseInOrder : Bytes → Type 0
CloseInOrder text = scan (Between []) text ≡ Between []
