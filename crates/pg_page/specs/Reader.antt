-- What a reader sees in the text of a page: its tags, their attributes, and the signs between them.
use Rattle.std.specs.Prelude.{◌≡◌, ℕ, Bool, ◌==◌, ◌&&◌, ◌||◌, nat_le, if◌then◌else◌, List, [], ◌∷◌}
use Rattle.std.specs.Prelude.{◌++◌, codes}
use Rattle.pg_base.specs.Texts.{Bytes}

-- something that a reader sees
pub data Event : Type 0 where
  Opened : Bytes
      → List (Bytes × Bytes)
      → Event  -- a tag that opens, with the name and the value of each attribute
  Closed : Bytes → Event  -- a tag that closes
  Sign : ℕ → Event  -- a sign between tags

-- where a sign stands
pub data Where : Type 0 where
  Outside : Where  -- between tags
  Inside : Bytes
      → List (Bytes × Bytes)
      → Bytes
      → Bytes
      → Where  -- in a tag with attributes, in the value of the next: its name, and what was read

-- how far a reader has come, with what it has seen
pub data Scan : Type 0 where
  Reading : Where → List Event → Scan  -- between tags, or in a value
  Escaping : Where → List Event → Scan  -- behind the `&` of a sign that is given by its name
  Spelling : Where → Bytes → ℕ → List Event → Scan  -- in that name, of which so much must follow
  Begun : List Event → Scan  -- behind the `<` that begins a tag
  Declaring : List Event → Scan  -- behind `<!`
  Opening : Bytes → List Event → Scan  -- in the name of a tag
  Behind : Bytes → List (Bytes × Bytes) → List Event → Scan  -- behind a value
  Naming : Bytes → List (Bytes × Bytes) → Bytes → List Event → Scan  -- in an attribute's name
  Equal : Bytes → List (Bytes × Bytes) → Bytes → List Event → Scan  -- behind the `=` after it
  Ending : Bytes → List (Bytes × Bytes) → List Event → Scan  -- behind the `/` of a lone tag
  Closing : Bytes → List Event → Scan  -- in the name of a tag that closes
  Faulty : Scan  -- behind what no page has

-- a sign of a name
abbrev pub is_letter : ℕ → Bool
is_letter c = (nat_le 97 c && nat_le c 122)
    || (nat_le 65 c && nat_le c 90)
    || (nat_le 48 c && nat_le c 57)
    || c == 45

-- a sign is read
abbrev pub put : Where → ℕ → List Event → Scan
put Outside c seen = Reading Outside (seen ++ Sign c ∷ [])
put (Inside tag found name value) c seen = Reading (Inside tag found name (value ++ c ∷ [])) seen

-- a sign that isn't escaped: 60 is `<`, and 34 is `"`
abbrev pub plain : Where → ℕ → List Event → Scan
plain Outside c seen = if c == 60 then Begun seen else put Outside c seen
plain (Inside tag found name value) c seen = if c == 60
    then Faulty
    else if c == 34
    then Behind tag (found ++ (name, value) ∷ []) seen
    else put (Inside tag found name value) c seen

-- behind `&`: the first letter says which name must follow
abbrev pub escaping : Where → ℕ → List Event → Scan
escaping place c seen = if c == 97
    then Spelling place (codes "mp;") 38 seen
    else if c == 108
    then Spelling place (codes "t;") 60 seen
    else if c == 103
    then Spelling place (codes "t;") 62 seen
    else if c == 113
    then Spelling place (codes "uot;") 34 seen
    else Faulty

-- behind a letter of such a name
abbrev pub spelled : Where → Bytes → ℕ → List Event → Scan
spelled place [] sign seen = put place sign seen
spelled place (c ∷ rest) sign seen = Spelling place (c ∷ rest) sign seen

abbrev pub spelling : Where → Bytes → ℕ → List Event → ℕ → Scan
spelling place [] sign seen c = Faulty
spelling place (d ∷ rest) sign seen c = if c == d then spelled place rest sign seen else Faulty

-- behind the name of a tag, or behind a value: 32, 47 and 62 are ` `, `/` and `>`
abbrev pub within : Bytes → List (Bytes × Bytes) → List Event → ℕ → Scan
within tag found seen c = if c == 32
    then Naming tag found [] seen
    else if c == 47
    then Ending tag found seen
    else if c == 62
    then Reading Outside (seen ++ Opened tag found ∷ [])
    else Faulty

-- one byte further: 33 and 61 are `!` and `=`
abbrev pub next : Scan → ℕ → Scan
next (Reading place seen) c = if c == 38 then Escaping place seen else plain place c seen
next (Escaping place seen) c = escaping place c seen
next (Spelling place rest sign seen) c = spelling place rest sign seen c
next (Begun seen) c = if c == 33
    then Declaring seen
    else if c == 47
    then Closing [] seen
    else if is_letter c
    then Opening (c ∷ []) seen
    else Faulty
next (Declaring seen) c = if c == 62 then Reading Outside seen else Declaring seen
next (Opening name seen) c =
    if is_letter c then Opening (name ++ c ∷ []) seen else within name [] seen c
next (Behind tag found seen) c = within tag found seen c
next (Naming tag found name seen) c = if is_letter c
    then Naming tag found (name ++ c ∷ []) seen
    else if c == 61
    then Equal tag found name seen
    else Faulty
next (Equal tag found name seen) c =
    if c == 34 then Reading (Inside tag found name []) seen else Faulty
next (Ending tag found seen) c =
    if c == 62 then Reading Outside (seen ++ Opened tag found ∷ Closed tag ∷ []) else Faulty
next (Closing name seen) c = if is_letter c
    then Closing (name ++ c ∷ []) seen
    else if c == 62
    then Reading Outside (seen ++ Closed name ∷ [])
    else Faulty
next Faulty c = Faulty

-- a text further
abbrev pub scan : Scan → Bytes → Scan
scan from [] = from
scan from (c ∷ cs) = scan (next from c) cs

-- a text from its begin
abbrev pub read : Bytes → Scan
read text = scan (Reading Outside []) text

-- these are what a reader sees in the text, which ends between tags
abbrev pub IsReadAs : Bytes → List Event → Type 0
IsReadAs text events = read text ≡ Reading Outside events
