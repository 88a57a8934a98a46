-- The form of a node line, save for its numbers.
use Rattle.std.specs.Prelude.{ℕ, ◌-◌, Bool, true, false, not, ◌&&◌, nat_le, ◌==◌, if◌then◌else◌}
use Rattle.std.specs.Prelude.{List, [], ◌∷◌, Option, Some, None, is_some, codes}
use Rattle.pg_cert_lines.specs.Prelude.{list_all, list_any, bytes_eq, BAR, SPACE, X, Y, Version}
use Rattle.pg_cert_lines.specs.Prelude.{One, Bytes, Four, parts, pair_of, two_parts, four_parts}
use Rattle.pg_cert_lines.specs.declared.signs.TheConstants.{COLON, HYPHEN}
use Rattle.pg_cert_lines.specs.declared.form.Form.{Form}
use Rattle.pg_cert_lines.specs.declared.form.Form.TheVariants as forms
use Rattle.pg_cert_lines.specs.declared.turn.TheConstants.{FEWEST, LETTER, MOST, ZERO}
use Rattle.pg_cert_lines.specs.declared.turn.Turn.{Turn}

-- whether a bar stands in the line
abbrev pub has_bar : Bytes → Bool
has_bar line = list_any (λ b. b == BAR) line

-- a turn in which Y still claims several points: its sign, and a digit from `2` to `7`
abbrev pub several_of : Bytes → Option Turn
several_of (sign ∷ digit ∷ []) = if sign == LETTER && nat_le FEWEST digit && nat_le digit MOST
    then Some (record { side = Y; left = digit - ZERO })
    else None
several_of _ = None

-- the turn that a word names
abbrev pub turn_of : Bytes → Option Turn
turn_of word =
    if bytes_eq word (codes "x") then Some (record { side = X; left = 1 })
    else if bytes_eq word (codes "y") then Some (record { side = Y; left = 1 })
    else several_of word

-- the body that a word begins
abbrev pub named_form : Bytes → Option Form
named_form word =
    if bytes_eq word (codes "over") then Some forms.Over
    else if bytes_eq word (codes "move") then Some forms.Move
    else if bytes_eq word (codes "all") then Some forms.All
    else if bytes_eq word (codes "pairs") then Some forms.Pairs
    else if bytes_eq word (codes "potential") then Some forms.Potential
    else if bytes_eq word (codes "trees") then Some forms.Trees
    else if bytes_eq word (codes "cuts") then Some forms.Cuts
    else if bytes_eq word (codes "threat") then Some forms.Threat
    else if bytes_eq word (codes "weaker") then Some forms.Weaker
    else None

-- whether the version has the body: `weaker` stands in version 2 alone
abbrev pub has_form : Version → Form → Bool
has_form One forms.Weaker = false
has_form version form = true

-- the body, if the version has it
abbrev pub of_version : Version → Option Form → Option Form
of_version version None = None
of_version version (Some form) = if has_form version form then Some form else None

-- the body of the version that a word begins
abbrev pub form_of : Version → Bytes → Option Form
form_of version word = of_version version (named_form word)

-- no word
abbrev pub are_none : List Bytes → Bool
are_none [] = true
are_none (w ∷ ws) = false

-- the word, if it is the only one
abbrev pub only_word : List Bytes → Option Bytes
only_word (w ∷ []) = Some w
only_word _ = None

-- two words
abbrev pub are_two : List Bytes → Bool
are_two ws = is_some (pair_of ws)

-- an odd number of words
abbrev pub are_odd : List Bytes → Bool
are_odd [] = false
are_odd (w ∷ ws) = not (are_odd ws)

-- each word has the sign once
abbrev pub each_has_one : ℕ → List Bytes → Bool
each_has_one sign ws = list_all (λ w. is_some (two_parts sign w)) ws

-- the word between two sets of edges
abbrev pub is_slash : Bytes → Bool
is_slash word = bytes_eq word (codes "/")

-- just one of the words is that one
abbrev pub has_one_slash : List Bytes → Bool
has_one_slash [] = false
has_one_slash (w ∷ ws) = if is_slash w then not (list_any is_slash ws) else has_one_slash ws

-- the words behind the first fit the body
abbrev pub fits : Form → List Bytes → Bool
fits forms.Over ws = are_none ws
fits forms.Move ws = are_two ws
fits forms.All ws = each_has_one COLON ws
fits forms.Pairs ws = each_has_one HYPHEN ws
fits forms.Potential ws = are_none ws
fits forms.Trees ws = has_one_slash ws
fits forms.Cuts ws = has_one_slash ws
fits forms.Threat ws = are_odd ws
fits forms.Weaker ws = is_some (only_word ws)

-- a node line of the right form
pub record Shape : Type 0 where
  -- the field of X's points
  pub x : Bytes
  -- the field of Y's points
  pub y : Bytes
  pub turn : Turn
  pub form : Form
  -- the words behind the first of the body
  pub words : List Bytes

-- the line with these fields, if the body has its form
abbrev pub with_form : Bytes → Bytes → Turn → Option Form → List Bytes → Option Shape
with_form x y turn None ws = None
with_form x y turn (Some form) ws = if fits form ws
    then Some (record { x = x; y = y; turn = turn; form = form; words = ws })
    else None

-- the same by the words of the body
abbrev pub with_body : Version → Bytes → Bytes → Option Turn → List Bytes → Option Shape
with_body version x y (Some turn) (name ∷ ws) = with_form x y turn (form_of version name) ws
with_body version x y _ _ = None

-- the same by the four fields
abbrev pub with_fields : Version → Option Four → Option Shape
with_fields version (Some f) =
    with_body version f.first f.second (turn_of f.third) (parts SPACE f.fourth)
with_fields version None = None

-- a line that has the form of a node line of the version
unfoldable pub shape_of : Version → Bytes → Option Shape
shape_of version line = with_fields version (four_parts BAR line)
