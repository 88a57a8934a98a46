-- What a node line says.
use Rattle.std.specs.Prelude.{ℕ, Bool, false, not, nat_lt, ◌==◌, if◌then◌else◌, List, [], ◌∷◌}
use Rattle.std.specs.Prelude.{length, map, Option, Some, None, Result, Ok, Err, codes}
use Rattle.pg_cert_lines.specs.Prelude.{bytes_eq, from_list, SPACE, and_then, each_of, MAX_MEMBERS}
use Rattle.pg_cert_lines.specs.Prelude.{Pair, Bytes, parts, pair_of, two_parts, number, ascend_from}
use Rattle.pg_cert_lines.specs.Prelude.{is_touched, MAX_CLAIM_NODES, Version}
use Rattle.pg_cert_lines.specs.declared.signs.TheConstants.{COLON, HYPHEN}
use Rattle.pg_cert_lines.specs.Form.{has_bar, only_word, is_slash, Shape, shape_of}
use Rattle.pg_cert_lines.specs.declared.fault.Fault.{Fault}
use Rattle.pg_cert_lines.specs.declared.fault.Fault.TheVariants as faults
use Rattle.pg_cert_lines.specs.declared.form.Form.{Form}
use Rattle.pg_cert_lines.specs.declared.form.Form.TheVariants as forms
use Rattle.pg_cert.specs.declared.node.Body.{Body}
use Rattle.pg_cert.specs.declared.node.Body.TheVariants as bodies
use Rattle.pg_cert_lines.specs.Prelude.{Node, Reply}
use Rattle.pg_cert_lines.specs.declared.values.Edges.{Edges}

-- the number of a word, if it is below a limit
abbrev pub below : ℕ → Option ℕ → Result ℕ Fault
below limit None = Err faults.Number
below limit (Some n) = if nat_lt n limit then Ok n else Err faults.Number

-- the point that a word names
abbrev pub point_of : Bytes → Result ℕ Fault
point_of word = below MAX_MEMBERS (number word)

-- the node that a word names
abbrev pub child_of : Bytes → Result ℕ Fault
child_of word = below MAX_CLAIM_NODES (number word)

-- what two texts say together
abbrev pub both_of : {A : Type 0} → (ℕ → ℕ → A) → Result ℕ Fault → Result ℕ Fault → Result A Fault
both_of make (Err fault) b = Err fault
both_of make (Ok a) (Err fault) = Err fault
both_of make (Ok a) (Ok b) = Ok (make a b)

-- the list, if it ascends
abbrev pub if_ascending : {A : Type 0} → List ℕ → A → Result A Fault
if_ascending ps a = if ascend_from 0 ps then Ok a else Err faults.Number

-- points that ascend
abbrev pub ascending_of : List Bytes → Result (List ℕ) Fault
ascending_of ws = and_then (each_of point_of ws) (λ ps. if_ascending ps ps)

-- the words of a field: none where it is empty
abbrev pub field_words : Bytes → List Bytes
field_words field = if length field == 0 then [] else parts SPACE field

-- a point and a child
abbrev pub reply_of : Option (Bytes × Bytes) → Result Reply Fault
reply_of None = Err faults.Number
reply_of (Some p) = both_of (λ v j. record { point = v; child = j }) (point_of p.0) (child_of p.1)

-- two points
abbrev pub points_pair : Option (Bytes × Bytes) → Result Pair Fault
points_pair None = Err faults.Number
points_pair (Some p) = both_of (λ a b. record { a = a; b = b }) (point_of p.0) (point_of p.1)

-- a move and the node that follows
abbrev pub move_of : Option (Bytes × Bytes) → Result Body Fault
move_of None = Err faults.Number
move_of (Some p) = both_of (λ v j. bodies.Move v j) (point_of p.0) (child_of p.1)

-- another node
abbrev pub weaker_of : Option Bytes → Result Body Fault
weaker_of None = Err faults.Number
weaker_of (Some word) = and_then (child_of word) (λ j. Ok (bodies.Weaker j))

-- what a word of replies says
abbrev pub word_reply : Bytes → Result Reply Fault
word_reply word = reply_of (two_parts COLON word)

-- what a word of pairs says
abbrev pub word_pair : Bytes → Result Pair Fault
word_pair word = points_pair (two_parts HYPHEN word)

-- replies whose points ascend
abbrev pub replies_of : List Bytes → Result (List Reply) Fault
replies_of ws = and_then (each_of word_reply ws) (λ rs. if_ascending (map (λ r. r.point) rs) rs)

-- the word that says that the first set holds the further edge
abbrev pub is_e : Bytes → Bool
is_e word = bytes_eq word (codes "e")

-- whether the first word is that one
abbrev pub begins_with_e : List Bytes → Bool
begins_with_e [] = false
begins_with_e (w ∷ ws) = is_e w

-- the words behind it
abbrev pub after_e : List Bytes → List Bytes
after_e [] = []
after_e (w ∷ ws) = if is_e w then ws else w ∷ ws

-- the words before the slash
abbrev pub before_slash : List Bytes → List Bytes
before_slash [] = []
before_slash (w ∷ ws) = if is_slash w then [] else w ∷ before_slash ws

-- the words behind the slash
abbrev pub after_slash : List Bytes → List Bytes
after_slash [] = []
after_slash (w ∷ ws) = if is_slash w then ws else after_slash ws

-- the edges before and behind the slash
abbrev pub edges_with : Bool → List Bytes → Result Edges Fault
edges_with with_e ws = and_then (ascending_of (before_slash ws))
    (λ first. and_then (ascending_of (after_slash ws)) (λ second. Ok (record {
      with_e = with_e;
      first = from_list first;
      second = from_list second;
    })))

-- the two sets of edges of trees or cuts
abbrev pub edges_of : List Bytes → Result Edges Fault
edges_of ws = edges_with (begins_with_e ws) (after_e ws)

-- a body of its form
abbrev pub body_of : Form → List Bytes → Result Body Fault
body_of forms.Over ws = Ok bodies.Over
body_of forms.Move ws = move_of (pair_of ws)
body_of forms.All ws = and_then (replies_of ws) (λ rs. Ok (bodies.All rs))
body_of forms.Pairs ws = and_then (each_of word_pair ws) (λ ps. Ok (bodies.Pairs ps))
body_of forms.Potential ws = Ok bodies.Potential
body_of forms.Trees ws = and_then (edges_of ws) (λ e. Ok (bodies.Trees e.with_e e.first e.second))
body_of forms.Cuts ws = and_then (edges_of ws) (λ e. Ok (bodies.Cuts e.with_e e.first e.second))
body_of forms.Threat ws = and_then (each_of point_of ws) (λ ps. Ok (bodies.Threat ps))
body_of forms.Weaker ws = weaker_of (only_word ws)

-- the node of these points
abbrev pub node_with : Shape → List ℕ → List ℕ → Result Body Fault → Result Node Fault
node_with shape x y (Err fault) = Err fault
node_with shape x y (Ok body) = if is_touched (from_list x) y
    then Err faults.Number
    else Ok (record {
      x = from_list x;
      y = from_list y;
      turn = shape.turn.side;
      left = shape.turn.left;
      body = body;
    })

-- the node of a line of the right form
abbrev pub node_of : Shape → Result Node Fault
node_of shape = and_then (ascending_of (field_words shape.x))
    (λ x. and_then (ascending_of (field_words shape.y))
    (λ y. node_with shape x y (body_of shape.form shape.words)))

-- the same where the form may be wrong
abbrev pub formed : Option Shape → Result Node Fault
formed None = Err faults.Form
formed (Some shape) = node_of shape

-- the node of a line of the version: without a bar it stands in the wrong place, and its form comes
-- before its numbers
unfoldable pub node_line : Version → Bytes → Result Node Fault
node_line version line =
    if not (has_bar line) then Err faults.Place else formed (shape_of version line)
