-- A node line that is cut where its signs stand, and read once: the body first, since its form
-- comes before its numbers.
use Rattle.std.specs.Prelude.{◌≡◌, ℕ, ◌+◌, ◌||◌, nat_lt, if◌then◌else◌, List, [], ◌∷◌, map, Option}
use Rattle.std.specs.Prelude.{Some, None, option_map, Result, Ok, Err}
use Rattle.pg_cert_lines.specs.Prelude.{Bor, FinSet, contains, empty, insert, nat_cmp, BAR, SPACE}
use Rattle.pg_cert_lines.specs.Prelude.{Version, Body, Node, Part}
use Rattle.pg_cert.specs.declared.part.Part.TheVariants as part
use Rattle.pg_cert_lines.specs.Prelude.{Reply, Fails, and_then, each_of, Bytes, Four, parts}
use Rattle.pg_cert_lines.specs.Prelude.{four_parts, words_of, LineError}
use Rattle.pg_cert_lines.specs.declared.signs.TheConstants.{COLON}
use Rattle.pg_cert_lines.specs.Form.{form_of, turn_of, each_has_one, fits, Shape}
use Rattle.pg_cert_lines.specs.NodeLine.{point_of, field_words, if_ascending, word_reply, body_of}
use Rattle.pg_cert_lines.specs.declared.fault.Fault.{Fault}
use Rattle.pg_cert_lines.specs.declared.fault.Fault.TheVariants as faults
use Rattle.pg_cert_lines.specs.declared.form.Form.{Form}
use Rattle.pg_cert_lines.specs.declared.turn.Turn.{Turn}

-- the line with these fields, if its body begins with a word of the version
abbrev pub outline_form : Bytes → Bytes → Turn → Option Form → List Bytes → Option Shape
outline_form x y turn None ws = None
outline_form x y turn (Some form) ws = Some (record {
  x = x;
  y = y;
  turn = turn;
  form = form;
  words = ws;
})

-- the same by the words of the body
abbrev pub outline_body : Version → Bytes → Bytes → Option Turn → List Bytes → Option Shape
outline_body version x y (Some turn) (name ∷ ws) = outline_form x y turn (form_of version name) ws
outline_body version x y _ _ = None

-- the same by the four fields
abbrev pub outline_fields : Version → Option Four → Option Shape
outline_fields version (Some f) =
    outline_body version f.first f.second (turn_of f.third) (parts SPACE f.fourth)
outline_fields version None = None

-- a line whose body may not have its form
unfoldable pub outline_of : Version → Bytes → Option Shape
outline_of version line = outline_fields version (four_parts BAR line)

-- what each word says, where each has the sign once
abbrev pub formed_each : {A : Type 0}
    → ℕ
    → (Bytes → Result A Fault)
    → List Bytes
    → Result (List A) Fault
formed_each sign read ws = if each_has_one sign ws then each_of read ws else Err faults.Form

-- replies whose points ascend, where each word has the sign once
abbrev pub formed_replies : List Bytes → Result (List Reply) Fault
formed_replies ws =
    and_then (formed_each COLON word_reply ws) (λ rs. if_ascending (map (λ r. r.point) rs) rs)

-- a body, where the words have its form
abbrev pub formed_body : Form → List Bytes → Result Body Fault
formed_body form ws = if fits form ws then body_of form ws else Err faults.Form

-- the point of the first word and the words behind it, or that word's fault
abbrev pub IsFirstPoint : Result (ℕ × Option (Bor Bytes)) (LineError Fault) → List Bytes → Type 0
IsFirstPoint (Ok p) [] = ⊥
IsFirstPoint (Err error) [] = ⊥
IsFirstPoint (Ok p) (w ∷ ws) = (point_of w ≡ Ok p.0) × (ws ≡ words_of (option_map (λ b. b.now) p.1))
IsFirstPoint (Err error) (w ∷ ws) = Fails error (point_of w)

-- points that ascend from a least one and aren't in the other set, put into a set one after the
-- other
abbrev pub gathered_from : FinSet nat_cmp
    → FinSet nat_cmp
    → ℕ
    → List Bytes
    → Result (FinSet nat_cmp) Fault
gathered_from other s least [] = Ok s
gathered_from other s least (w ∷ ws) =
    and_then (point_of w) (λ p. if nat_lt p least || contains other p
    then Err faults.Number
    else gathered_from other (insert s p) (p + 1) ws)

-- the node with this body
abbrev pub read_fields : Shape → Body → Result Node Fault
read_fields shape body = and_then (gathered_from empty empty 0 (field_words shape.x))
    (λ x. and_then (gathered_from x empty 0 (field_words shape.y)) (λ y. Ok (record {
      x = x;
      y = y;
      turn = shape.turn.side;
      left = shape.turn.left;
      body = body;
    })))

-- the node of an outline
abbrev pub read_node : Shape → Result Node Fault
read_node shape = and_then (formed_body shape.form shape.words) (read_fields shape)

-- a node as a part
abbrev pub node_part : Result Node Fault → Result (Option Part) Fault
node_part read = and_then read (λ node. Ok (Some (part.Node node)))
