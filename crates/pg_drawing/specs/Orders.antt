-- What the words of the command line ask for.
use Rattle.std.specs.Prelude.{ℕ, ◌-◌, List, [], ◌∷◌, length, Option, Some, None, option_and_then}
use Rattle.std.specs.Prelude.{option_map}
use Rattle.pg_drawing.specs.Prelude.{Bytes, Cert}
use Rattle.pg_text.specs.Text.{number, two_parts}
use Rattle.pg_cert.specs.declared.cert.Claim.{Claim}
use Rattle.pg_drawing.specs.declared.name.NodeName.{NodeName}
use Rattle.pg_drawing.specs.declared.name.TheConstants.{DOT}

-- ---- nodes

-- node number k of claim number c
abbrev pub node_of : ℕ → ℕ → NodeName
node_of c k = record { claim = c; node = k }

-- the numbers of a claim and of a node with a dot between them, or that of a node of the first
-- claim
abbrev pub named_by : Option (Bytes × Bytes) → Bytes → Option NodeName
named_by (Some parts) word =
    option_and_then (λ c. option_map (node_of c) (number parts.1)) (number parts.0)
named_by None word = option_map (node_of 0) (number word)

-- the node that a word names
abbrev pub node_named : Bytes → Option NodeName
node_named word = named_by (two_parts DOT word) word

-- the number of the first claim's last node
abbrev pub last_of : List Claim → ℕ
last_of [] = 0
last_of (claim ∷ claims) = length claim.nodes - 1

-- the node to be drawn: the one that is named, or else the root of the first claim, its last node
abbrev pub chosen : Cert → Option NodeName → NodeName
chosen c (Some name) = name
chosen c None = node_of 0 (last_of c.claims)

-- the same of a connectivity game's certificate: a claim there has one node, number 0
abbrev pub chosen_claim : Option NodeName → NodeName
chosen_claim (Some name) = name
chosen_claim None = node_of 0 0

-- ---- orders

-- what can be asked for, by the names of files: a game, or a node of a certificate for a game
pub data Order : Type 0 where
  OfGame : Bytes → Order
  OfNode : Bytes → Bytes → Option NodeName → Order

-- what words ask for; any others have no meaning
abbrev pub order_of : List Bytes → Option Order
order_of (game ∷ []) = Some (OfGame game)
order_of (game ∷ certificate ∷ []) = Some (OfNode game certificate None)
order_of (game ∷ certificate ∷ word ∷ []) =
    option_map (λ name. OfNode game certificate (Some name)) (node_named word)
order_of _ = None
