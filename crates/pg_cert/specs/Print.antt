-- The printed text of a certificate.
use Rattle.std.specs.Prelude.{ℕ, nat_lt, if◌then◌else◌, Bool, true, false, List, [], ◌∷◌, ◌++◌}
use Rattle.std.specs.Prelude.{length, map, codes}
use Rattle.pg_cert.specs.Prelude.{FinSet, decimal, flat_map, nat_cmp, BAR, LINE_FEED}
use Rattle.pg_cert.specs.Prelude.{side_word, Side, members, Pair, Bytes, spaced}
use Rattle.pg_base.specs.Goal.{goal_word}
use Rattle.pg_cert.specs.declared.reply.Reply.{Reply}
use Rattle.pg_cert.specs.declared.node.Body.{Body}
use Rattle.pg_cert.specs.declared.node.Body.TheVariants as bodies
use Rattle.pg_cert.specs.declared.node.Node.{Node}
use Rattle.pg_cert.specs.declared.cert.Claim.{Claim}
use Rattle.pg_cert.specs.declared.cert.Cert.{Cert}
use Rattle.pg_cert.specs.declared.cert.Version.{Version}
use Rattle.pg_cert.specs.declared.cert.Version.TheVariants.{One, Two}

-- the points of a set as words
abbrev pub set_words : FinSet nat_cmp → List Bytes
set_words s = map decimal (members s)

-- a point and a child as a word
abbrev pub reply_word : Reply → Bytes
reply_word r = decimal r.point ++ 58 ∷ decimal r.child

-- two points as a word
abbrev pub pair_word : Pair → Bytes
pair_word p = decimal p.a ++ 45 ∷ decimal p.b

-- the word `e`, if the first set holds the further edge
abbrev pub e_words : Bool → List Bytes
e_words true = codes "e" ∷ []
e_words false = []

-- two sets of edges as words
abbrev pub edge_words : Bool → FinSet nat_cmp → FinSet nat_cmp → List Bytes
edge_words e first second = e_words e ++ (set_words first ++ codes "/" ∷ set_words second)

-- the first word of a body
abbrev pub body_name : Body → Bytes
body_name bodies.Over = codes "over"
body_name (bodies.Move v j) = codes "move"
body_name (bodies.All rs) = codes "all"
body_name (bodies.Pairs ps) = codes "pairs"
body_name bodies.Potential = codes "potential"
body_name (bodies.Trees e first second) = codes "trees"
body_name (bodies.Cuts e first second) = codes "cuts"
body_name (bodies.Threat ps) = codes "threat"
body_name (bodies.Weaker j) = codes "weaker"

-- the words behind it
abbrev pub body_words : Body → List Bytes
body_words bodies.Over = []
body_words (bodies.Move v j) = decimal v ∷ decimal j ∷ []
body_words (bodies.All rs) = map reply_word rs
body_words (bodies.Pairs ps) = map pair_word ps
body_words bodies.Potential = []
body_words (bodies.Trees e first second) = edge_words e first second
body_words (bodies.Cuts e first second) = edge_words e first second
body_words (bodies.Threat ps) = map decimal ps
body_words (bodies.Weaker j) = decimal j ∷ []

-- a body
abbrev pub body_text : Body → Bytes
body_text body = spaced (body_name body ∷ body_words body)

-- a turn: the side, and behind it how many points it still claims, where these are several
unfoldable pub turn_word : Side → ℕ → Bytes
turn_word side left = side_word side ++ (if nat_lt 1 left then decimal left else [])

-- a node line with its line feed
unfoldable pub node_text : Node → Bytes
node_text n = spaced (set_words n.x) ++ BAR ∷ (spaced (set_words n.y) ++ BAR
    ∷ (turn_word n.turn n.left ++ BAR ∷ (body_text n.body ++ LINE_FEED ∷ [])))

-- the words of a claim line
abbrev pub claim_words : Claim → List Bytes
claim_words c = codes "claim" ∷ side_word c.turn ∷ side_word c.side ∷ goal_word c.goal ∷ []

-- the words of a `nodes` line
abbrev pub count_words : ℕ → List Bytes
count_words n = codes "nodes" ∷ decimal n ∷ []

-- a claim line, its `nodes` line and its node lines
unfoldable pub claim_text : Claim → Bytes
claim_text c = spaced (claim_words c) ++ LINE_FEED
    ∷ (spaced (count_words (length c.nodes)) ++ LINE_FEED ∷ flat_map node_text c.nodes)

-- the first line, which names the version
abbrev pub header : Version → Bytes
header One = codes "posgame-cert 1"
header Two = codes "posgame-cert 2"

-- the text of a certificate
unfoldable pub printed_certificate : Cert → Bytes
printed_certificate c = header c.version ++ LINE_FEED ∷ flat_map claim_text c.claims
