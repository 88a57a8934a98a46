-- Books of games on vectors.
use Rattle.std.specs.Prelude.{ℕ, Bool, true, false, List, [], ◌∷◌, ◌++◌, length, codes, decimal}
use Rattle.std.specs.Prelude.{Option, Some, None, slice_get}
use Rattle.std.specs.List.{flat_map, range_with_len}
use Rattle.pg_base.specs.Texts.{Bytes}
use Rattle.pg_base.specs.declared.kind.Kind.TheVariants.{Switching}
use Rattle.pg_cert.specs.declared.cert.Cert.{Cert}
use Rattle.pg_cert.specs.declared.cert.Claim.{Claim}
use Rattle.pg_cert.specs.declared.node.Body.{Body}
use Rattle.pg_cert.specs.declared.node.Body.TheVariants.{Cuts, Trees}
use Rattle.pg_cert.specs.declared.node.Node.{Node}
unfoldable use Rattle.pg_family_files.specs.Print.{signs_of}
use Rattle.pg_gf2.specs.declared.game.VecGame.{VecGame}
use Rattle.pg_family_book.specs.Leaves.{leaves_text}
use Rattle.pg_family_book.specs.Rules.{said_words, set_words, whose}
use Rattle.pg_family_book.specs.declared.leaf.Leaf.{Leaf}
use Rattle.pg_family_book.specs.declared.leaf.Table.{Table}
use Rattle.pg_family_book.specs.declared.vectors.TheConstants.{BARRING, EXTRA, LEGEND_VECTORS}
use Rattle.pg_family_book.specs.declared.vectors.TheConstants.{REACHING}

-- ---- tables

-- which of the two sets a vector is in
abbrev pub vector_role : Body → ℕ → Bytes
vector_role (Trees with_e first second) v = set_words first second v
vector_role (Cuts with_e first second) v = set_words first second v
vector_role _ v = []

-- the row of a vector: its number, its entries, whose it is, and which set it is in
abbrev pub vector_row : VecGame → Body → ℕ → ℕ → List Bytes
vector_row g body v vector = decimal v ∷ signs_of g.rows vector
    ∷ whose Switching g.x g.y v ∷ vector_role body v ∷ []

abbrev pub vector_row_by : VecGame → Body → ℕ → Option ℕ → List (List Bytes)
vector_row_by g body v None = []
vector_row_by g body v (Some vector) = vector_row g body v vector ∷ []

-- the rows of all vectors
abbrev pub vector_rows : VecGame → Body → List (List Bytes)
vector_rows g body = flat_map (λ v. vector_row_by g body v (slice_get g.vectors v))
    (range_with_len 0 (length g.vectors))

abbrev pub vector_heads : List Bytes
vector_heads = codes "Vector" ∷ codes "Entries" ∷ codes "Whose" ∷ codes "Set" ∷ []

abbrev pub vector_table : VecGame → Body → Table
vector_table g body = record { heads = vector_heads; rows = vector_rows g body }

-- ---- pages

abbrev pub target_words : VecGame → Bytes
target_words g = codes "The target is " ++ (signs_of g.rows g.target ++ codes ".")

-- that the first set has a further member, if it has
abbrev pub extra_words : Bool → List Bytes
extra_words true = EXTRA.now ∷ []
extra_words false = []

-- the rule of a claim
abbrev pub rule_words : Body → List Bytes
rule_words (Trees with_e first second) = REACHING.now ∷ extra_words with_e
rule_words (Cuts with_e first second) = BARRING.now ∷ extra_words with_e
rule_words _ = []

abbrev pub vector_words : VecGame → Body → List Bytes
vector_words g body = target_words g ∷ rule_words body

-- the page of a claim with this body
abbrev pub vector_leaf : VecGame → Claim → ℕ → Body → Leaf
vector_leaf g claim i body = record {
  number = i;
  said = said_words Switching claim.side claim.turn;
  picture = None;
  words = vector_words g body;
  table = vector_table g body;
}

-- the page of a claim by its first node, if there is one
abbrev pub node_leaves : VecGame → ℕ → Claim → Option Node → List Leaf
node_leaves g i claim None = []
node_leaves g i claim (Some node) = vector_leaf g claim i node.body ∷ []

abbrev pub claim_leaves : VecGame → ℕ → Claim → List Leaf
claim_leaves g i claim = node_leaves g i claim (slice_get claim.nodes 0)

-- the page of the claim of that number, if there is one
abbrev pub vector_by : VecGame → ℕ → Option Claim → List Leaf
vector_by g i None = []
vector_by g i (Some claim) = claim_leaves g i claim

-- the pages of all claims
abbrev pub vector_leaves : VecGame → List Claim → List Leaf
vector_leaves g claims =
    flat_map (λ i. vector_by g i (slice_get claims i)) (range_with_len 0 (length claims))

-- the text of a certificate's book
abbrev pub vector_book_text : VecGame → Cert → Bytes
vector_book_text g c = leaves_text LEGEND_VECTORS.now (vector_leaves g c.claims)
