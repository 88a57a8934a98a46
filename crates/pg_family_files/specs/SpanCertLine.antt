-- What the lines of a connectivity game's certificate say.
use Rattle.std.specs.Prelude.{ℕ, Bool, nat_le, if◌then◌else◌, List, [], ◌∷◌, Option, Some, None}
use Rattle.std.specs.Prelude.{Result, Ok, Err, codes}
use Rattle.pg_family_files.specs.Prelude.{FinSet, from_list, nat_cmp, bytes_eq, side_of, Side}
use Rattle.pg_family_files.specs.Prelude.{SPACE, and_then, each_of, Bytes, parts, number}
use Rattle.pg_family_files.specs.Prelude.{ascend_from, has_one_slash, before_slash, after_slash}
use Rattle.pg_family_files.specs.Prelude.{SpanBody}
use Rattle.pg_span.specs.declared.cert.SpanBody.TheVariants as bodies
use Rattle.pg_family_files.specs.declared.cert_fault.Fault.{Fault}
use Rattle.pg_family_files.specs.declared.cert_fault.Fault.TheVariants as faults
use Rattle.pg_family_files.specs.declared.cert_limits.TheConstants.{MAX_SPAN_NUMBER}
use Rattle.pg_family_files.specs.declared.cert_line.Head.{Head}

-- ---- claim lines

-- a claim of two sides
abbrev pub head_with : Option Side → Option Side → Option Head
head_with (Some turn) (Some side) = Some (record { turn = turn; side = side })
head_with _ _ = None

-- what three words claim
abbrev pub head_from : List Bytes → Option Head
head_from (name ∷ turn ∷ side ∷ []) =
    if bytes_eq name (codes "claim") then head_with (side_of turn) (side_of side) else None
head_from _ = None

-- what a claim line says, if it has the form of one
unfoldable pub head_of : Bytes → Option Head
head_of line = head_from (parts SPACE line)

-- ---- bodies

-- a number within the limit
abbrev pub small : Option ℕ → Result ℕ Fault
small None = Err faults.Number
small (Some n) = if nat_le n MAX_SPAN_NUMBER then Ok n else Err faults.Number

-- the number in a number's place
abbrev pub number_in : Bytes → Result ℕ Fault
number_in word = small (number word)

-- the set of edges that ascend
abbrev pub ascending : List ℕ → Result (FinSet nat_cmp) Fault
ascending edges = if ascend_from 0 edges then Ok (from_list edges) else Err faults.Number

-- the set of edges that words name
abbrev pub edges_of : List Bytes → Result (FinSet nat_cmp) Fault
edges_of ws = and_then (each_of number_in ws) ascending

-- the words behind `trees`
pub record TreeWords : Type 0 where
  -- the word behind `first`, where that stands in front
  pub first : Option Bytes
  -- the words of the two sets
  pub sets : List Bytes

abbrev pub is_first : Bytes → Bool
is_first word = bytes_eq word (codes "first")

-- `first` takes the word behind it, whatever it is
abbrev pub behind_first : List Bytes → TreeWords
behind_first [] = record { first = None; sets = [] }
behind_first (w ∷ ws) = record { first = Some w; sets = ws }

abbrev pub cut_first : List Bytes → TreeWords
cut_first [] = record { first = None; sets = [] }
cut_first (w ∷ ws) = if is_first w then behind_first ws else record { first = None; sets = w ∷ ws }

-- the edge that is claimed first, where one is named
abbrev pub first_edge : Option Bytes → Result (Option ℕ) Fault
first_edge None = Ok None
first_edge (Some word) = and_then (number_in word) (λ v. Ok (Some v))

-- two sets of edges with one slash between them; their form comes before their numbers
abbrev pub trees_of : TreeWords → Result SpanBody Fault
trees_of t = if has_one_slash t.sets
    then and_then (first_edge t.first) (λ first. and_then (edges_of (before_slash t.sets))
    (λ a1. and_then (edges_of (after_slash t.sets)) (λ a2. Ok (bodies.Trees first a1 a2))))
    else Err faults.Form

-- a number for each vertex
abbrev pub parts_of : List Bytes → Result SpanBody Fault
parts_of ws = and_then (each_of number_in ws) (λ ns. Ok (bodies.Parts ns))

-- the body that words say
abbrev pub body_from : List Bytes → Result SpanBody Fault
body_from [] = Err faults.Form
body_from (name ∷ ws) =
    if bytes_eq name (codes "trees") then trees_of (cut_first ws)
    else if bytes_eq name (codes "parts") then parts_of ws
    else Err faults.Form

-- the body that a line says: words stand behind single spaces, and may be empty
unfoldable pub body_of : Bytes → Result SpanBody Fault
body_of line = body_from (parts SPACE line)
