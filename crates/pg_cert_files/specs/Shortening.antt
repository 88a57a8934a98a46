-- A line of pairs of which some may be left out.
use Rattle.std.specs.Prelude.{◌≡◌, ℕ, ◌+◌, ◌<◌, true, List, ◌++◌, ◌∷◌, length, Ok}
use Rattle.std.specs.Prelude.{Err, option_map, codes, ◌≤◌}
use Rattle.pg_cert_files.specs.Prelude.{FinSet, contains, nat_cmp, Pair, BAR, SPACE, is_paired}
use Rattle.pg_cert_files.specs.Prelude.{each_of, Bytes, Lacks, parts, each_has_one, word_pair}
use Rattle.pg_cert_files.specs.Prelude.{HYPHEN, MAX_MEMBERS}
use Rattle.pg_cert_files.specs.CertFile.{Step, node_step}
use Rattle.pg_cert_files.specs.Reader.{StandsFor, told}
use Rattle.pg_cert_files.specs.Shortened.{AreAlike, clash, short_part}
use Rattle.pg_cert_files.specs.declared.progress.Progress.{Progress}
use Rattle.pg_cert_files.specs.declared.reader.LineReader.{LineReader}

-- the text begins with words that say these pairs, each with a space behind it, and this stands
-- behind them
pub record ArePairs (text : Bytes) (pairs : List Pair) (rest : Bytes) : Type 0 where
  pub front : Bytes
  pub cut : text ≡ front ++ rest
  pub words : List Bytes
  pub seam : (tail : Bytes) → parts SPACE (front ++ tail) ≡ words ++ parts SPACE tail
  pub form : each_has_one HYPHEN words ≡ true
  pub says : each_of word_pair words ≡ Ok pairs

-- two of the pairs share a point
pub record EndsInClash (text rest : Bytes) : Type 0 where
  pub pairs : List Pair
  pub are : ArePairs text pairs rest
  pub clashes : clash pairs ≡ true

-- they are at least so many
pub record EndsInMany (text : Bytes) (count : ℕ) (rest : Bytes) : Type 0 where
  pub pairs : List Pair
  pub are : ArePairs text pairs rest
  pub many : count ≤ length pairs

-- two of them share a point, and they are at least as many as there may be points
pub record EndsInExcess (text rest : Bytes) : Type 0 where
  pub pairs : List Pair
  pub are : ArePairs text pairs rest
  pub clashes : clash pairs ≡ true
  pub many : MAX_MEMBERS ≤ length pairs

-- whatever the pairs are
pub record EndsInPairs (text rest : Bytes) : Type 0 where
  pub pairs : List Pair
  pub are : ArePairs text pairs rest

-- the set holds only points of the pairs
pub record HasMet (text : Bytes) (points : FinSet nat_cmp) (rest : Bytes) : Type 0 where
  pub pairs : List Pair
  pub are : ArePairs text pairs rest
  pub met : (v : ℕ) → contains points v ≡ true → is_paired pairs v ≡ true

-- the line has three fields, and a body that begins with the word of pairs and goes on with these
-- words
pub record IsFront (line words : Bytes) : Type 0 where
  pub x : Bytes
  pub y : Bytes
  pub turn : Bytes
  pub cut : line ≡ x ++ BAR ∷ (y ++ BAR ∷ (turn ++ BAR ∷ (codes "pairs" ++ SPACE ∷ words)))
  pub no_x : Lacks BAR x
  pub no_y : Lacks BAR y
  pub no_turn : Lacks BAR turn

-- a step whose node is cut short
abbrev pub short_step : Step → Step
short_step (Ok next) = Ok (next.0, option_map short_part next.1)
short_step (Err fault) = Err fault

-- where a node is due both lines say the same, cut short, whatever comes behind them
abbrev pub SayTheSame : Bytes → Bytes → Type 0
SayTheSame line other =
    (others : ℕ) (p : Progress) (more : Bytes) → short_step (node_step others p (line ++ more))
    ≡ short_step (node_step others p (other ++ more))

-- what stands in the line between its front, which begins a line of pairs, and its end may be left
-- out
pub record IsSpare (line kept rest : Bytes) : Type 0 where
  pub dropped : Bytes
  pub cut : line ≡ kept ++ (dropped ++ rest)
  pub words : Bytes
  pub front : IsFront kept words
  pub some : 0 < length kept
  pub same : SayTheSame line (kept ++ rest)

-- the reader, which stood for the text, is as if it had been fed one that is like it
pub record StandsShort (old new : LineReader) (text : Bytes) : Type 0 where
  pub short : Bytes
  pub stands : StandsFor new short
  pub same : told short ≡ told text
  pub sizes : length text + length new.pending.items ≡ length short + length old.pending.items
  pub alike : AreAlike text short
