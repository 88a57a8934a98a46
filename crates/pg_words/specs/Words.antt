-- What the words of a command line mean.
use Rattle.std.specs.Prelude.{◌*◌, min, nat_le, ℕ, Bool, false, List, [], ◌∷◌, codes, Option, Some}
use Rattle.std.specs.Prelude.{None, option_map, option_and_then, if◌then◌else◌}
use Rattle.pg_words.specs.Prelude.{bytes_eq, Bytes}
use Rattle.pg_base.specs.Side.{side_of}
use Rattle.pg_base.specs.declared.side.Side.{Side}
use Rattle.pg_words.specs.Given.{Given, given}
use Rattle.pg_words.specs.Line.{line_of}
use Rattle.pg_words.specs.Numbers.{number_in, seed_of}
use Rattle.pg_words.specs.declared.family.Family.{Family}
use Rattle.pg_words.specs.declared.family.Family.TheVariants.{Connectivity, Vectors}
use Rattle.pg_words.specs.declared.family.FamilyTask.{FamilyTask}
use Rattle.pg_words.specs.declared.family.FamilyTask.TheVariants as tasks
use Rattle.pg_words.specs.declared.source.Source.{Source}
use Rattle.pg_words.specs.declared.source.Source.TheVariants.{Rows, Bridge, Scatter}
use Rattle.pg_game.specs.declared.bounds.TheConstants.{MAX_POINTS, MAX_LINES, MAX_LINE_POINTS}
use Rattle.pg_game.specs.declared.bounds.TheConstants.{MAX_POSITIONS, MAX_SUMMED_POINTS}
use Rattle.pg_gen.specs.declared.limits.TheConstants.{MAX_BRIDGE_ROWS, MAX_SQUARE_SIDE}

-- what the program is asked to do, with the names of files
pub data Command : Type 0 where
  -- solve a game, by so many positions where it is said, perhaps with a certificate that names
  -- positions as images of others
  Solve : (game certificate : Bytes) (positions : Option ℕ) (images : Bool) → Command
  -- check a certificate for a game
  Check : (game certificate : Bytes) → Command
  -- play a side of a game by a certificate
  Play : (game certificate : Bytes) (side : Side) → Command
  -- make a game, and solve it where a certificate is wanted
  Gen : (which : Source) (game : Bytes) (certificate : Option Bytes) → Command
  -- report on a certificate for a game
  Report : (game certificate : Bytes) → Command
  -- do this with a game of a further family
  OfFamily : (family : Family) (task : FamilyTask) (game certificate : Bytes) → Command
  -- record a game that is told move by move
  Record : (game name : Bytes) → Command
  -- review a recorded game, each position by so many positions where it is said
  Review : (game name : Bytes) (positions : Option ℕ) → Command

-- a number of positions, where one is given
abbrev pub limit_of : Option Bytes → Option (Option ℕ)
limit_of None = Some None
limit_of (Some word) = option_map (λ n. Some n) (number_in 1 MAX_POSITIONS word)

abbrev pub solve : List Bytes → Option Bytes → Option Bytes → Bool → Option Command
solve (game ∷ certificate ∷ []) positions None images =
    option_map (λ limit. Solve game certificate limit images) (limit_of positions)
solve _ _ _ _ = None

abbrev pub check : List Bytes → Option Bytes → Option Bytes → Option Command
check (game ∷ certificate ∷ []) None None = Some (Check game certificate)
check _ _ _ = None

abbrev pub play : List Bytes → Option Bytes → Option Bytes → Option Command
play (game ∷ certificate ∷ []) None (Some word) = option_map (Play game certificate) (side_of word)
play _ _ _ = None

abbrev pub report : List Bytes → Option Bytes → Option Bytes → Option Command
report (game ∷ certificate ∷ []) None None = Some (Report game certificate)
report _ _ _ = None

abbrev pub recorded : List Bytes → Option Bytes → Option Bytes → Option Command
recorded (game ∷ name ∷ []) None None = Some (Record game name)
recorded _ _ _ = None

abbrev pub reviewed : List Bytes → Option Bytes → Option Bytes → Option Command
reviewed (game ∷ name ∷ []) positions None = option_map (Review game name) (limit_of positions)
reviewed _ _ _ = None

-- a game and, where wanted, a certificate, under these names
abbrev pub made : List Bytes → Source → Option Command
made (game ∷ []) which = Some (Gen which game None)
made (game ∷ certificate ∷ []) which = Some (Gen which game (Some certificate))
made _ which = None

abbrev pub rows : List Bytes → Option Command
rows (n ∷ names) = option_and_then (λ n. made names (Rows n)) (number_in 2 MAX_SQUARE_SIDE n)
rows [] = None

abbrev pub bridge : List Bytes → Option Command
bridge (r ∷ names) = option_and_then (λ r. made names (Bridge r)) (number_in 1 MAX_BRIDGE_ROWS r)
bridge [] = None

abbrev pub scatter_by : Option ℕ → Option ℕ → Option ℕ → Option ℕ → Option Source
scatter_by (Some seed) (Some n) (Some m) (Some k) =
    if nat_le (m * k) MAX_SUMMED_POINTS then Some (Scatter seed n m k) else None
scatter_by _ _ _ _ = None

-- m lines of k points, of n in all
abbrev pub scatter_of : Bytes → Bytes → Bytes → Bytes → Option Source
scatter_of seed n m k =
    scatter_by (seed_of seed) (number_in 1 MAX_POINTS n) (number_in 0 MAX_LINES m)
    (option_and_then (λ n. number_in 1 (min n MAX_LINE_POINTS) k) (number_in 1 MAX_POINTS n))

abbrev pub scatter : List Bytes → Option Command
scatter (seed ∷ n ∷ m ∷ k ∷ names) = option_and_then (made names) (scatter_of seed n m k)
scatter _ = None

abbrev pub generate : List Bytes → Option Bytes → Option Bytes → Option Command
generate (kind ∷ others) None None =
    if bytes_eq kind (codes "rows") then rows others
    else if bytes_eq kind (codes "bridge") then bridge others
    else if bytes_eq kind (codes "scatter") then scatter others
    else None
generate _ _ _ = None

-- what is to be done with a game of a family: `play` alone takes a side, and needs one
abbrev pub task_of : Bytes → Option Bytes → Option FamilyTask
task_of name None =
    if bytes_eq name (codes "solve") then Some tasks.Solve
    else if bytes_eq name (codes "check") then Some tasks.Check
    else None
task_of name (Some word) =
    if bytes_eq name (codes "play") then option_map tasks.Play (side_of word) else None

abbrev pub of_family : Family → List Bytes → Option Bytes → Option Bytes → Option Command
of_family family (name ∷ game ∷ certificate ∷ []) None side =
    option_map (λ task. OfFamily family task game certificate) (task_of name side)
of_family family _ _ _ = None

-- what the first positional, the others and the options ask for, without a flag
abbrev pub plain : Bytes → List Bytes → Option Bytes → Option Bytes → Option Command
plain name others positions side =
    if bytes_eq name (codes "check") then check others positions side
    else if bytes_eq name (codes "play") then play others positions side
    else if bytes_eq name (codes "gen") then generate others positions side
    else if bytes_eq name (codes "report") then report others positions side
    else if bytes_eq name (codes "span") then of_family Connectivity others positions side
    else if bytes_eq name (codes "vec") then of_family Vectors others positions side
    else if bytes_eq name (codes "record") then recorded others positions side
    else if bytes_eq name (codes "review") then reviewed others positions side
    else None

-- what positionals and options ask for: `solve` alone takes the flag
abbrev pub asked_by : List Bytes → Option Bytes → Option Bytes → Bool → Option Command
asked_by [] positions side images = None
asked_by (name ∷ others) positions side images =
    if bytes_eq name (codes "solve") then solve others positions side images
    else if images then None
    else plain name others positions side

abbrev pub asked : Given → Option Command
asked g = asked_by g.positionals g.positions g.side g.images

-- the meaning of the words, none where they have none
abbrev pub meaning_of : List Bytes → Option Command
meaning_of words = option_and_then asked (option_and_then given (line_of words))
