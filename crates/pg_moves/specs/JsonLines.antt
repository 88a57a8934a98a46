-- What is printed of the moves of a game as JSON: an object whose keys ascend.
use Rattle.std.specs.Prelude.{ℕ, List, map, Option, Some, None, codes}
use Rattle.pg_moves.specs.Prelude.{Bytes, Data, Kind, Side, VERSION, array, kind_word, member}
use Rattle.pg_moves.specs.Prelude.{no_members, null, number, object, outcome_word, side_word}
use Rattle.pg_moves.specs.Prelude.{items_of, string, unsigned}
use Rattle.pg_moves.specs.declared.trial.Trial.{Trial}
use Rattle.pg_moves.specs.declared.trial.Worth.{Worth}
use Rattle.pg_moves.specs.declared.trial.Worth.TheVariants.{Known, Unknown}

abbrev pub number_data : ℕ → Data
number_data n = number (unsigned n)

-- what is known of the position after the move on this point
abbrev pub worth_data : Kind → ℕ → Worth → Data
worth_data kind point (Known score nodes expanded) = object
    (member (codes "expanded") (number_data expanded)
    (member (codes "nodes") (number_data nodes)
    (member (codes "point") (number_data point)
    (member (codes "result") (string (outcome_word kind score)) no_members))))
worth_data kind point (Unknown expanded) = object
    (member (codes "expanded") (number_data expanded)
    (member (codes "point") (number_data point)
    (member (codes "result") (string (codes "unknown")) no_members)))

abbrev pub trial_data : Kind → Trial → Data
trial_data kind t = worth_data kind t.point t.worth

abbrev pub trials_data : Kind → List Trial → Data
trials_data kind trials = array (items_of (map (trial_data kind) trials))

-- the best moves, or null where they aren't known
abbrev pub best_data : Option (List ℕ) → Data
best_data None = null
best_data (Some points) = array (items_of (map number_data points))

-- the moves of the game in the file with this name, of this kind and with this side to move
abbrev pub moves_data : Bytes → Kind → Side → List Trial → Option (List ℕ) → Data
moves_data name kind turn trials best = object (member (codes "answer") (string (codes "moves"))
    (member (codes "best") (best_data best)
    (member (codes "game") (string name)
    (member (codes "kind") (string (kind_word kind))
    (member (codes "moves") (trials_data kind trials)
    (member (codes "turn") (string (side_word turn))
    (member (codes "version") (string VERSION.now) no_members)))))))
