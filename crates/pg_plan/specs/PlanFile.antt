-- The file of a plan: what each line says, and the first fault.
use Rattle.std.specs.Prelude.{ℕ, ◌&&◌, Bool, nat_le, nat_lt, not, if◌then◌else◌, List, [], ◌∷◌}
use Rattle.std.specs.Prelude.{◌++◌, length, Option, Some, None, Result, Ok, Err, codes}
use Rattle.pg_plan.specs.Prelude.{Bytes, MAX_MEMBERS, SPACE, and_then, bytes_eq, each_of, least}
use Rattle.pg_plan.specs.Prelude.{lines, number, parts, reading, two_parts, unless}
use Rattle.pg_plan.specs.Places.{names_earlier}
use Rattle.pg_plan.specs.declared.fault.Fault.{Fault}
use Rattle.pg_plan.specs.declared.fault.Fault.TheVariants as faults
use Rattle.pg_plan.specs.declared.fault.TheConstants.{MAX_PLAN_BYTES}
use Rattle.pg_plan.specs.declared.line.TheConstants.{COLON}
use Rattle.pg_plan.specs.declared.place.Place.{Place}
use Rattle.pg_plan.specs.declared.place.Place.TheVariants.{Decided, Game, Image, Moves}
use Rattle.pg_plan.specs.declared.place.Step.{Step}
use Rattle.pg_plan.specs.declared.place.TheConstants.{MAX_GAME_FILES, MAX_MAPS, MAX_PLACES}

-- ---- what a line says

-- the number of a word, if it is below a limit
abbrev pub below : ℕ → Option ℕ → Result ℕ Fault
below limit None = Err faults.Number
below limit (Some n) = if nat_lt n limit then Ok n else Err faults.Number

-- the number of a game file
abbrev pub file_of : Option ℕ → Result ℕ Fault
file_of None = Err faults.Number
file_of (Some n) = if nat_lt 0 n && nat_lt n MAX_GAME_FILES then Ok n else Err faults.Number

-- what two texts say together
abbrev pub both_of : {A B C : Type 0}
    → (A → B → C)
    → Result A Fault
    → Result B Fault
    → Result C Fault
both_of make (Err fault) b = Err fault
both_of make (Ok a) (Err fault) = Err fault
both_of make (Ok a) (Ok b) = Ok (make a b)

-- a point and a position
abbrev pub step_from : Option (Bytes × Bytes) → Result Step Fault
step_from None = Err faults.Number
step_from (Some p) = both_of (λ v j. record { point = v; place = j })
    (below MAX_MEMBERS (number p.0)) (below MAX_PLACES (number p.1))

-- the move that a word says
unfoldable pub step_of : Bytes → Result Step Fault
step_of word = step_from (two_parts COLON word)

-- a position by the words behind the first of its line
abbrev pub decided_from : List Bytes → Result Place Fault
decided_from [] = Ok Decided
decided_from (w ∷ ws) = Err faults.Form

abbrev pub image_from : List Bytes → Result Place Fault
image_from [] = Err faults.Form
image_from (m ∷ []) = Err faults.Form
image_from (m ∷ j ∷ []) =
    both_of (λ n k. Image n k) (below MAX_MAPS (number m)) (below MAX_PLACES (number j))
image_from (m ∷ j ∷ w ∷ ws) = Err faults.Form

abbrev pub game_from : List Bytes → Result Place Fault
game_from [] = Err faults.Form
game_from (k ∷ ws) =
    both_of (λ n steps. Game n steps) (file_of (number k)) (each_of step_of ws)

abbrev pub moves_from : List Bytes → Result Place Fault
moves_from ws = and_then (each_of step_of ws) (λ steps. Ok (Moves steps))

-- the position of a line of these words, by the first
abbrev pub place_from : List Bytes → Result Place Fault
place_from [] = Err faults.Form
place_from (name ∷ ws) = if bytes_eq name (codes "decided")
    then decided_from ws
    else if bytes_eq name (codes "image")
    then image_from ws
    else if bytes_eq name (codes "game")
    then game_from ws
    else if bytes_eq name (codes "moves") then moves_from ws else Err faults.Form

-- the position that a line says: words stand behind single spaces, and may be empty
unfoldable pub place_of : Bytes → Result Place Fault
place_of line = place_from (parts SPACE line)

-- ---- the first fault

-- there are as many positions as there may be
abbrev pub is_full : List Place → Bool
is_full places = nat_le MAX_PLACES (length places)

-- the faults that a position can have behind others, in ascending order, each with whether it
-- applies
abbrev pub place_faults : List Place → Place → List (Fault × Bool)
place_faults places p = (faults.Order, not (names_earlier (length places) p))
    ∷ (faults.Limit, is_full places) ∷ []

-- the positions with one more, or its fault
abbrev pub with_one : List Place → Place → Result (List Place) Fault
with_one places p = unless (least (place_faults places p)) (places ++ p ∷ [])

-- the positions with that of one line more, or its fault
unfoldable pub after : List Place → Bytes → Result (List Place) Fault
after places line = and_then (place_of line) (with_one places)

-- what the lines say: the first line stands apart, and of the others the first faulty one decides
abbrev pub said : List Bytes → Result (List Place) (Fault × ℕ)
said [] = Err (faults.Header, 1)
said (first ∷ others) = if bytes_eq first (codes "posgame-plan 1")
    then reading after 2 [] others
    else Err (faults.Header, 1)

-- the positions of the plan that a file says, or its first fault with the number of the line
unfoldable pub plan_of : Bytes → Result (List Place) (Fault × ℕ)
plan_of text =
    if nat_lt MAX_PLAN_BYTES (length text) then Err (faults.Size, 0) else said (lines text)
