-- What is to be seen on a board, of a position, of lines, and of the bodies of nodes.
use Rattle.std.specs.Prelude.{ℕ, zero, suc, ◌+◌, ◌-◌, ◌^◌, nat_eq, nat_lt, nat_le, Bool, true}
use Rattle.std.specs.Prelude.{false, ◌&&◌, List, [], ◌∷◌, ◌++◌, length, map, take, get_or, Option}
use Rattle.std.specs.Prelude.{Some, None, if◌then◌else◌, max}
use Rattle.pg_scene.specs.Prelude.{FinSet, contains, decimal, count_by, flat_map, list_any}
use Rattle.pg_scene.specs.Prelude.{range_with_len, sum_by, nat_cmp, points_below}
use Rattle.pg_scene.specs.Prelude.{Pair, Side}
use Rattle.pg_scene.specs.Prelude.{Body, Reply, is_graph, free_points, lines_of}
use Rattle.pg_scene.specs.Prelude.{point_count, greatest_length, is_on}
use Rattle.pg_scene.specs.Prelude.{line_weight, Game, Position}
use Rattle.pg_base.specs.declared.side.Side.TheVariants.{X, Y}
use Rattle.pg_cert.specs.declared.node.Body.TheVariants as bodies
use Rattle.pg_captions.specs.Lightest.{base_of, most_free, own_of}
use Rattle.pg_captions.specs.Look.{are_drawn}
use Rattle.pg_scene.specs.declared.item.Item.{Item}
use Rattle.pg_scene.specs.declared.item.Item.TheVariants as items
use Rattle.pg_scene.specs.declared.item.Set.{Set}
use Rattle.pg_scene.specs.declared.item.Set.TheVariants.{First, Second}

-- the item, where the test holds
abbrev pub seen_if : Bool → Item → List Item
seen_if true item = item ∷ []
seen_if false item = []

-- the items of a list's members, which are numbered from k
abbrev pub numbered : {A : Type 0} → (ℕ → A → List Item) → ℕ → List A → List Item
numbered item k [] = []
numbered item k (a ∷ others) = item k a ++ numbered item (suc k) others

-- ---- a game

-- the side that has the point: X where both have it
abbrev pub mark_of : Position → ℕ → Option Side
mark_of p v = if contains p.x v then Some X else if contains p.y v then Some Y else None

-- each of so many points with its mark; marks of other points aren't drawn
abbrev pub point_items : ℕ → Position → List Item
point_items n p = map (λ v. items.Point v (mark_of p v)) (range_with_len 0 n)

-- whether two lines may lie over one another: they have two points in common
abbrev pub overlap : List ℕ → List ℕ → Bool
overlap line other = nat_le 2 (count_by (λ v. list_any (nat_eq v) other) line)

-- the lane of a line after the first j: the next after the greatest lane of those of them which it
-- may lie over, and the first, 0, if there is none
unfoldable pub lane_after : List (List ℕ) → ℕ → List ℕ → ℕ
lane_after lines zero line = 0
lane_after lines (suc j) line = if overlap line (get_or lines j [])
    then max (lane_after lines j line) (suc (lane_after lines j (get_or lines j [])))
    else lane_after lines j line

-- the lane of the line of that number
abbrev pub lane_of : List (List ℕ) → ℕ → ℕ
lane_of lines i = lane_after lines i (get_or lines i [])

-- the line of that number, in its lane
abbrev pub line_item : List (List ℕ) → ℕ → Item
line_item lines i = items.Line (get_or lines i []) (lane_of lines i)

-- the lines, if they are to be seen and few enough
abbrev pub line_items : Bool → List (List ℕ) → List Item
line_items seen lines =
    if are_drawn seen lines then map (line_item lines) (range_with_len 0 (length lines)) else []

-- ---- a potential

-- the weight of the lightest of these lines
unfoldable pub unit_weight : ℕ → Game → FinSet nat_cmp → Position → ℕ
unit_weight base g own p = base ^ (greatest_length (lines_of g) - most_free own p (lines_of g))

-- the sum of the weights of the lines through a point, in units: a line with the greatest number of
-- free points weighs one
unfoldable pub units_by : ℕ → Game → FinSet nat_cmp → Position → ℕ → ℕ
units_by base g own p v = sum_by
    (λ line. if is_on v line then line_weight base (most_free own p (lines_of g)) own p line else 0)
    (lines_of g)

-- the same for a claimer
abbrev pub units : Game → Position → Side → ℕ → ℕ
units g p side v = units_by (base_of g.kind g.bias) g (own_of g.kind p side) p v

-- the weight of each free point, in a game on lines
abbrev pub weight_items : Game → Position → Side → List Item
weight_items g p side = if is_graph g.field
    then []
    else map (λ v. items.Weight v (decimal (units g p side v))) (free_points g p)

-- ---- the bodies of nodes, of which the points of the game alone are drawn

-- a reply
abbrev pub reply_item : ℕ → Reply → List Item
reply_item n reply = seen_if (nat_lt reply.point n) (items.Reply reply.point reply.child)

-- a pair, where both its points are the game's
abbrev pub pair_item : ℕ → ℕ → Pair → List Item
pair_item n k pair = seen_if (nat_lt pair.a n && nat_lt pair.b n) (items.Pair pair.a pair.b k)

-- the first pairs, as many as the game has points: no pairing has more
abbrev pub pair_items : ℕ → List Pair → List Item
pair_items n pairs = numbered (pair_item n) 0 (take n pairs)

-- a point of a threat line
abbrev pub step_item : ℕ → ℕ → ℕ → List Item
step_item n k v = seen_if (nat_lt v n) (items.Step v k)

-- the edges of a set
abbrev pub member_items : ℕ → Set → FinSet nat_cmp → List Item
member_items n set edges = map (λ v. items.Member v set) (points_below edges n)

-- the edges of two sets; the further edge between the terminals is drawn on a graph alone
abbrev pub set_items : Game → Bool → FinSet nat_cmp → FinSet nat_cmp → List Item
set_items g with_e first second = seen_if (with_e && is_graph g.field) (items.Extra First)
    ++ (member_items (point_count g) First first ++ member_items (point_count g) Second second)

-- what a body names, where the claimer is that side
abbrev pub body_items : Game → Position → Side → Body → List Item
body_items g p side bodies.Over = []
body_items g p side (bodies.Move v child) = seen_if (nat_lt v (point_count g)) (items.Move v child)
body_items g p side (bodies.All replies) = flat_map (reply_item (point_count g)) replies
body_items g p side (bodies.Pairs pairs) = pair_items (point_count g) pairs
body_items g p side bodies.Potential = weight_items g p side
body_items g p side (bodies.Trees with_e first second) = set_items g with_e first second
body_items g p side (bodies.Cuts with_e first second) = set_items g with_e first second
body_items g p side (bodies.Threat points) = numbered (step_item (point_count g)) 1 points
body_items g p side (bodies.Weaker child) = []

-- that a node is faulty, where it is
abbrev pub fault_items : Option ℕ → List Item
fault_items (Some why) = items.Fault ∷ []
fault_items None = []
