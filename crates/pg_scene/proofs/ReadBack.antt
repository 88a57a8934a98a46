-- What is read off the items of a scene.
use Rattle.std.proofs.Common.{◌≡◌, ℕ, suc, ◌<◌, ◌≤◌, Bool, true, false, ◌&&◌, List, [], ◌∷◌, ◌++◌}
use Rattle.std.proofs.Common.{get_or, length, map, take, Option, Some, None, refl, sym, ap, ap₂}
use Rattle.std.proofs.Common.{◌∙◌, subst}
use Rattle.std.proofs.Common.{inl, inr, arith}
use Rattle.std.specs.Prelude.{nat_lt}
use Rattle.pg_scene.proofs.Common.{FinSet, decimal, All, flat_map, range_with_len, nat_cmp}
use Rattle.pg_scene.proofs.Common.{cases_Bool, nat_tests, append-nil, flat_map-append}
use Rattle.pg_scene.proofs.Common.{flat_map-cons, points_below, Pair, Side, position_of, Claim}
use Rattle.pg_scene.proofs.Common.{Body, Node, Reply, is_graph, free_points, lines_of, point_count}
use Rattle.pg_scene.proofs.Common.{start, Game, Position}
use Rattle.std.proofs.lemmas.List.{take_all}
use Rattle.std.proofs.lemmas.List.Folds.{flat_map-map}
use Rattle.pg_cert.specs.declared.node.Body.TheVariants as bodies
use Rattle.pg_captions.specs.Look.{are_drawn}
use Rattle.pg_scene.specs.Items.{body_items, fault_items, lane_of, line_item}
use Rattle.pg_scene.specs.Items.{line_items, mark_of, member_items, numbered, pair_item}
use Rattle.pg_scene.specs.Items.{point_items, reply_item}
use Rattle.pg_captions.specs.Look.{seen_at}
use Rattle.pg_scene.specs.Items.{seen_if, set_items, step_item, units, weight_items}
use Rattle.pg_scene.specs.Read.{first_in, pair_in, point_in, reply_in, second_in}
use Rattle.pg_scene.specs.Recorded.{IsSceneOfMoves, move_items}
use Rattle.pg_scene.specs.Scenes.{IsSceneOf, IsSceneOfGame}
use Rattle.pg_scene.specs.declared.item.Item.{Item}
use Rattle.pg_scene.specs.declared.item.Item.TheVariants as items
use Rattle.pg_scene.specs.declared.item.Set.{Set}
use Rattle.pg_scene.specs.declared.item.Set.TheVariants.{First, Second}
use Rattle.pg_captions.specs.declared.look.Look.{Look}
use Rattle.pg_scene.specs.declared.scene.Scene.{Scene}

-- ---- lists in which nothing is read, or all

none-flat : {A B : Type 0} (f : A → List B)
    → ((a : A) → f a ≡ [])
    → (xs : List A) → flat_map f xs ≡ []
none-flat f h [] = refl
none-flat f h (x ∷ xs) = flat_map-cons f x xs ∙ ap₂ (λ a b. a ++ b) (h x) (none-flat f h xs)

none-map : {A B : Type 0} (r : Item → List B) (f : A → Item)
    → ((a : A) → r (f a) ≡ [])
    → (xs : List A) → flat_map r (map f xs) ≡ []
none-map r f h xs = flat_map-map r f xs ∙ none-flat (λ x. r (f x)) h xs

all-map : {A B : Type 0} (r : Item → List B) (f : A → Item) (v : A → B)
    → ((a : A) → r (f a) ≡ v a ∷ [])
    → (xs : List A) → flat_map r (map f xs) ≡ map v xs
all-map r f v h [] = refl
all-map r f v h (x ∷ xs) =
    flat_map-cons r (f x) (map f xs) ∙ ap₂ (λ a b. a ++ b) (h x) (all-map r f v h xs)

none-seen : {B : Type 0} (r : Item → List B) (b : Bool) (item : Item)
    → r item ≡ []
    → flat_map r (seen_if b item) ≡ []
none-seen r true item h = flat_map-cons r item [] ∙ append-nil (r item) ∙ h
none-seen r false item h = refl

none-each : {A B : Type 0} (r : Item → List B) (item : A → List Item)
    → ((a : A) → flat_map r (item a) ≡ [])
    → (xs : List A) → flat_map r (flat_map item xs) ≡ []
none-each r item h [] = refl
none-each r item h (x ∷ xs) = ap (flat_map r) (flat_map-cons item x xs)
    ∙ flat_map-append r (item x) (flat_map item xs)
    ∙ ap₂ (λ a b. a ++ b) (h x) (none-each r item h xs)

none-numbered : {A B : Type 0} (r : Item → List B) (item : ℕ → A → List Item)
    → ((k : ℕ) (a : A) → flat_map r (item k a) ≡ [])
    → (k : ℕ) (xs : List A) → flat_map r (numbered item k xs) ≡ []
none-numbered r item h k [] = refl
none-numbered r item h k (x ∷ xs) = flat_map-append r (item k x) (numbered item (suc k) xs)
    ∙ ap₂ (λ a b. a ++ b) (h k x) (none-numbered r item h (suc k) xs)

none-members : {B : Type 0} (r : Item → List B) (n : ℕ) (set : Set) (edges : FinSet nat_cmp)
    → ((v : ℕ) → r (items.Member v set) ≡ [])
    → flat_map r (member_items n set edges) ≡ []
none-members r n set edges h = none-map r (λ v. items.Member v set) h (points_below edges n)

-- ---- parts of scenes

none-lines : {B : Type 0} (r : Item → List B) (seen : Bool) (lines : List (List ℕ))
    → ((vs : List ℕ) (lane : ℕ) → r (items.Line vs lane) ≡ [])
    → flat_map r (line_items seen lines) ≡ []
none-lines r seen lines h = elim (cases_Bool (are_drawn seen lines)) [
  | inl few ↦ rw few (none-map r (line_item lines)
      (λ i. h (get_or lines i []) (lane_of lines i))
      (range_with_len 0 (length lines)))
  | inr many ↦ rw many refl
]

none-fault : {B : Type 0} (r : Item → List B) (fault : Option ℕ)
    → r items.Fault ≡ []
    → flat_map r (fault_items fault) ≡ []
none-fault r (Some why) h = flat_map-cons r items.Fault [] ∙ append-nil (r items.Fault) ∙ h
none-fault r None h = refl

parts-read : {B : Type 0} (r : Item → List B) (ps ls bs fs : List Item)
    → flat_map r (ps ++ (ls ++ (bs ++ fs)))
    ≡ flat_map r ps ++ (flat_map r ls ++ (flat_map r bs ++ flat_map r fs))
parts-read r ps ls bs fs = flat_map-append r ps (ls ++ (bs ++ fs))
    ∙ ap (λ xs. flat_map r ps ++ xs)
    (flat_map-append r ls (bs ++ fs) ∙ ap (λ xs. flat_map r ls ++ xs) (flat_map-append r bs fs))

-- what is read where nothing is read of points, lines and faults
body-read : {B : Type 0} (r : Item → List B)
    → ((v : ℕ) (mark : Option Side) → r (items.Point v mark) ≡ [])
    → ((vs : List ℕ) (lane : ℕ) → r (items.Line vs lane) ≡ [])
    → r items.Fault ≡ []
    → (look : Look) (g : Game) (claim : Claim) (k : ℕ) (node : Node) (fault : Option ℕ)
    (scene : Scene) → IsSceneOf look g claim k node fault scene
    → flat_map r scene.items ≡ flat_map r (body_items g (position_of node) claim.side node.body)
body-read r points lines faulty look g claim k node fault scene is =
    let p = position_of node in
    let body = body_items g p claim.side node.body in
    ap (flat_map r) is.items
    ∙ parts-read r (point_items (point_count g) p) (line_items look.lines (lines_of g)) body
    (fault_items fault)
    ∙ ap₂ (λ a b. a ++ b)
    (none-map r (λ v. items.Point v (mark_of p v)) (λ v. points v (mark_of p v))
    (range_with_len 0 (point_count g)))
    (ap₂ (λ a b. a ++ b) (none-lines r look.lines (lines_of g) lines)
    (ap (λ b. flat_map r body ++ b) (none-fault r fault faulty) ∙ append-nil (flat_map r body)))

-- ---- points

no-points-sets : (g : Game) (with_e : Bool) (first second : FinSet nat_cmp)
    → flat_map point_in (set_items g with_e first second) ≡ []
no-points-sets g with_e first second =
    let n = point_count g in
    flat_map-append point_in (seen_if (with_e && is_graph g.field) (items.Extra First))
    (member_items n First first ++ member_items n Second second)
    ∙ ap₂ (λ a b. a ++ b) (none-seen point_in (with_e && is_graph g.field) (items.Extra First) refl)
    (flat_map-append point_in (member_items n First first) (member_items n Second second)
    ∙ ap₂ (λ a b. a ++ b) (none-members point_in n First first (λ v. refl))
    (none-members point_in n Second second (λ v. refl)))

no-points-weights : (g : Game) (p : Position) (side : Side)
    → flat_map point_in (weight_items g p side) ≡ []
no-points-weights g p side = elim (cases_Bool (is_graph g.field)) [
  | inl graph ↦ rw graph refl
  | inr lines ↦ rw lines
      (none-map point_in (λ v. items.Weight v (decimal (units g p side v))) (λ v. refl)
      (free_points g p))
]

no-points : (g : Game) (p : Position) (side : Side) (body : Body)
    → flat_map point_in (body_items g p side body) ≡ []
no-points g p side bodies.Over = refl
no-points g p side (bodies.Move v child) =
    none-seen point_in (nat_lt v (point_count g)) (items.Move v child) refl
no-points g p side (bodies.All replies) = none-each point_in (reply_item (point_count g))
    (λ (a : Reply). none-seen point_in (nat_lt a.point (point_count g))
    (items.Reply a.point a.child) refl) replies
no-points g p side (bodies.Pairs pairs) = none-numbered point_in (pair_item (point_count g))
    (λ k (q : Pair). none-seen point_in (nat_lt q.a (point_count g) && nat_lt q.b (point_count g))
    (items.Pair q.a q.b k) refl) 0 (take (point_count g) pairs)
no-points g p side bodies.Potential = no-points-weights g p side
no-points g p side (bodies.Trees with_e first second) = no-points-sets g with_e first second
no-points g p side (bodies.Cuts with_e first second) = no-points-sets g with_e first second
no-points g p side (bodies.Threat points) = none-numbered point_in (step_item (point_count g))
    (λ k v. none-seen point_in (nat_lt v (point_count g)) (items.Step v k) refl) 1 points
no-points g p side (bodies.Weaker child) = refl

-- the points that are read off
abbrev marked : ℕ → Position → List (ℕ × Option Side)
marked n p = map (λ v. (v, mark_of p v)) (range_with_len 0 n)

points-read : (n : ℕ) (p : Position) → flat_map point_in (point_items n p) ≡ marked n p
points-read n p = all-map point_in (λ v. items.Point v (mark_of p v)) (λ v. (v, mark_of p v))
    (λ v. refl) (range_with_len 0 n)

pub points-game : (look : Look) (g : Game) (scene : Scene)
    → IsSceneOfGame look g scene
    → flat_map point_in scene.items ≡ marked (point_count g) (seen_at look.blank (start g))
points-game look g scene is =
    let p = seen_at look.blank (start g) in
    ap (flat_map point_in) is.items
    ∙ flat_map-append point_in (point_items (point_count g) p)
    (line_items look.lines (lines_of g))
    ∙ ap₂ (λ a b. a ++ b) (points-read (point_count g) p)
    (none-lines point_in look.lines (lines_of g) (λ vs lane. refl))
    ∙ append-nil (marked (point_count g) p)

pub points-node : (look : Look) (g : Game) (claim : Claim) (k : ℕ) (node : Node) (fault : Option ℕ)
    (scene : Scene)
    → IsSceneOf look g claim k node fault scene
    → flat_map point_in scene.items ≡ marked (point_count g) (position_of node)
points-node look g claim k node fault scene is =
    let p = position_of node in
    let body = body_items g p claim.side node.body in
    ap (flat_map point_in) is.items
    ∙ parts-read point_in (point_items (point_count g) p) (line_items look.lines (lines_of g)) body
    (fault_items fault)
    ∙ ap₂ (λ a b. a ++ b) (points-read (point_count g) p)
    (ap₂ (λ a b. a ++ b) (none-lines point_in look.lines (lines_of g) (λ vs lane. refl))
    (ap₂ (λ a b. a ++ b) (no-points g p claim.side node.body) (none-fault point_in fault refl)))
    ∙ append-nil (marked (point_count g) p)

pub points-moves : (look : Look) (g : Game) (p : Position) (over : Bool) (moves : List ℕ)
    (scene : Scene)
    → IsSceneOfMoves look g p over moves scene
    → flat_map point_in scene.items ≡ marked (point_count g) p
points-moves look g p over moves scene is =
    let n = point_count g in
    let lines = line_items look.lines (lines_of g) in
    ap (flat_map point_in) is.items
    ∙ flat_map-append point_in (point_items n p) (lines ++ move_items n moves)
    ∙ ap₂ (λ a b. a ++ b) (points-read n p)
    (flat_map-append point_in lines (move_items n moves)
    ∙ ap₂ (λ a b. a ++ b) (none-lines point_in look.lines (lines_of g) (λ vs lane. refl))
    (none-numbered point_in (step_item n)
    (λ k v. none-seen point_in (nat_lt v n) (items.Step v k) refl) 1 moves))
    ∙ append-nil (marked n p)

-- ---- pairs

is-below : (v n : ℕ) → v < n → nat_lt v n ≡ true
is-below v n lt = grind (arith, nat_tests)

pair-read : (n k : ℕ) (q : Pair) → q.a < n → q.b < n → flat_map pair_in (pair_item n k q) ≡ q ∷ []
pair-read n k q first second = rw (is-below q.a n first, is-below q.b n second) refl

pairs-read : (n k : ℕ) (pairs : List Pair)
    → All (λ q. (q.a < n) × (q.b < n)) pairs
    → flat_map pair_in (numbered (pair_item n) k pairs) ≡ pairs
pairs-read n k [] h = refl
pairs-read n k (q ∷ pairs) h =
    let first = h 0 q (omega arith) in
    flat_map-append pair_in (pair_item n k q) (numbered (pair_item n) (suc k) pairs)
    ∙ ap₂ (λ a b. a ++ b) (pair-read n k q first.0 first.1)
    (pairs-read n (suc k) pairs (λ i d lt. h (suc i) d (omega arith)))

-- of any list the first pairs are drawn, as many as there are points
pub pairs-first : (look : Look) (g : Game) (claim : Claim) (k : ℕ) (node : Node) (fault : Option ℕ)
    (scene : Scene)
    → IsSceneOf look g claim k node fault scene
    → (pairs : List Pair) → node.body ≡ bodies.Pairs pairs
    → All (λ q. (q.a < point_count g) × (q.b < point_count g)) (take (point_count g) pairs)
    → flat_map pair_in scene.items ≡ take (point_count g) pairs
pairs-first look g claim k node fault scene is pairs body within =
    body-read pair_in (λ v mark. refl) (λ vs lane. refl) refl look g claim k node fault scene is
    ∙ ap (λ (b : Body). flat_map pair_in (body_items g (position_of node) claim.side b)) body
    ∙ pairs-read (point_count g) 0 (take (point_count g) pairs) within

-- no more pairs than points are drawn all
pub pairs-all : (look : Look) (g : Game) (claim : Claim) (k : ℕ) (node : Node) (fault : Option ℕ)
    (scene : Scene)
    → IsSceneOf look g claim k node fault scene
    → (pairs : List Pair) → node.body ≡ bodies.Pairs pairs
    → length pairs ≤ point_count g
    → All (λ q. (q.a < point_count g) × (q.b < point_count g)) pairs
    → flat_map pair_in scene.items ≡ pairs
pairs-all look g claim k node fault scene is pairs body few within =
    let whole : take (point_count g) pairs ≡ pairs = take_all (point_count g) pairs few in
    pairs-first look g claim k node fault scene is pairs body
    (subst (All (λ (q : Pair). (q.a < point_count g) × (q.b < point_count g))) (sym whole) within)
    ∙ whole

-- ---- replies

reply-read : (n : ℕ) (r : Reply) → r.point < n → flat_map reply_in (reply_item n r) ≡ r ∷ []
reply-read n r lt = rw (is-below r.point n lt) refl

replies-read : (n : ℕ) (replies : List Reply)
    → All (λ r. r.point < n) replies
    → flat_map reply_in (flat_map (reply_item n) replies) ≡ replies
replies-read n [] h = refl
replies-read n (r ∷ replies) h = ap (flat_map reply_in) (flat_map-cons (reply_item n) r replies)
    ∙ flat_map-append reply_in (reply_item n r) (flat_map (reply_item n) replies)
    ∙ ap₂ (λ a b. a ++ b) (reply-read n r (h 0 r (omega arith)))
    (replies-read n replies (λ i d lt. h (suc i) d (omega arith)))

pub replies-node : (look : Look) (g : Game) (claim : Claim) (k : ℕ) (node : Node) (fault : Option ℕ)
    (scene : Scene)
    → IsSceneOf look g claim k node fault scene
    → (replies : List Reply) → node.body ≡ bodies.All replies
    → All (λ r. r.point < point_count g) replies
    → flat_map reply_in scene.items ≡ replies
replies-node look g claim k node fault scene is replies body within =
    body-read reply_in (λ v mark. refl) (λ vs lane. refl) refl look g claim k node fault scene is
    ∙ ap (λ (b : Body). flat_map reply_in (body_items g (position_of node) claim.side b)) body
    ∙ replies-read (point_count g) replies within

-- ---- edges of two sets

map-itself : (xs : List ℕ) → map (λ v. v) xs ≡ xs
map-itself [] = refl
map-itself (x ∷ xs) = ap (λ ys. x ∷ ys) (map-itself xs)

firsts-read : (g : Game) (with_e : Bool) (first second : FinSet nat_cmp)
    → flat_map first_in (set_items g with_e first second) ≡ points_below first (point_count g)
firsts-read g with_e first second =
    let n = point_count g in
    flat_map-append first_in (seen_if (with_e && is_graph g.field) (items.Extra First))
    (member_items n First first ++ member_items n Second second)
    ∙ ap₂ (λ a b. a ++ b) (none-seen first_in (with_e && is_graph g.field) (items.Extra First) refl)
    (flat_map-append first_in (member_items n First first) (member_items n Second second)
    ∙ ap₂ (λ a b. a ++ b)
    (all-map first_in (λ v. items.Member v First) (λ v. v) (λ v. refl) (points_below first n)
    ∙ map-itself (points_below first n)) (none-members first_in n Second second (λ v. refl))
    ∙ append-nil (points_below first n))

seconds-read : (g : Game) (with_e : Bool) (first second : FinSet nat_cmp)
    → flat_map second_in (set_items g with_e first second) ≡ points_below second (point_count g)
seconds-read g with_e first second =
    let n = point_count g in
    flat_map-append second_in (seen_if (with_e && is_graph g.field) (items.Extra First))
    (member_items n First first ++ member_items n Second second)
    ∙ ap₂ (λ a b. a ++ b)
    (none-seen second_in (with_e && is_graph g.field) (items.Extra First) refl)
    (flat_map-append second_in (member_items n First first) (member_items n Second second)
    ∙ ap₂ (λ a b. a ++ b) (none-members second_in n First first (λ v. refl))
    (all-map second_in (λ v. items.Member v Second) (λ v. v) (λ v. refl) (points_below second n)
    ∙ map-itself (points_below second n)))

-- the edges of a node whose body draws two sets
pub edges-node : (look : Look) (g : Game) (claim : Claim) (k : ℕ) (node : Node) (fault : Option ℕ)
    (scene : Scene)
    → IsSceneOf look g claim k node fault scene
    → (with_e : Bool) (first second : FinSet nat_cmp)
    → body_items g (position_of node) claim.side node.body ≡ set_items g with_e first second
    → (flat_map first_in scene.items ≡ points_below first (point_count g))
    × (flat_map second_in scene.items ≡ points_below second (point_count g))
edges-node look g claim k node fault scene is with_e first second same = (
  body-read first_in (λ v mark. refl) (λ vs lane. refl) refl look g claim k node fault scene is
      ∙ ap (flat_map first_in) same
      ∙ firsts-read g with_e first second,
  body-read second_in (λ v mark. refl) (λ vs lane. refl) refl look g claim k node fault scene is
      ∙ ap (flat_map second_in) same
      ∙ seconds-read g with_e first second,
)
