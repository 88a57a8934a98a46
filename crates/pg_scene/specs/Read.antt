-- What is read off the items of a picture, in their order.
use Rattle.std.specs.Prelude.{ℕ, List, [], ◌∷◌, Option}
use Rattle.pg_scene.specs.Prelude.{Pair, Side, Reply}
use Rattle.pg_scene.specs.declared.item.Item.{Item}
use Rattle.pg_scene.specs.declared.item.Item.TheVariants as items
use Rattle.pg_scene.specs.declared.item.Set.TheVariants.{First, Second}

-- a point with its mark
abbrev pub point_in : Item → List (ℕ × Option Side)
point_in (items.Point v mark) = (v, mark) ∷ []
point_in _ = []

-- a pair
abbrev pub pair_in : Item → List Pair
pair_in (items.Pair v w number) = record { a = v; b = w } ∷ []
pair_in _ = []

-- an edge of the first set
abbrev pub first_in : Item → List ℕ
first_in (items.Member v First) = v ∷ []
first_in _ = []

-- an edge of the second set
abbrev pub second_in : Item → List ℕ
second_in (items.Member v Second) = v ∷ []
second_in _ = []

-- a reply
abbrev pub reply_in : Item → List Reply
reply_in (items.Reply v child) = record { point = v; child = child } ∷ []
reply_in _ = []
