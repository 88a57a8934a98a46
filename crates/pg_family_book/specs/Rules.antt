-- Words that both kinds of games share.
use Rattle.std.specs.Prelude.{ℕ, ◌++◌, [], if◌then◌else◌, codes}
use Rattle.std.specs.FinSet.{FinSet, contains}
use Rattle.std.specs.Ordering.{nat_cmp}
use Rattle.pg_base.specs.Texts.{Bytes}
use Rattle.pg_base.specs.declared.kind.Kind.{Kind}
use Rattle.pg_base.specs.declared.side.Side.{Side}
use Rattle.pg_base.specs.declared.side.Side.TheVariants.{X, Y}
use Rattle.pg_captions.specs.Words.{side_name}

-- what the claim of a side says, by who moves first
abbrev pub said_words : Kind → Side → Side → Bytes
said_words kind side turn = side_name kind side ++ (codes " wins if "
    ++ (side_name kind turn ++ codes " moves first. "))

-- whose a point is, by the points of X and of Y
abbrev pub whose : Kind → FinSet nat_cmp → FinSet nat_cmp → ℕ → Bytes
whose kind x y v = if contains x v
    then side_name kind X
    else if contains y v
    then side_name kind Y
    else codes "free"

-- which of two sets a point is in
abbrev pub set_words : FinSet nat_cmp → FinSet nat_cmp → ℕ → Bytes
set_words first second v =
    if contains first v then codes "first" else if contains second v then codes "second" else []
