-- The kinds of games.
use Rattle.std.specs.Prelude.{ℕ, List, codes, Option, Some, None, if◌then◌else◌}
use Rattle.std.specs.Str.{bytes_eq}
use Rattle.pg_base.specs.declared.kind.Kind.{Kind}
use Rattle.pg_base.specs.declared.kind.Kind.TheVariants.{MakerBreaker, MakerMaker, AvoiderEnforcer}
use Rattle.pg_base.specs.declared.kind.Kind.TheVariants.{Switching}

-- how files and texts name a kind
abbrev pub kind_word : Kind → List ℕ
kind_word MakerBreaker = codes "maker-breaker"
kind_word MakerMaker = codes "maker-maker"
kind_word AvoiderEnforcer = codes "avoider-enforcer"
kind_word Switching = codes "switching"

-- the kind that a word names
abbrev pub kind_of : List ℕ → Option Kind
kind_of word = if bytes_eq (kind_word MakerBreaker) word
    then Some MakerBreaker
    else if bytes_eq (kind_word MakerMaker) word
    then Some MakerMaker
    else if bytes_eq (kind_word AvoiderEnforcer) word
    then Some AvoiderEnforcer
    else if bytes_eq (kind_word Switching) word
    then Some Switching
    else None
