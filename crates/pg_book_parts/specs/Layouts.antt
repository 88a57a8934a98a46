-- Where the points of a game lie.
use Rattle.std.specs.Prelude.{ℕ}
use Rattle.pg_draw.specs.Shapes.{place_of}
use Rattle.pg_picture.specs.declared.shape.Place.{Place}
use Rattle.pg_book_parts.specs.declared.layout.Layout.{Layout}

-- the place of a point, as pictures have it
abbrev pub place_at : Layout → ℕ → Place
place_at layout v = place_of layout.board layout.courses v
