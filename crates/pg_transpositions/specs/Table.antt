-- What a table of positions keeps.
use Rattle.std.specs.Prelude.{ℕ}
use Rattle.std.specs.HashMap.{hash_map_len}
use Rattle.pg_transpositions.specs.declared.table.Table.{Table}

-- the most positions that it may have
abbrev pub most_of : Table → ℕ
most_of table = table.most

-- how many positions it has
abbrev pub count_of : Table → ℕ
count_of table = hash_map_len table.numbers
