-- The text of a record.
use Rattle.std.specs.Prelude.{List, [], ◌∷◌, ◌++◌, codes}
use Rattle.pg_record.specs.Prelude.{decimal, flat_map, Bytes, spelled}
use Rattle.pg_record.specs.declared.event.Event.{Event}
use Rattle.pg_record.specs.declared.event.Event.TheVariants.{Play, Back}

-- the words of the first line
abbrev pub header : List Bytes
header = codes "posgame-record" ∷ codes "1" ∷ []

-- the words of an event's line
abbrev pub event_words : Event → List Bytes
event_words (Play v) = codes "move" ∷ decimal v ∷ []
event_words Back = codes "back" ∷ []

-- the text of a record: a first line, and a line for each event
unfoldable pub printed_record : List Event → Bytes
printed_record events = spelled header ++ flat_map (λ e. spelled (event_words e)) events
