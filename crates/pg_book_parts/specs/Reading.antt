-- What is read off pages: the identities of sections, and where links lead.
use Rattle.std.specs.Prelude.{List, [], ◌∷◌}
use Rattle.std.specs.List.{flat_map}
use Rattle.pg_base.specs.Texts.{Bytes}
use Rattle.pg_page.specs.declared.attribute.Attribute.{Attribute}
use Rattle.pg_page.specs.declared.attribute.Name.{Name}
use Rattle.pg_page.specs.declared.attribute.Name.TheVariants as names
use Rattle.pg_page.specs.declared.piece.Piece.{Piece}
use Rattle.pg_page.specs.declared.piece.Piece.TheVariants as pieces
use Rattle.pg_page.specs.declared.tag.Tag.TheVariants as tags

-- the value, if it is an identity
abbrev pub id_by : Name → Bytes → List Bytes
id_by names.Id value = value ∷ []
id_by _ value = []

-- the value, if it says where a link leads
abbrev pub target_by : Name → Bytes → List Bytes
target_by names.Href value = value ∷ []
target_by _ value = []

abbrev pub id_in : Attribute → List Bytes
id_in a = id_by a.name a.value

abbrev pub target_in : Attribute → List Bytes
target_in a = target_by a.name a.value

-- the identities of sections
abbrev pub section_ids : Piece → List Bytes
section_ids (pieces.Open tags.Section attributes) = flat_map id_in attributes
section_ids _ = []

-- where links lead
abbrev pub targets : Piece → List Bytes
targets (pieces.Open tag attributes) = flat_map target_in attributes
targets (pieces.Lone tag attributes) = flat_map target_in attributes
targets _ = []
