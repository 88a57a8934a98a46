-- Files in memory, by their list of names and bytes: of several with one name the first counts.
use Rattle.std.specs.Prelude.{ℕ, Bool, List, [], drop, slice_get, Option, Some, None, is_some}
use Rattle.std.specs.Option.{option_map, unwrap_or}
use Rattle.std.specs.List.{find}
use Rattle.std.specs.Str.{bytes_eq}
use Rattle.pg_io.specs.Causes.{faults}
use Rattle.pg_io.specs.Files.{Bytes, Holding, Making, FilesTold}
use Rattle.pg_io.specs.declared.mem_files.MemFiles.{MemFiles}
use Rattle.pg_io.specs.declared.mem_files.Draft.{Draft}

-- whether the file has this name
abbrev pub has_name : Bytes → Bytes × Bytes → Bool
has_name name file = bytes_eq file.0 name

-- the bytes of the first file with the name
unfoldable pub held_by : List (Bytes × Bytes) → Holding
held_by files name = option_map (λ f. f.1) (find (has_name name) files)

-- the bytes of the file at a place
abbrev pub contents : List (Bytes × Bytes) → Option ℕ → Bytes
contents files None = []
contents files (Some place) = unwrap_or (option_map (λ f. f.1) (slice_get files place)) []

-- what is unread of the file at a place, from an offset on
abbrev pub unread : List (Bytes × Bytes) → Option ℕ → ℕ → Bytes
unread files opened from = drop from (contents files opened)

-- the bytes under each name
abbrev pub held_in : MemFiles → Holding
held_in m = held_by m.files.items

-- what is unread of the open file
abbrev pub left_in : MemFiles → Bytes
left_in m = unread m.files.items m.opened m.from

-- the file that is being made, if one is
abbrev pub making_of : Option Draft → Option Making
making_of draft = option_map (λ d. (d.name, d.bytes.items)) draft

-- all that is told of the files
abbrev pub told_by : MemFiles → FilesTold
told_by m = record {
  held = Some (held_in m);
  left = Some (left_in m);
  making = making_of m.draft;
  busy = is_some m.draft;
  faults = faults m.reads m.writes;
}
