-- The values of the code, without where they lie in memory.
use Rattle.std.specs.Prelude.{option_map}
use Rattle.pg_text.specs.Text.{words_of}
use Rattle.pg_image.specs.ImageFile.{Draft}
use Rattle.pg_image.specs.ImageLine.{ImageLine}
use Rattle.pg_image.specs.declared.draft.ImageDraft.{ImageDraft}
use Rattle.pg_image.specs.declared.image_line.ImageWords.{ImageWords}

-- what a draft in memory says
abbrev pub view : ImageDraft → Draft
view d = record {
  progress = d.progress;
  whole = d.claims.items;
  head = d.head;
  nodes = d.nodes.items;
}

-- what the line of an image says
abbrev pub line_view : ImageWords → ImageLine
line_view l = record {
  x = l.x.now;
  y = l.y.now;
  turn = l.turn.now;
  words = words_of (option_map (λ w. w.now) l.words);
}
