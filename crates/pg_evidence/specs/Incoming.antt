-- A certificate that comes piece by piece, while it isn't known yet in which form.
use Rattle.std.specs.Prelude.{◌≡◌, Bool, true, false, ◌||◌, nat_lt, ◌++◌, length, take, Option}
use Rattle.std.specs.Prelude.{Some, None}
use Rattle.pg_evidence.specs.Prelude.{Bytes, Game}
use Rattle.pg_image.specs.Gathering.{Gathers}
use Rattle.pg_image.specs.Shortened.{AreAlike}
use Rattle.pg_image.specs.declared.image_gathering.ImageGathering.{ImageGathering}
use Rattle.pg_judge.specs.Judged.{StandsFor as HasBeenFed}
use Rattle.pg_evidence.specs.Evidence.{has_images}
use Rattle.pg_evidence.specs.declared.first_line.TheConstants.{FIRST_LINE_BYTES}
use Rattle.pg_evidence.specs.declared.incoming.Incoming.{Incoming}
use Rattle.pg_evidence.specs.declared.kept.Kept.{Kept}

-- the text has images, or is so short that it may go on as one that has
abbrev pub may_have_images : Bytes → Bool
may_have_images text = nat_lt (length text) FIRST_LINE_BYTES || has_images text

-- however the text goes on, it has no images
abbrev pub HasNoImages : Bytes → Type 0
HasNoImages text = (rest : Bytes) → has_images (text ++ rest) ≡ false

-- ---- what is kept

-- of the text the lines of the second one were gathered, unless it has no images
abbrev pub IsGathered : Option ImageGathering → Bytes → Bytes → Type 0
IsGathered (Some g) text short = Gathers g text short
IsGathered None text short = HasNoImages text

-- the first bytes of the text were kept, and the lines of the second one were gathered
pub record IsKept (k : Kept) (text short : Bytes) : Type 0 where
  pub first : k.first.items ≡ take FIRST_LINE_BYTES text
  pub gathered : IsGathered k.gathering text short

-- the lines of a text were gathered that is like the second
pub record IsCut (o : Option ImageGathering) (text short : Bytes) : Type 0 where
  pub shorter : Bytes
  pub gathered : IsGathered o text shorter
  pub alike : AreAlike short shorter

pub record IsKeptShort (k : Kept) (text short : Bytes) : Type 0 where
  pub shorter : Bytes
  pub kept : IsKept k text shorter
  pub alike : AreAlike short shorter

-- what was gathered of the text, where it has images
abbrev pub IsShown : Option ImageGathering → Bytes → Bytes → Type 0
IsShown (Some g) text short = Gathers g text short × (has_images text ≡ true)
IsShown None text short = has_images text ≡ false

-- ---- what came

-- this text came; what is kept is like it
pub record HasTaken (i : Incoming) (text : Bytes) : Type 0 where
  pub judged : HasBeenFed i.judging text
  pub kept : IsKeptShort i.kept text text

-- some text came
pub record IsComing (i : Incoming) : Type 0 where
  pub text : Bytes
  pub taken : HasTaken i text

-- the game for which it is judged
abbrev pub game_of : Incoming → Game
game_of i = i.judging.told.checking.game.now

-- from the first state to the second, these bytes came
pub record HasCome (first now : Incoming) (bytes : Bytes) : Type 0 where
  pub game : game_of now ≡ game_of first
  pub taken : (text : Bytes) → HasTaken first text → HasTaken now (text ++ bytes)
