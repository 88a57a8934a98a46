-- A RUN OF `posgame-draw`.
use Rattle.std.specs.Prelude.{◌≡◌, ℕ, if◌then◌else◌, List, [], ◌∷◌, codes, None}
use Rattle.std.specs.List.{Contains}
use Rattle.std.specs.Str.{bytes_eq}
use Rattle.pg_binding.specs.Books.{book_held}
use Rattle.pg_binding.specs.Runs.{Ran as BookRan, book_statuses}
use Rattle.pg_io.specs.Console.{Grows}
use Rattle.pg_io.specs.Files.{Bytes, ReadsOnly}
use Rattle.pg_drawing.specs.Orders.{order_of}
use Rattle.pg_drawing.specs.Runs.{IsLacking, IsStopped, Ran, statuses_of}
use Rattle.pg_captions.specs.Look.{whole_look}
use Rattle.pg_talk.specs.Halts.{HasCause}
use Rattle.pg_talk.specs.Reading.{IsLackingTwo}
use Rattle.pg_answering.specs.Machine.{Told}

-- the picture that words ask for is printed, with numbers, lines and a legend: each clause of
-- `draw` of `pg_drawing` holds
pub record DrawsPicture (words : List Bytes) (before after : Told) (status : ℕ) : Type 0 where
  pub ran : Ran whole_look (order_of words) before.files.held before.console after.console status
  pub silent : IsStopped status → Grows before.console.log after.console.log []
  pub statuses : Contains (statuses_of (order_of words)) status
  pub files : ReadsOnly before.files after.files
  pub input : after.console.left ≡ before.console.left
  pub causes : HasCause (IsLacking before.files.held (order_of words)) before.files after.files
      before.console after.console status

-- the whole proof of the certificate under the second name is printed as a book, for the game under
-- the first: each clause of `bind` of `pg_binding` holds
pub record PrintsBook (game certificate : Bytes) (before after : Told) (status : ℕ) : Type 0 where
  pub ran : BookRan game certificate None None before.files.held before.console after.console status
  pub silent : IsStopped status → Grows before.console.log after.console.log []
  pub statuses : Contains book_statuses status
  pub files : ReadsOnly before.files after.files
  pub input : after.console.left ≡ before.console.left
  pub causes : HasCause (IsLackingTwo book_held before.files.held game certificate)
      before.files after.files before.console after.console status

-- what is asked for: the book of a game and a certificate, or the picture of words
pub data Sheet : Type 0 where
  Book : Bytes → Bytes → Sheet
  Picture : List Bytes → Sheet

-- what arguments ask for: a book if the first of three is `--book`
abbrev pub sheet_of : List Bytes → Sheet
sheet_of (word ∷ game ∷ certificate ∷ []) = if bytes_eq (codes "--book") word
    then Book game certificate
    else Picture (word ∷ game ∷ certificate ∷ [])
sheet_of words = Picture words

-- a run that prints this takes files and console from the first state to the second, and ends with
-- this status
abbrev pub Draws : Sheet → Told → Told → ℕ → Type 0
Draws (Book game certificate) before after status = PrintsBook game certificate before after status
Draws (Picture words) before after status = DrawsPicture words before after status
