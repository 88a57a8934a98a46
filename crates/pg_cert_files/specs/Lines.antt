-- A text as its whole lines and what stands behind them.
use Rattle.std.specs.Prelude.{ℕ, ◌==◌, if◌then◌else◌, List, [], ◌∷◌, ◌++◌, fold}
use Rattle.pg_cert_files.specs.Prelude.{LINE_FEED, Bytes}

-- a text as its whole lines, and what stands after the last line feed
pub record Cut : Type 0 where
  -- the lines that have their line feed
  pub whole : List Bytes
  pub rest : Bytes

-- one byte more
abbrev pub with_byte : Cut → ℕ → Cut
with_byte c b = if b == LINE_FEED
    then record { whole = c.whole ++ c.rest ∷ []; rest = [] }
    else record c { rest = c.rest ++ b ∷ [] }

-- the text, byte for byte
unfoldable pub cut : Bytes → Cut
cut text = fold with_byte (record { whole = []; rest = [] }) text
