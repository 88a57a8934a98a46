-- A text is its first line and then the lines behind its line feed.
use Rattle.std.proofs.Common.{◌≡◌, ℕ, ◌<◌, ◌≤◌, Bool, false, List, [], ◌∷◌, ◌++◌, length}
use Rattle.std.proofs.Common.{eqb, arith, refl, ap, ◌∙◌}
use Rattle.std.specs.Prelude.{◌==◌}
use Rattle.pg_text.proofs.Common.{slice_split, position_or_len, after_first}
use Rattle.pg_text.proofs.Common.{All, nat_tests, length-append}
use Rattle.pg_text.proofs.Common.{length-drop, slice_split_at, slice_split_none}
use Rattle.pg_text.proofs.Common.{length-slice_split, fails_before_first, LINE_FEED}
use Rattle.pg_text.specs.Text.{Bytes, Lacks, without_empty_end, lines}

abbrev pub is_feed : ℕ → Bool
is_feed b = b == LINE_FEED

without_empty_end-cons : (part : Bytes) (parts : List Bytes)
    → 0 < length parts
    → without_empty_end (part ∷ parts) ≡ part ∷ without_empty_end parts
without_empty_end-cons part [] h = absurd (omega arith)
without_empty_end-cons part (next ∷ parts) h = refl

pub without_empty_end-append : (front : List Bytes) (last : Bytes)
    → without_empty_end (front ++ last ∷ []) ≡ front ++ without_empty_end (last ∷ [])
without_empty_end-append [] last = refl
without_empty_end-append (part ∷ front) last = without_empty_end-cons part (front ++ last ∷ [])
    (omega (arith, length-append front (last ∷ [])))
    ∙ ap (λ (x : List Bytes). part ∷ x) (without_empty_end-append front last)

no_feed : (text : Bytes)
    → length text ≤ position_or_len is_feed text
    → All (λ b. is_feed b ≡ false) text
no_feed text past = λ i d lt. fails_before_first is_feed text i d (omega arith)

pub one_line : (text : Bytes) → 0 < length text → without_empty_end (text ∷ []) ≡ text ∷ []
one_line [] h = absurd (omega arith)
one_line (b ∷ bs) h =
    let e : eqb (length (b ∷ bs)) 0 ≡ false = grind (arith, nat_tests) in
    rw e refl

-- a whole line, and then the text behind its line feed
pub lines_feed : (line behind : Bytes)
    → Lacks LINE_FEED line
    → lines (line ++ LINE_FEED ∷ behind) ≡ line ∷ lines behind
unfolding lines
lines_feed line behind lacks =
    ap without_empty_end (slice_split_at is_feed line LINE_FEED behind lacks refl)
    ∙ without_empty_end-cons line (slice_split is_feed behind)
    (omega (arith, length-slice_split is_feed behind))

-- a text without bytes has no line
pub no_lines : (text : Bytes) → length text ≡ 0 → lines text ≡ []
unfolding lines
no_lines [] none = refl
no_lines (b ∷ bs) none = absurd (omega arith)

-- a text without a line feed is a line
pub last_line : (text : Bytes)
    → 0 < length text
    → Lacks LINE_FEED text
    → lines text ≡ text ∷ lines []
unfolding lines
last_line text some lacks =
    ap without_empty_end (slice_split_none is_feed text lacks) ∙ one_line text some

pub shorter : (text : Bytes) → 0 < length text → length (after_first is_feed text) < length text
shorter text some = simp length-drop (omega arith)
