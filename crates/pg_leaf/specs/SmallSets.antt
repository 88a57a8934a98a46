-- Sets of points below 256, as four words.
use Rattle.std.specs.Prelude.{◌≡◌, ℕ, ◌<◌, ◌^◌, true, List, length, get_or, map}
use Rattle.std.proofs.Common.{sym, ap, ◌∙◌, arith, ext_get_or}
use Rattle.std.proofs.lemmas.List.FromFn.{get_or-map-range_with_len, length-map-range_with_len}
use Rattle.std.specs.FinSet.{FinSet}
use Rattle.std.specs.List.{range_with_len}
use Rattle.std.specs.Ordering.{nat_cmp}
use Rattle.pg_base.specs.Words.{members_below, word_of}
use Rattle.pg_base.specs.WordLemmas.{word_of-members}
use Rattle.pg_base.specs.PointLemmas.{equal, equal-decides, words_hash_input}
use Rattle.pg_game.specs.declared.bounds.TheConstants.{MAX_POINTS}

-- four words of 64 bits
pub record AreFourWords (ws : List ℕ) : Type 0 where
  pub count : length ws ≡ 4
  pub fit : (i : ℕ) → get_or ws i 0 < 2 ^ 64

-- the words of the set's points below 256
unfoldable pub four_words_of : FinSet nat_cmp → List ℕ
four_words_of s = map (word_of s) (range_with_len 0 4)

pub four_words_of-members : (ws : List ℕ)
    → AreFourWords ws
    → four_words_of (members_below ws MAX_POINTS) ≡ ws
unfolding four_words_of
four_words_of-members ws h =
    let s = members_below ws MAX_POINTS in
    let len : length (four_words_of s) ≡ 4 = length-map-range_with_len (word_of s) 0 4 in
    ext_get_or 0 _ _ (len ∙ sym h.count) (λ i lt.
    let within : i < 4 = omega arith in
    get_or-map-range_with_len (word_of s) 0 4 i i 0 within (omega arith)
    ∙ word_of-members ws 4 i (h.fit i) within)

-- what is hashed of a set
abbrev pub hash_input : FinSet nat_cmp → List (List ℕ)
hash_input s = words_hash_input (four_words_of s)

pub hash_input-respects : (s t : FinSet nat_cmp) → equal s t ≡ true → hash_input s ≡ hash_input t
hash_input-respects s t h = ap hash_input ((equal-decides s t).0 h)
