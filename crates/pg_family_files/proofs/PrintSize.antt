-- Printed lines are of words, and not too long.
use Rattle.std.proofs.Common.{◌≡◌, ℕ, suc, ◌+◌, ◌*◌, ◌≤◌, lit<, lit≤, true, List, [], ◌∷◌, ◌++◌}
use Rattle.std.proofs.Common.{length, map, refl, ap, ◌∙◌, arith}
use Rattle.std.specs.Prelude.{nat_lt}
use Rattle.pg_family_files.proofs.Common.{decimal, list_all, flat_map, All, AllByRecursion}
use Rattle.pg_family_files.proofs.Common.{ltb-true, and_parts, length-append, All-tail}
use Rattle.pg_family_files.proofs.Common.{flat_map-append, side_word, Side, Bytes, spelled, is_word}
use Rattle.pg_family_files.proofs.Common.{decimals_are_words, AreSmall, number_words, marked}
use Rattle.std.proofs.lemmas.Fmt.{length-decimal-le}
use Rattle.pg_base.specs.declared.side.Side.TheVariants as sides
use Rattle.pg_files.specs.Key.{key_name as game_key_name}
use Rattle.pg_files.specs.declared.key.Key.{Key as GameKey}
use Rattle.pg_files.proofs.PrintSize.{AreWords, both_words}
use Rattle.pg_family_files.specs.Family.{key_name}
use Rattle.pg_family_files.specs.Print.{header, numbered, worded}
use Rattle.pg_family_files.specs.declared.family.Family.{Family}
use Rattle.pg_family_files.specs.declared.family.Family.TheVariants as families
use Rattle.pg_family_files.specs.declared.family.Key.{Key}
use Rattle.pg_family_files.specs.declared.family.Key.TheVariants as keys

-- ---- lines of words

-- a word of 128 bytes at most
pub record IsShort (w : Bytes) : Type 0 where
  pub word : is_word w ≡ true
  pub few : length w ≤ 128

-- lines of words, with so many bytes at most
pub record AreLinesIn (wss : List (List Bytes)) (room : ℕ) : Type 0 where
  pub words : AllByRecursion AreWords wss
  pub few : length (flat_map spelled wss) ≤ room

are_words : (ws : List Bytes) → AllByRecursion IsShort ws → AreWords ws
are_words [] h = refl
are_words (w ∷ ws) h = rw (h.0.word, are_words ws h.1) refl

behind_len : (ws : List Bytes)
    → AllByRecursion IsShort ws
    → length (flat_map (λ (w : Bytes). 32 ∷ w) ws) ≤ 129 * length ws
behind_len [] h = lit≤ tt
behind_len (w ∷ ws) h =
    let cut : length (w ++ flat_map (λ (w : Bytes). 32 ∷ w) ws)
    ≡ length w + length (flat_map (λ (w : Bytes). 32 ∷ w) ws) =
    length-append w (flat_map (λ (w : Bytes). 32 ∷ w) ws) in
    omega (arith, cut, h.0.few, behind_len ws h.1)

-- a line of at least one word
pub line_in : (w : Bytes) (ws : List Bytes)
    → IsShort w
    → AllByRecursion IsShort ws
    → AreLinesIn ((w ∷ ws) ∷ []) (129 * (1 + length ws))
line_in w ws first others =
    let behind = flat_map (λ (w : Bytes). 32 ∷ w) ws in
    let line = spelled (w ∷ ws) in
    let a : length (line ++ []) ≡ length line + 0 = length-append line [] in
    let b : length line ≡ length (w ++ behind) + 1 = length-append (w ++ behind) (10 ∷ []) in
    let e : length (w ++ behind) ≡ length w + length behind = length-append w behind in
    record {
      words = (are_words (w ∷ ws) (first, others), tt);
      few = omega (arith, a, b, e, first.few, behind_len ws others);
    }

pub both_in : (a b : List (List Bytes)) (m n : ℕ)
    → AreLinesIn a m
    → AreLinesIn b n
    → AreLinesIn (a ++ b) (m + n)
both_in a b m n p q =
    let cut : length (flat_map spelled (a ++ b))
    ≡ length (flat_map spelled a) + length (flat_map spelled b) =
    ap length (flat_map-append spelled a b)
    ∙ length-append (flat_map spelled a) (flat_map spelled b) in
    record { words = both_words a b p.words q.words; few = omega (arith, cut, p.few, q.few) }

-- as many lines as members
pub each_in : {X : Type 0} (words : X → List Bytes) (room : ℕ) (P : X → Type 0) (xs : List X)
    (d : X)
    → ((x : X) → P x → AreLinesIn (words x ∷ []) room)
    → All P xs
    → AreLinesIn (map words xs) (length xs * room)
each_in words room P [] d one all =
    record { words = tt; few = let none : 0 ≤ 0 * room = omega arith in none }
each_in words room P (x ∷ xs) d one all =
    let first = one x (all 0 d (omega arith)) in
    let others = each_in words room P xs d one (All-tail P x xs all) in
    let both = both_in (words x ∷ []) (map words xs) room (length xs * room) first others in
    let more : (length xs + 1) * room ≡ room + length xs * room = grind arith in
    let size : length (x ∷ xs) ≡ length xs + 1 = omega arith in
    record { words = both.words; few = rw size (omega (arith, both.few, more)) }

-- ---- the words of a file

pub key_short : (key : Key) → IsShort (key_name key)
key_short keys.Vertices = record { word = refl; few = lit≤ tt }
key_short keys.Edge = record { word = refl; few = lit≤ tt }
key_short keys.Rows = record { word = refl; few = lit≤ tt }
key_short keys.Target = record { word = refl; few = lit≤ tt }
key_short keys.Vector = record { word = refl; few = lit≤ tt }
key_short keys.X = record { word = refl; few = lit≤ tt }
key_short keys.Y = record { word = refl; few = lit≤ tt }
key_short keys.Turn = record { word = refl; few = lit≤ tt }

side_short : (side : Side) → IsShort (side_word side)
side_short sides.X = record { word = refl; few = lit≤ tt }
side_short sides.Y = record { word = refl; few = lit≤ tt }

decimals_short : (ns : List ℕ) → AreSmall ns → AllByRecursion IsShort (map decimal ns)
decimals_short [] small = tt
decimals_short (n ∷ ns) small =
    let both = and_parts (nat_lt n 1000) (list_all (λ n. nat_lt n 1000) ns) small in
    let below = ltb-true n 1000 both.0 in
    let few : length (decimal n) ≤ 3 =
    length-decimal-le 3 n (lit< tt) (omega (arith, below)) (omega (arith, below)) in
    let one : AreSmall (n ∷ []) = rw both.0 refl in
    let word = (and_parts (is_word (decimal n)) true (decimals_are_words (n ∷ []) one)).0 in
    (record { word = word; few = omega (arith, few) }, decimals_short ns both.1)

length-decimals : (ns : List ℕ) → length (map decimal ns) ≡ length ns
length-decimals [] = refl
length-decimals (n ∷ ns) = ap (λ (k : ℕ). suc k) (length-decimals ns)

pub header_in : (family : Family) → AreLinesIn (header family ∷ []) 258
header_in families.Connectivity = record { words = (refl, tt); few = lit≤ tt }
header_in families.Vectors = record { words = (refl, tt); few = lit≤ tt }

line_of_numbers : (word : Bytes) (ns : List ℕ)
    → IsShort word
    → AreSmall ns
    → AreLinesIn (number_words word ns ∷ []) (129 * (1 + length ns))
line_of_numbers word ns short small =
    let line = line_in word (map decimal ns) short (decimals_short ns small) in
    record { words = line.words; few = omega (arith, line.few, length-decimals ns) }

pub numbers_in : (key : Key) (ns : List ℕ)
    → AreSmall ns
    → AreLinesIn (numbered key ns ∷ []) (129 * (1 + length ns))
numbers_in key ns small = line_of_numbers (key_name key) ns (key_short key) small

pub word_in : (key : Key) (word : Bytes) → IsShort word → AreLinesIn (worded key word ∷ []) 258
word_in key word short = line_in (key_name key) (word ∷ []) (key_short key) (short, tt)

pub turn_in : (turn : Side) → AreLinesIn (worded keys.Turn (side_word turn) ∷ []) 258
turn_in turn = word_in keys.Turn (side_word turn) (side_short turn)

pub marks_in : (key : GameKey) (ns : List ℕ)
    → IsShort (game_key_name key)
    → AreSmall ns
    → length ns ≤ 1024
    → AreLinesIn (marked key ns) 132225
marks_in key [] word small short = record { words = tt; few = lit≤ tt }
marks_in key (n ∷ ns) word small short =
    let line = line_of_numbers (game_key_name key) (n ∷ ns) word small in
    record { words = line.words; few = omega (arith, line.few) }
