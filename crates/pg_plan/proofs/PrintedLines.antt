-- The lines of a printed plan.
use Rattle.std.proofs.Common.{◌≡◌, ◌∙◌, List, [], ◌∷◌, ◌++◌, map, refl, sym, ap, subst}
use Rattle.std.proofs.Common.{append_assoc, arith}
use Rattle.std.specs.Prelude.{codes}
use Rattle.pg_plan.proofs.Common.{AllByRecursion, Bytes, IsWord, all_map, decimal_is_word, flat_map}
use Rattle.pg_plan.proofs.Common.{lines, lines_feed, no_lines, quiet_lacks_feed, spaced}
use Rattle.pg_plan.proofs.Common.{spaced_quiet, spelled}
use Rattle.pg_text.proofs.Decimals.{all_append}
use Rattle.std.specs.Fmt.{decimal}
use Rattle.pg_plan.proofs.Words.{word_by}
use Rattle.pg_plan.specs.Places.{IsPlace, IsStep}
use Rattle.pg_plan.specs.Print.{header, place_words, printed_plan, step_word}
use Rattle.pg_text.proofs.PlainWords.{IsPlain}
use Rattle.pg_plan.specs.declared.place.Place.{Place}
use Rattle.pg_plan.specs.declared.place.Place.TheVariants.{Decided, Game, Image, Moves}
use Rattle.pg_plan.specs.declared.place.Step.{Step}

-- ---- words

step_is_word : (s : Step) → IsStep s → IsWord (step_word s)
step_is_word s is =
    let point = is.point in
    let place = is.place in
    all_append IsPlain (decimal s.point) (58 ∷ decimal s.place)
    (decimal_is_word s.point (omega (arith, point)))
    ((omega arith, omega arith), decimal_is_word s.place (omega (arith, place)))

steps_are_words : (steps : List Step)
    → AllByRecursion IsStep steps
    → AllByRecursion IsWord (map step_word steps)
steps_are_words steps each = all_map step_word IsStep IsWord step_is_word steps each

-- the first word of a line, and the words behind it
pub record AreWords (ws : List Bytes) : Type 0 where
  pub first : Bytes
  pub others : List Bytes
  pub cut : ws ≡ first ∷ others
  pub first_is : IsWord first
  pub others_are : AllByRecursion IsWord others

pub place_are_words : (p : Place) → IsPlace p → AreWords (place_words p)
place_are_words Decided is = record {
  first = codes "decided";
  others = [];
  cut = refl;
  first_is = word_by (codes "decided") refl;
  others_are = tt;
}
place_are_words (Image m j) is =
    let low = is.0 in
    let few = is.1 in
    record {
      first = codes "image";
      others = decimal m ∷ decimal j ∷ [];
      cut = refl;
      first_is = word_by (codes "image") refl;
      others_are = (
        decimal_is_word m (omega (arith, low)),
        (decimal_is_word j (omega (arith, few)), tt),
      );
    }
place_are_words (Game k steps) is =
    let few = is.1 in
    record {
      first = codes "game";
      others = decimal k ∷ map step_word steps;
      cut = refl;
      first_is = word_by (codes "game") refl;
      others_are = (decimal_is_word k (omega (arith, few)), steps_are_words steps is.2);
    }
place_are_words (Moves steps) is = record {
  first = codes "moves";
  others = map step_word steps;
  cut = refl;
  first_is = word_by (codes "moves") refl;
  others_are = steps_are_words steps is;
}

all_words : (ws : List Bytes) → AreWords ws → AllByRecursion IsWord ws
all_words ws are = subst (λ (xs : List Bytes). AllByRecursion IsWord xs) (sym are.cut)
    (are.first_is, are.others_are)

header_are_words : AllByRecursion IsWord header
header_are_words = (word_by (codes "posgame-plan") refl, (word_by (codes "1") refl, tt))

-- ---- lines

-- a line of words before a text
line_cut : (ws : List Bytes) (text : Bytes)
    → AllByRecursion IsWord ws
    → lines (spelled ws ++ text) ≡ spaced ws ∷ lines text
line_cut ws text h =
    let regrouped : spelled ws ++ text ≡ spaced ws ++ 10 ∷ text =
    append_assoc (spaced ws) (10 ∷ []) text in
    ap lines regrouped
    ∙ lines_feed (spaced ws) text (quiet_lacks_feed (spaced ws) (spaced_quiet ws h))

abbrev pub place_text : Place → Bytes
place_text p = spaced (place_words p)

-- the positions are in their ranges
abbrev pub AreInRange : List Place → Type 0
AreInRange places = AllByRecursion IsPlace places

places_cut : (places : List Place)
    → AreInRange places
    → lines (flat_map (λ p. spelled (place_words p)) places) ≡ map place_text places
places_cut [] h = no_lines [] refl
places_cut (p ∷ ps) h =
    line_cut (place_words p) (flat_map (λ q. spelled (place_words q)) ps)
    (all_words (place_words p) (place_are_words p h.0))
    ∙ ap (λ (ls : List Bytes). place_text p ∷ ls) (places_cut ps h.1)

pub plan_cut : (places : List Place)
    → AreInRange places
    → lines (printed_plan places) ≡ codes "posgame-plan 1" ∷ map place_text places
unfolding printed_plan
plan_cut places h =
    line_cut header (flat_map (λ p. spelled (place_words p)) places) header_are_words
    ∙ ap (λ (ls : List Bytes). codes "posgame-plan 1" ∷ ls) (places_cut places h)
