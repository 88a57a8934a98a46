-- Scores that are said are values.
use Rattle.std.proofs.Common.{◌≡◌, ◌≢◌, ◌⊎◌, ◌∙◌, ℕ, List, [], ◌∷◌, ◌++◌, get_or, length}
use Rattle.std.proofs.Common.{Option, Some, None, Result, Ok, Err, refl, sym, ap, subst, inl, inr}
use Rattle.std.specs.Prelude.{IfSome}
use Rattle.pg_settle.proofs.Common.{Bytes, Class, ConsoleTold, Contains, DeclinesGame, Delivers}
use Rattle.pg_settle.proofs.Common.{Done, End, Entry, Failed, FilesTold, Finished, Game, Grows}
use Rattle.pg_settle.proofs.Common.{Halt, Holding, Refusal, Said, SaysGame, Score}
use Rattle.pg_settle.proofs.Common.{Starved, append_cancel_left, apart, ending}
use Rattle.pg_settle.proofs.Common.{Contains-append_left, expanded_text, first_or_later, game_held}
use Rattle.pg_settle.proofs.Common.{held_there, node_count, none_of, one_of, refusal_text}
use Rattle.pg_settle.proofs.Common.{result_text, said_is, start, unsaid, value}
use Rattle.pg_files.specs.GameFile.{Entry as GameEntry, game}
use Rattle.pg_io.specs.Files.{Making}
use Rattle.pg_messages.specs.declared.refusal.Refusal.TheVariants as refusals
use Rattle.pg_solve.specs.declared.solution.Class.TheVariants.{Cut, First, Short}
use Rattle.serde_json.proofs.OnLiterals.{serde_json_on_literals}
use Rattle.pg_settle.specs.JsonLines.{json_line, value_data}
use Rattle.pg_settle.specs.Outputs.{class_texts, open_text, score_texts}
use Rattle.pg_settle.specs.Runs.{Allows, AnnouncesValue, IsLineOf, Ran, RanOn, SaysValue, Settles}
use Rattle.pg_settle.specs.Settling.{DeliversScore, Form, SettlesGame, SettlesLines}
use Rattle.pg_settle.specs.Settling.{SettlesSwitching}
use Rattle.pg_settle.specs.declared.budget.Budget.{Budget}
use Rattle.pg_settle.specs.declared.finding.Outcome.{Outcome}

-- ---- texts that say no score

-- by its third letter the text says no score, and by its first or its twelfth it is no line of JSON
-- that says one
pub record IsOther (text : Bytes) : Type 0 where
  pub unscored : get_or text 2 0 ≢ 115
  pub unlined : (get_or text 0 0 ≢ 123) ⊎ (get_or text 11 0 ≢ 118)

abbrev AllOther : List Entry → Type 0
AllOther entries = (text : Bytes) → Contains entries (Said text) → IsOther text

line_begins : (name : Bytes) (g : Game) (score : Score) (nodes expanded size : ℕ)
    → get_or (json_line (value_data name g score nodes expanded size)) 0 0 ≡ 123
unfolding serde_json_on_literals
line_begins name g score nodes expanded size = refl

line_goes_on : (name : Bytes) (g : Game) (score : Score) (nodes expanded size : ℕ)
    → get_or (json_line (value_data name g score nodes expanded size)) 11 0 ≡ 118
unfolding serde_json_on_literals
line_goes_on name g score nodes expanded size = refl

-- a text that is no line of JSON that says a score
no_line : (g : Game) (score : Score) (text : Bytes)
    → (get_or text 0 0 ≢ 123) ⊎ (get_or text 11 0 ≢ 118)
    → IsLineOf g score text
    → ⊥
no_line g score text (inl other) (name, nodes, expanded, size, is) = other
    (ap (λ (t : Bytes). get_or t 0 0) is ∙ line_begins name g score nodes expanded size)
no_line g score text (inr other) (name, nodes, expanded, size, is) = other
    (ap (λ (t : Bytes). get_or t 11 0) is ∙ line_goes_on name g score nodes expanded size)

others_say : (bytes : Option Bytes) (entries : List Entry)
    → AllOther entries
    → SaysValue bytes entries
others_say bytes entries others = record {
  score = λ kind score among. absurd ((others (result_text kind score) among).unscored refl);
  line = λ h score text is among. absurd (no_line h score text (others text among).unlined is);
}

-- a text of another first letter
plain : (text : Bytes) → get_or text 2 0 ≢ 115 → get_or text 0 0 ≢ 123 → IsOther text
plain text unscored first = record { unscored = unscored; unlined = inl first }

one_other : (only text : Bytes) → Contains (only ∷ []) text → IsOther only → IsOther text
one_other only text among other = subst IsOther (one_of only text among) other

refusal_other : (refusal : Refusal) → IsOther (refusal_text refusal)
refusal_other refusals.NoMeaning = plain _ (apart _ 115 refl) (apart _ 123 refl)
refusal_other (refusals.NoClaim side) = plain _ (apart _ 115 refl) (apart _ 123 refl)
refusal_other (refusals.Game number line) = plain _ (apart _ 115 refl) (apart _ 123 refl)
refusal_other (refusals.Certificate number line) = plain _ (apart _ 115 refl) (apart _ 123 refl)
refusal_other (refusals.Rejected claim node why) = plain _ (apart _ 115 refl) (apart _ 123 refl)
refusal_other (refusals.RejectedSpan claim why) = plain _ (apart _ 115 refl) (apart _ 123 refl)
refusal_other (refusals.RejectedVectors claim node why) =
    plain _ (apart _ 115 refl) (apart _ 123 refl)
refusal_other (refusals.RejectedImage claim node why) =
    plain _ (apart _ 115 refl) (apart _ 123 refl)
refusal_other (refusals.Record number line) = plain _ (apart _ 115 refl) (apart _ 123 refl)

class_other : (json : Option Bytes) (g : Game) (class : Class) (nodes size : ℕ) (text : Bytes)
    → Contains (class_texts json g class nodes size) text
    → IsOther text
unfolding serde_json_on_literals
class_other None g Short nodes size text among =
    one_other _ text among (plain _ (apart _ 115 refl) (apart _ 123 refl))
class_other None g Cut nodes size text among =
    one_other _ text among (plain _ (apart _ 115 refl) (apart _ 123 refl))
class_other None g First nodes size text among =
    one_other _ text among (plain _ (apart _ 115 refl) (apart _ 123 refl))
class_other (Some name) g class nodes size text among = one_other _ text among
    (record { unscored = apart _ 115 refl; unlined = inr (apart _ 118 refl) })

open_other : (json : Option Bytes) (g : Game) (expanded : ℕ) → IsOther (open_text json g expanded)
unfolding serde_json_on_literals
open_other None g expanded = plain _ (apart _ 115 refl) (apart _ 123 refl)
open_other (Some name) g expanded =
    record { unscored = apart _ 115 refl; unlined = inr (apart _ 118 refl) }

-- nothing was said
silent_other : (entries : List Entry) → entries ≡ [] → AllOther entries
silent_other entries none text among =
    absurd (none_of (Said text) (subst (λ (l : List Entry). Contains l (Said text)) none among))

-- one text was said
single_other : (entries : List Entry) (said : Bytes)
    → entries ≡ Said said ∷ []
    → IsOther said
    → AllOther entries
single_other entries said is other text among =
    let here = one_of (Said said) (Said text)
    (subst (λ (l : List Entry). Contains l (Said text)) is among) in
    subst IsOther (said_is said text here) other

-- what was said after a file was stored is one of the texts
said_of : (file : Making) (texts : List Bytes) (done : Done) (end : End)
    → Delivers file texts done end
    → (text : Bytes) → Contains done.entries (Said text)
    → Contains texts text
said_of file texts done (Finished status) (is, status_is) text among =
    unsaid texts text (subst (λ (d : Done). Contains d.entries (Said text)) is among)
said_of file texts done Failed (front, (next, rest, whole), is) text among =
    subst (λ (l : List Bytes). Contains l text) (sym whole)
    (Contains-append_left front (next ∷ rest) text
    (unsaid front text (subst (λ (d : Done). Contains d.entries (Said text)) is among)))
said_of file texts done Starved none text among = absurd none

-- ---- what settling says

module _ (bytes : Option Bytes) (g : Game) (says : SaysGame bytes g) (form : Form)
    (name : Bytes) where
  switching_says : (done : Done) (end : End)
      → SettlesSwitching form g name done end
      → SaysValue bytes done.entries
  switching_says done end (class, c, shows, text, kept, delivers) =
      others_say bytes done.entries (λ said among.
      class_other form.json g class (node_count c.claims) (length text) said
      (said_of (name, text) (class_texts form.json g class (node_count c.claims) (length text)) done
      end delivers said among))

  module _ (Brings : Game → Budget → Outcome → Type 0) (budget : Budget) where
    -- the texts of a score that is the value
    texts_say : (json : Option Bytes) (score : Score) (nodes expanded size : ℕ)
        → value g (start g) ≡ score
        → (entries : List Entry)
        → ((text : Bytes) → Contains entries (Said text)
        → Contains (score_texts json g score nodes expanded size) text)
        → SaysValue bytes entries
    unfolding serde_json_on_literals
    texts_say None score nodes expanded size holds entries all = record {
      score = λ kind other among.
          elim (first_or_later (result_text g.kind score)
          (expanded_text expanded nodes ∷ []) (result_text kind other)
          (all (result_text kind other) among)) as (λ _. (h : Game) × SaysGame bytes h
          × (result_text kind other ≡ result_text h.kind (value h (start h)))) [
            | inl here ↦ (
              g,
              says,
              sym here ∙ ap (λ (s : Score). result_text g.kind s) (sym holds),
            )
            | inr later ↦
                let last =
                one_of (expanded_text expanded nodes) (result_text kind other) later in
                let unscored : get_or (result_text kind other) 2 0 ≢ 115 =
                subst (λ (t : Bytes). get_or t 2 0 ≢ 115) last (apart _ 115 refl) in
                absurd (unscored refl)
          ];
      line = λ h other text is among.
          absurd (no_line h other text (inl (elim (first_or_later (result_text g.kind score)
          (expanded_text expanded nodes ∷ []) text (all text among))
          as (λ _. get_or text 0 0 ≢ 123) [
            | inl here ↦
                subst (λ (t : Bytes). get_or t 0 0 ≢ 123) here (apart _ 123 refl)
            | inr later ↦ subst (λ (t : Bytes). get_or t 0 0 ≢ 123)
                (one_of (expanded_text expanded nodes) text later) (apart _ 123 refl)
          ])) is);
    }
    texts_say (Some own) score nodes expanded size holds entries all = record {
      score = λ kind other among.
          let here = one_of (json_line (value_data own g score nodes expanded size))
          (result_text kind other) (all (result_text kind other) among) in
          let unscored : get_or (result_text kind other) 2 0 ≢ 115 =
          subst (λ (t : Bytes). get_or t 2 0 ≢ 115) here (apart _ 115 refl) in
          absurd (unscored refl);
      line = λ h other text is among.
          let here = one_of (json_line (value_data own g score nodes expanded size)) text
          (all text among) in (
            g,
            says,
            (
              own,
              nodes,
              expanded,
              size,
              sym here ∙ ap (λ (s : Score). json_line (value_data own g s nodes expanded size))
                  (sym holds),
            ),
          );
    }

    score_says : (done : Done) (end : End)
        → DeliversScore Brings form g name budget done end
        → SaysValue bytes done.entries
    score_says done end (score, c, expanded, shows, answer, text, kept, delivers) =
        texts_say form.json score (node_count c.claims) expanded (length text) shows.holds
        done.entries (λ said among. said_of (name, text)
        (score_texts form.json g score (node_count c.claims) expanded (length text)) done end
        delivers said among)

    lines_say : (done : Done) (end : End)
        → SettlesLines Brings form g name budget done end
        → SaysValue bytes done.entries
    lines_say done (Finished status) (inl stays) = others_say bytes done.entries
        (single_other done.entries (open_text form.json g stays.expanded) stays.said
        (open_other form.json g stays.expanded))
    lines_say done (Finished status) (inr delivers) = score_says done (Finished status) delivers
    lines_say done Failed delivers = score_says done Failed delivers
    lines_say done Starved none = absurd none

    game_says : (done : Done) (end : End)
        → SettlesGame Brings form g name budget done end
        → SaysValue bytes done.entries
    game_says done end (inl switching) = switching_says done end switching.1
    game_says done end (inr lines) = lines_say done end lines.1

-- ---- a run

module _ (Brings : Game → Budget → Outcome → Type 0) (form : Form) (game_name name : Bytes)
    (budget : Budget) where
  settles_say : (bytes : Option Bytes) (done : Done) (end : End)
      → Settles Brings form (game_held bytes) name budget done end
      → SaysValue bytes done.entries
  settles_say bytes done end settles = go (game_held bytes) refl settles where
    go : (r : Result GameEntry Halt)
        → game_held bytes ≡ r
        → Settles Brings form r name budget done end
        → SaysValue bytes done.entries
    go (Err halt) e settles = absurd settles
    go (Ok x) e (g, said, settles) =
        let there = held_there _ game bytes x e in
        let says : SaysGame bytes g = record {
          text = there.0;
          held = there.1;
          said = there.2 ∙ ap (λ (y : GameEntry). Ok y) (sym said);
        } in
        game_says bytes g says form name Brings budget done end settles

  declines_say : (held : Holding) (done : Done) (end : End)
      → DeclinesGame held game_name done end
      → SaysValue (held game_name) done.entries
  declines_say held done (Finished status) (refusal, refuses, says, stored, is) =
      others_say (held game_name) done.entries
      (single_other done.entries (refusal_text refusal) says (refusal_other refusal))
  declines_say held done Failed none =
      others_say (held game_name) done.entries (silent_other done.entries none.0)
  declines_say held done Starved none =
      others_say (held game_name) done.entries (silent_other done.entries none.0)

  allowed_says : (held : Holding) (done : Done) (end : End)
      → Allows Brings form held game_name name budget done end
      → SaysValue (held game_name) done.entries
  allowed_says held done end (inl declines) = declines_say held done end declines
  allowed_says held done end (inr settles) = settles_say (held game_name) done end settles

  said_more : (before after : Option (List Entry)) (earlier entries more : List Entry)
      → before ≡ Some earlier
      → after ≡ Some (earlier ++ entries)
      → Grows before after more
      → more ≡ entries
  said_more None after earlier entries more before_is after_is grows = absurd (cc before_is)
  said_more (Some old) after earlier entries more before_is after_is grows =
      let same : old ≡ earlier = cc before_is in
      let whole : earlier ++ more ≡ earlier ++ entries =
      cc (subst (λ (l : List Entry). after ≡ Some (l ++ more)) same grows, after_is) in
      append_cancel_left earlier more entries whole

  pub announced : (files files' : FilesTold) (before after : ConsoleTold) (status : ℕ)
      → Ran Brings form game_name name budget files files' before after status
      → AnnouncesValue files.held game_name before.log after.log
  announced files files' before after status ran held earlier entries told before_is after_is =
      let ran_on = subst (λ (h : Option Holding). IfSome h (λ held.
      RanOn Brings form held game_name name budget files' before after (ending status)))
      told ran in
      subst (λ (l : List Entry). SaysValue (held game_name) l)
      (said_more before.log after.log earlier entries ran_on.0.entries before_is after_is
      ran_on.2.talked.logged) (allowed_says held ran_on.0 (ending status) ran_on.1)
