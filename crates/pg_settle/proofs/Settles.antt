-- Settling, put together.
use Rattle.std.proofs.Common.{◌≡◌, ◌≢◌, ℕ, Bool, true, false, List, [], ◌∷◌, Option, Some, None}
use Rattle.std.proofs.Common.{Result, Ok, Err}
use Rattle.std.proofs.Common.{length, refl, sym, ap, subst, inl, inr}
use Rattle.std.specs.Prelude.{IfSome}
use Rattle.pg_settle.proofs.Common.{Bytes, Cert, Class, ConsoleTold, Delivers, Does, Done, End}
use Rattle.pg_settle.proofs.Common.{Failed, FilesTold, Finished, Follows, Game, Grows, Halt}
use Rattle.pg_settle.proofs.Common.{Holding, IsFileOf, OpensGame, Refusal, Refused, Said, Score}
use Rattle.pg_settle.proofs.Common.{Starved, Stopped, UNKNOWN, follows_more, game_held, kept}
use Rattle.pg_settle.proofs.Common.{node_count, runs_halt, stop_end, talk, talked_texts}
use Rattle.pg_files.specs.GameFile.{Entry as GameEntry}
use Rattle.pg_base.specs.declared.kind.Kind.TheVariants.{Switching}
use Rattle.pg_solve.specs.declared.solution.Solution.TheVariants.{Class as ForClass}
use Rattle.pg_results.proofs.Differing.{solution_differs}
use Rattle.pg_settle.specs.Findings.{IsAnswer, IsKeptAs, ShowsValue}
use Rattle.pg_settle.specs.Runs.{Carries, Settles}
use Rattle.pg_settle.specs.Settling.{SettlesGame, SettlesLines, SettlesSwitching, ShowsClass}
use Rattle.pg_settle.specs.Outputs.{class_texts, open_text, score_texts}
use Rattle.pg_settle.specs.Settling.{Form, outcome_of}
use Rattle.pg_settle.specs.declared.budget.Budget.{Budget}
use Rattle.pg_settle.specs.declared.finding.Finding.TheVariants.{Certificate, Open}
use Rattle.pg_settle.specs.declared.finding.Outcome.{Outcome}

-- ---- a switching game

-- nodes that show a class differ, so its file is that of solving
pub class_file : (images : Bool) (g : Game) (class : Class) (c : Cert) (text : Bytes)
    → ShowsClass g class c
    → IsKeptAs images g c text
    → IsFileOf images g c text
class_file false g class c text shows is = is
class_file true g class c text shows (inl (differ, is)) = is
class_file true g class c text shows (inr (alike, is)) =
    absurd (alike (solution_differs g 0 [] (ForClass class c) c shows.sets refl))

-- what delivers the certificate of a class settles the game
pub delivers_class : (form : Form) (g : Game) (name : Bytes) (class : Class) (c : Cert)
    (text : Bytes) (texts : List Bytes) (files files' : FilesTold) (before after : ConsoleTold)
    (r : Result ℕ Halt)
    → ShowsClass g class c
    → IsFileOf form.images g c text
    → texts ≡ class_texts form.json g class (node_count c.claims) (length text)
    → Does (Delivers (name, text) texts) files files' before after r
    → Does (SettlesSwitching form g name) files files' before after r
delivers_class form g name class c text texts files files' before after r shows kept is h =
    follows_more (Delivers (name, text) texts)
    (SettlesSwitching form g name) files files' before after r
    (λ done end act. (
      class,
      c,
      shows,
      text,
      kept,
      subst (λ (t : List Bytes). Delivers (name, text) t done end) is act,
    )) h

-- ---- a game on lines

module _ (Brings : Game → Budget → Outcome → Type 0) (form : Form) (g : Game) (name : Bytes)
    (budget : Budget) (files files' : FilesTold) (before after : ConsoleTold) where
  -- what delivers the certificate of a score settles the game
  pub delivers_score : (score : Score) (c : Cert) (expanded : ℕ) (text : Bytes)
      (texts : List Bytes) (r : Result ℕ Halt)
      → ShowsValue g score c
      → IsAnswer Brings g budget (outcome_of (Certificate score c) expanded)
      → IsKeptAs form.images g c text
      → texts ≡ score_texts form.json g score (node_count c.claims) expanded (length text)
      → Does (Delivers (name, text) texts) files files' before after r
      → Does (SettlesLines Brings form g name budget) files files' before after r
  delivers_score score c expanded text texts r shows answer kept is h =
      follows_more (Delivers (name, text) texts)
      (SettlesLines Brings form g name budget) files files' before after r more h
    where
      more : (done : Done) (end : End)
          → Delivers (name, text) texts done end
          → SettlesLines Brings form g name budget done end
      more done (Finished status) act = inr (
        score,
        c,
        expanded,
        shows,
        answer,
        text,
        kept,
        subst (λ (t : List Bytes). Delivers (name, text) t done (Finished status)) is act,
      )
      more done Failed act = (
        score,
        c,
        expanded,
        shows,
        answer,
        text,
        kept,
        subst (λ (t : List Bytes). Delivers (name, text) t done Failed) is act,
      )
      more done Starved act = absurd act

  -- nothing that shows its score was brought, and that is said
  pub stays_open : (expanded : ℕ) (said : Bytes)
      → IsAnswer Brings g budget (outcome_of Open expanded)
      → said ≡ open_text form.json g expanded
      → files'.held ≡ files.held
      → Grows before.log after.log (Said said ∷ [])
      → after.left ≡ before.left
      → Does (SettlesLines Brings form g name budget) files files' before after (Ok UNKNOWN)
  stays_open expanded said answer is same says left = go files.held same where
    go : (b : Option Holding)
        → files'.held ≡ b
        → IfSome b (λ held. Follows (λ _. ⊥)
        (SettlesLines Brings form g name budget) held files' before after (Ok UNKNOWN))
    go None same = tt
    go (Some held) same = (
      talk (Said said ∷ []),
      inl (record {
        expanded = expanded;
        answer = answer;
        said = ap (λ (t : Bytes). Said t ∷ []) is;
        stored = refl;
        status_is = refl;
      }),
      record {
        talked = talked_texts (Finished UNKNOWN) before after (said ∷ []) says left;
        names = kept held files'.held same;
      },
    )

  -- ---- either

  pub settles_switching : (r : Result ℕ Halt)
      → g.kind ≡ Switching
      → Does (SettlesSwitching form g name) files files' before after r
      → Does (SettlesGame Brings form g name budget) files files' before after r
  settles_switching r kind h = follows_more (SettlesSwitching form g name)
      (SettlesGame Brings form g name budget) files files' before after r
      (λ done end act. inl (kind, act)) h

  pub settles_lines : (r : Result ℕ Halt)
      → g.kind ≢ Switching
      → Does (SettlesLines Brings form g name budget) files files' before after r
      → Does (SettlesGame Brings form g name budget) files files' before after r
  settles_lines r kind h = follows_more (SettlesLines Brings form g name budget)
      (SettlesGame Brings form g name budget) files files' before after r
      (λ done end act. inr (kind, act)) h

-- ---- after the game was read

module _ (Brings : Game → Budget → Outcome → Type 0) (form : Form) (game name : Bytes)
    (budget : Budget) where
  pub carries_settle : (played : Game) (files mid files' : FilesTold) (before after : ConsoleTold)
      (r : Result ℕ Halt)
      → mid.held ≡ files.held
      → OpensGame files.held game (Ok played)
      → Does (SettlesGame Brings form played name budget) mid files' before after r
      → Carries Brings form game name budget files files' before after r
  carries_settle played files mid files' before after r same opens h =
      go files.held opens r (subst (λ (b : Option Holding). IfSome b (λ held. Follows (λ _. ⊥)
      (SettlesGame Brings form played name budget) held files' before after r)) same h)
    where
      act : (held : Holding)
          → OpensGame (Some held) game (Ok played)
          → (done : Done) (end : End) → SettlesGame Brings form played name budget done end
          → Settles Brings form (game_held (held game)) name budget done end
      act held opens done end settles =
          subst (λ (read : Result GameEntry Halt). Settles Brings form read name budget done end)
          (sym opens) (played, refl, settles)

      go : (b : Option Holding)
          → OpensGame b game (Ok played)
          → (r : Result ℕ Halt) → IfSome b (λ held. Follows (λ _. ⊥)
          (SettlesGame Brings form played name budget) held files' before after r)
          → IfSome b (λ held.
          Follows (λ refusal. game_held (held game) ≡ Err (Refused refusal))
          (Settles Brings form (game_held (held game)) name budget) held files' before after r)
      go None opens r h = tt
      go (Some held) opens (Ok status) (done, settles, changes) =
          (done, act held opens done (Finished status) settles, changes)
      go (Some held) opens (Err (Refused refusal)) (none, changes) = absurd none
      go (Some held) opens (Err (Stopped stop)) (done, inl none, changes) =
          (done, inl none, changes)
      go (Some held) opens (Err (Stopped stop)) (done, inr settles, changes) =
          (done, inr (act held opens done (stop_end stop) settles), changes)

  pub halted_settle : (files files' : FilesTold) (console : ConsoleTold) (halt : Halt)
      → files'.held ≡ files.held
      → OpensGame files.held game (Err halt)
      → Carries Brings form game name budget files files' console console (Err halt)
  halted_settle files files' console halt same opens = runs_halt files files' same
      (λ held refusal. game_held (held game) ≡ Err (Refused refusal))
      (λ held. Settles Brings form (game_held (held game)) name budget) console halt against
    where
      against : (held : Holding) (refusal : Refusal)
          → files.held ≡ Some held
          → halt ≡ Refused refusal
          → game_held (held game) ≡ Err (Refused refusal)
      against held refusal is this =
          subst (λ (k : Halt). OpensGame (Some held) game (Err k)) this
          (subst (λ (b : Option Holding). OpensGame b game (Err halt)) is opens)
