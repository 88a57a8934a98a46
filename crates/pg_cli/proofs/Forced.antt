-- Claims that are said are forced.
use Rattle.std.proofs.Common.{◌≡◌, ℕ, suc, Bool, true, false, cond, List, [], ◌∷◌, ◌++◌, length}
use Rattle.std.proofs.Common.{map, find, slice_get, Option, Some, None, Result, Ok, Err, refl, sym}
use Rattle.std.proofs.Common.{◌∙◌, ap, subst, inl, inr}
use Rattle.std.specs.Prelude.{◌==◌, if◌then◌else◌, codes, decimal, IfSome}
use Rattle.pg_cli.proofs.Common.{Contains, append_cancel_left, Contains-append_cases, is_same_side}
use Rattle.pg_cli.proofs.Common.{Side, X, Y, ConsoleTold, Grows, Bytes, Holding, Making, FilesTold}
use Rattle.pg_cli.proofs.Common.{Entry, Said, Field, Graph, Lines, Game, game, evidence}
use Rattle.pg_cli.proofs.Common.{evidence_held, StandsFor, Evidence, Plain, Folded, IsWithinLimits}
use Rattle.pg_cli.proofs.Common.{node_count, IsValid, Cert, Claim, with_turn, Forces, is_win}
use Rattle.pg_cli.proofs.Common.{is_claim_of, is_win_of, chosen_claim, refusal_text, unknown_text}
use Rattle.pg_cli.proofs.Common.{expanded_text, Refusal, Command, Solve, Check, Play, Gen, Report}
use Rattle.pg_cli.proofs.Common.{OfFamily, Record, Review, FamilyTask, Done, End, Finished, Failed}
use Rattle.pg_cli.proofs.Common.{Starved, Stops, behind, ending, ActsInFamily, AreForcedInFamily}
use Rattle.pg_cli.proofs.Common.{IsForcedInFamily, IsForcedInFamilyFrom, AllOther, AreOther}
use Rattle.pg_cli.proofs.Common.{IsOther, accepted_forced, apart, delivers_other, first_or_later}
use Rattle.pg_cli.proofs.Common.{held_there, none_of, one_of, one_other, others_forced, play_forced}
use Rattle.pg_cli.proofs.Common.{said_is, stays_other, unsaid, game_held, IsSaidBy, both, delivered}
use Rattle.pg_cli.proofs.Common.{budget, certificate_of, Short, Cut, First, Solution, Value}
use Rattle.pg_cli.proofs.Common.{Unknown, Expanded, Halt}
use Rattle.std.specs.Option.{option_or}
use Rattle.std.proofs.lemmas.Bool.{and_parts}
use Rattle.pg_files.specs.GameFile.{Entry as GameEntry}
use Rattle.pg_cert_files.specs.CertFile.{certificate}
use Rattle.pg_evidence.proofs.Judged.{read_plain}
use Rattle.pg_messages.specs.declared.refusal.Refusal.TheVariants as refusals
use Rattle.pg_words.specs.declared.family.Family.{Family}
use Rattle.pg_cli.specs.Checking.{AcceptsAll}
use Rattle.pg_cli.specs.Commands.{game_read}
use Rattle.pg_cli.specs.Forced.{IsForcedFrom, IsForced, AreForced, AreForcedInGame}
use Rattle.pg_cli.specs.Forced.{AnnouncesForced}
use Rattle.pg_cli.specs.Playing.{IsPlayedBy, PlaysOn, claimer}
use Rattle.pg_cli.specs.Reading.{both_held}
use Rattle.pg_cli.specs.Reporting.{Accounts, Reports}
use Rattle.pg_cli.specs.Generating.{StoresGame, game_file, size_text, size_texts}
use Rattle.pg_cli.specs.Solving.{Solves, SolvesGame, Told, result_alone, result_and_counts}
use Rattle.pg_cli.specs.declared.solving.TheConstants.{DEFAULT_POSITIONS}
use Rattle.pg_solve.specs.declared.solution.Solution.TheVariants.{Class as ForClass}
use Rattle.pg_cli.proofs.Recorded.{records_other, reviews_other}
use Rattle.pg_cli.specs.Run.{Allows, Acts, Declines, RanOn, Ran}
use Rattle.pg_results.specs.Results.{SaysGame, solution_text}
use Rattle.pg_results.proofs.Claims.{ValidClaimsAreForced}

-- ---- texts that neither accept a claim nor say one (`IsOther`)

refusal_other : (refusal : Refusal) → IsOther (refusal_text refusal)
refusal_other refusals.NoMeaning = (apart _ 97 refl, apart _ 109 refl)
refusal_other (refusals.NoClaim side) = (apart _ 97 refl, apart _ 109 refl)
refusal_other (refusals.Game number line) = (apart _ 97 refl, apart _ 109 refl)
refusal_other (refusals.Certificate number line) = (apart _ 97 refl, apart _ 109 refl)
refusal_other (refusals.Rejected claim node why) = (apart _ 97 refl, apart _ 109 refl)
refusal_other (refusals.RejectedSpan claim why) = (apart _ 97 refl, apart _ 109 refl)
refusal_other (refusals.RejectedVectors claim node why) = (apart _ 97 refl, apart _ 109 refl)
refusal_other (refusals.RejectedImage claim node why) = (apart _ 97 refl, apart _ 109 refl)
refusal_other (refusals.Record number line) = (apart _ 97 refl, apart _ 109 refl)

two_other : (first second : Bytes) → IsOther first → IsOther second → AreOther (first ∷ second ∷ [])
two_other first second one two said among =
    elim (first_or_later first (second ∷ []) said among) as (λ _. IsOther said) [
      | inl here ↦ subst (λ (t : Bytes). IsOther t) here one
      | inr later ↦ one_other second two said later
    ]

-- ---- what both names hold

both_ok : (p : Result GameEntry Halt) (q : Result Evidence Halt) (pair : GameEntry × Evidence)
    → both p q ≡ Ok pair
    → (p ≡ Ok pair.0) × (q ≡ Ok pair.1)
both_ok (Err b) q pair e = absurd (cc e)
both_ok (Ok x) (Err b) pair e = absurd (cc e)
both_ok (Ok x) (Ok c) pair e =
    let same : (x, c) ≡ pair = cc e in
    (ap (λ (p : GameEntry × Evidence). Ok p.0) same, ap (λ (p : GameEntry × Evidence). Ok p.1) same)

-- what is read of a certificate is within the limits
abbrev pub ReadsWithinLimits : Type 0
ReadsWithinLimits = (text : Bytes) (c : Cert) → certificate text ≡ Ok c → IsWithinLimits c

-- each claim that is said of a game of a family is forced
abbrev pub FamilyClaimsAreForced : Type 0
FamilyClaimsAreForced =
    (family : Family) (task : FamilyTask) (game certificate : Option Bytes) (name : Bytes)
    (done : Done) (end : End) → ActsInFamily family task game certificate name done end
    → AreForcedInFamily family game done.entries

-- the certificate for which one that is read stands is within the limits
within : ReadsWithinLimits
    → (text : Bytes) (g : Game) (e : Evidence) (cert : Cert) → evidence text ≡ Ok e
    → StandsFor g e cert
    → IsWithinLimits cert
within limits text g (Plain c) cert read stands =
    subst IsWithinLimits (sym stands) (limits text c (read_plain text c read))
within limits text g (Folded c) cert read (u, unfolds, is) =
    subst IsWithinLimits (sym is) unfolds.limits

-- the game that is read, and a certificate that stands for one within the limits
said_game : ReadsWithinLimits
    → (g c : Option Bytes) (pair : GameEntry × Evidence) (played : Game) → both_held g c ≡ Ok pair
    → IsSaidBy pair.0 played
    → SaysGame g played × ((cert : Cert) → StandsFor played pair.1 cert → IsWithinLimits cert)
said_game limits g c pair played e said =
    let parts = both_ok (game_held g) (evidence_held c) pair e in
    let first = held_there _ game g pair.0 parts.0 in
    let second = held_there _ evidence c pair.1 parts.1 in (
      record {
        text = first.0;
        held = first.1;
        said = first.2 ∙ ap (λ (x : GameEntry). Ok x) (sym said);
      },
      λ cert stands. within limits second.0 played pair.1 cert second.2 stands,
    )

-- ---- the claim that is chosen

-- what is found is in the list and passes the test
found : {A : Type 0} (test : A → Bool) (xs : List A) (x : A)
    → find test xs ≡ Some x
    → (i : ℕ) × (slice_get xs i ≡ Some x) × (test x ≡ true)
found test [] x e = absurd (cc e)
found test (y ∷ ys) x e = go (test y) refl (found test ys x) e where
  go : (b : Bool)
      → test y ≡ b
      → (find test ys ≡ Some x → (i : ℕ) × (slice_get ys i ≡ Some x) × (test x ≡ true))
      → cond b (Some y) (find test ys) ≡ Some x
      → (i : ℕ) × (slice_get (y ∷ ys) i ≡ Some x) × (test x ≡ true)
  go true passes later e = let same : y ≡ x = cc e in (0, e, subst (λ z. test z ≡ true) same passes)
  go false fails later e = let rest = later e in (suc rest.0, rest.1, rest.2)

same_side : (a b : Side) → is_same_side a b ≡ true → a ≡ b
same_side X X e = refl
same_side X Y e = absurd (cc e)
same_side Y X e = absurd (cc e)
same_side Y Y e = refl

-- the claim that is chosen is one of the certificate, of the side and the game's turn
IsChosen : Game → Cert → Side → Claim → Type 0
IsChosen g c side claim =
    (i : ℕ) × (slice_get c.claims i ≡ Some claim) × (claim.side ≡ side) × (claim.turn ≡ g.turn)

of_side : (g : Game) (c : Cert) (side : Side) (claim : Claim)
    → (i : ℕ) × (slice_get c.claims i ≡ Some claim) × (is_claim_of side g.turn claim ≡ true)
    → IsChosen g c side claim
unfolding IsChosen
of_side g c side claim (i, at, test) =
    let parts = and_parts (is_same_side claim.side side) (is_same_side claim.turn g.turn) test in
    (i, at, same_side claim.side side parts.0, same_side claim.turn g.turn parts.1)

chosen : (g : Game) (c : Cert) (side : Side) (claim : Claim)
    → chosen_claim g c side ≡ Some claim
    → IsChosen g c side claim
unfolding chosen_claim
chosen g c side claim e = go (find (is_win_of side g.turn) c.claims) refl e where
  go : (o : Option Claim)
      → find (is_win_of side g.turn) c.claims ≡ o
      → option_or o (find (is_claim_of side g.turn) c.claims) ≡ Some claim
      → IsChosen g c side claim
  go (Some first) is e =
      let there = found (is_win_of side g.turn) c.claims claim (is ∙ e) in
      of_side g c side claim
      (there.0, there.1, (and_parts (is_claim_of side g.turn claim) (is_win claim.goal) there.2).0)
  go None is e = of_side g c side claim (found (is_claim_of side g.turn) c.claims claim e)

-- ---- a check

module _ (limits : ReadsWithinLimits) (valid_forced : ValidClaimsAreForced)
    (family_forced : FamilyClaimsAreForced) where
  check_forced : (g c : Option Bytes) (entries : List Entry) (end : End)
      → AcceptsAll (both_held g c) entries end
      → AreForcedInGame g entries
  check_forced g c entries end accepts = go (both_held g c) refl accepts where
    go : (r : Result (GameEntry × Evidence) Halt)
        → both_held g c ≡ r
        → AcceptsAll r entries end
        → AreForcedInGame g entries
    go (Err halt) e accepts = absurd accepts
    go (Ok pair) e (played, cert, said, stands, valid, says) =
        let there = said_game limits g c pair played e said in
        accepted_forced (IsForcedFrom g) (IsForced g) (λ (k : Claim). k.turn)
        (λ (k : Claim). k.side) (λ (k : Claim). k.goal) cert.claims entries end says (λ i claim at.
        (played, there.0, valid_forced played cert (there.1 cert stands) valid i claim at))

  -- ---- a play

  -- the claim that is played is forced
  play_claim_forced : (g c : Option Bytes) (side : Side) (played : Game) (claim : Claim)
      → IsPlayedBy side (both_held g c) played claim
      → IsForced g claim.side claim.goal
  unfolding IsChosen
  play_claim_forced g c side played claim by = go (both_held g c) refl by where
    go : (r : Result (GameEntry × Evidence) Halt)
        → both_held g c ≡ r
        → IsPlayedBy side r played claim
        → IsForced g claim.side claim.goal
    go (Err halt) e by = absurd by
    go (Ok pair) e (cert, said, stands, valid, is) =
        let there = said_game limits g c pair played e said in
        let one = chosen played cert side claim is in
        let forces = valid_forced played cert (there.1 cert stands) valid one.0 claim one.1 in (
          played,
          there.0,
          subst (λ (turn : Side). Forces played (with_turn played turn) claim.side claim.goal) one.3
              forces,
        )

  plays_forced : (g c : Option Bytes) (side : Side) (entries : List Entry) (end : End)
      → PlaysOn side (both_held g c) entries end
      → AreForcedInGame g entries
  plays_forced g c side entries end (played, claim, by, plays) =
      play_forced (IsForcedFrom g) (IsForced g) (claimer played claim) entries end
      (play_claim_forced g c side played claim by) plays

  -- ---- solving

  -- nothing was said
  silent_other : (entries : List Entry) → entries ≡ [] → AllOther entries
  silent_other entries none text among =
      absurd (none_of (Said text) (subst (λ (l : List Entry). Contains l (Said text)) none among))

  solution_other : (g : Game) (solution : Solution) (c : Cert)
      → certificate_of solution ≡ Some c
      → IsOther (solution_text g solution)
  solution_other g (Value score certificate) c own = (apart _ 97 refl, apart _ 109 refl)
  solution_other g (ForClass Short certificate) c own = (apart _ 97 refl, apart _ 109 refl)
  solution_other g (ForClass Cut certificate) c own = (apart _ 97 refl, apart _ 109 refl)
  solution_other g (ForClass First certificate) c own = (apart _ 97 refl, apart _ 109 refl)
  solution_other g Unknown c own = absurd (cc own)

  -- one other text was said
  single_other : (entries : List Entry) (said : Bytes)
      → entries ≡ Said said ∷ []
      → IsOther said
      → AllOther entries
  single_other entries said is other text among =
      let here = one_of (Said said) (Said text)
      (subst (λ (l : List Entry). Contains l (Said text)) is among) in
      subst (λ (t : Bytes). IsOther t) (said_is said text here) other

  -- ---- parts that say other texts alone

  behind_other : (file : Making) (texts : List Bytes) (part done : Done)
      → done ≡ behind (delivered file texts) part
      → AreOther texts
      → AllOther part.entries
      → AllOther done.entries
  behind_other file texts part done is others later text among =
      let here = subst (λ (d : Done). Contains d.entries (Said text)) is among in
      elim (Contains-append_cases (map Said texts) part.entries (Said text) here) as (λ _.
      IsOther text) [
        | inl first ↦ others text (unsaid texts text first)
        | inr second ↦ later text second
      ]

  stops_other : (Act : Done → End → Type 0) (part : Done) (end : End)
      → (Act part end → AllOther part.entries)
      → Stops Act part end
      → AllOther part.entries
  stops_other Act part end acts (inl none) = λ text among.
      absurd (none_of (Said text) (subst (λ (l : List Entry). Contains l (Said text)) none.0 among))
  stops_other Act part end acts (inr act) = acts act

  solves_other : (images : Bool) (told : Told) (g : Game) (name : Bytes) (positions : ℕ)
      (work : Expanded) (done : Done) (end : End)
      → ((solution : Solution) (c : Cert) → certificate_of solution ≡ Some c
      → AreOther (told solution c))
      → SolvesGame images told g name positions work done end
      → AllOther done.entries
  solves_other images told g name positions work done (Finished status) others (inl stays) =
      stays_other done.entries (unknown_text (budget g positions) ∷ []) stays.said
      (one_other (unknown_text (budget g positions)) (apart _ 97 refl, apart _ 109 refl))
  solves_other images told g name positions work done (Finished status) others
      (inr (solution, c, shows, left, text, stored, delivers)) = delivers_other (name, text)
      (told solution c) done (Finished status) (others solution c shows.own) delivers
  solves_other images told g name positions work done Failed others (
    solution,
    c,
    shows,
    left,
    text,
    stored,
    delivers,
  ) = delivers_other (name, text) (told solution c) done Failed
      (others solution c shows.own) delivers
  solves_other images told g name positions work done Starved others none = absurd none

  result_other : (g : Game) (solution : Solution) (c : Cert)
      → certificate_of solution ≡ Some c
      → AreOther (result_alone g solution c)
  result_other g solution c own =
      one_other (solution_text g solution) (solution_other g solution c own)

  counts_other : (g : Game) (work : Expanded) (solution : Solution) (c : Cert)
      → certificate_of solution ≡ Some c
      → AreOther (result_and_counts g work solution c)
  counts_other g work solution c own = two_other (solution_text g solution)
      (expanded_text (length work.positions) (node_count c.claims))
      (solution_other g solution c own) (apart _ 97 refl, apart _ 109 refl)

  solves_forced : (images : Bool) (bytes : Option Bytes) (read : Result GameEntry Halt)
      (name : Bytes) (positions : ℕ) (work : Expanded) (done : Done) (end : End)
      → Solves images read name positions work done end
      → AreForcedInGame bytes done.entries
  solves_forced images bytes (Err halt) name positions work done end solves = absurd solves
  solves_forced images bytes (Ok e) name positions work done end (g, said, solves) =
      others_forced (IsForcedFrom bytes) (IsForced bytes) done.entries
      (solves_other images (result_alone g) g name positions work done end (result_other g) solves)

  -- ---- a game that is made

  size_other : (field : Field) → AreOther (size_text field ∷ [])
  size_other (Lines f) = one_other (size_text (Lines f)) (apart _ 97 refl, apart _ 109 refl)
  size_other (Graph h) = one_other (size_text (Graph h)) (apart _ 97 refl, apart _ 109 refl)

  made_other : (g : Game) (name certificate : Bytes) (work : Expanded) (part : Done) (end : End)
      → SolvesGame false (result_and_counts g work) g certificate DEFAULT_POSITIONS work part end
      → AllOther part.entries
  made_other g name certificate work part end solves = solves_other false (result_and_counts g work)
      g certificate DEFAULT_POSITIONS work part end (counts_other g work) solves

  stores_other : (g : Game) (name : Bytes) (c : Option Bytes) (work : Expanded) (done : Done)
      (end : End)
      → StoresGame g name c work done end
      → AllOther done.entries
  stores_other g name None work done end delivers =
      delivers_other (game_file name g) (size_texts g) done end (size_other g.field) delivers
  stores_other g name (Some c) work done (Finished status) (part, act, is) =
      behind_other (game_file name g) (size_texts g) part done is (size_other g.field)
      (made_other g name c work part (Finished status) act)
  stores_other g name (Some c) work done Failed (inl delivers) =
      delivers_other (game_file name g) (size_texts g) done Failed (size_other g.field) delivers
  stores_other g name (Some c) work done Failed (inr (part, how, is)) =
      behind_other (game_file name g) (size_texts g) part done is (size_other g.field)
      (stops_other (SolvesGame false (result_and_counts g work) g c DEFAULT_POSITIONS work) part
      Failed (made_other g name c work part Failed) how)
  stores_other g name (Some c) work done Starved (part, how, is) =
      behind_other (game_file name g) (size_texts g) part done is (size_other g.field)
      (stops_other (SolvesGame false (result_and_counts g work) g c DEFAULT_POSITIONS work) part
      Starved (made_other g name c work part Starved) how)

  -- ---- a report

  -- the bias may stand before the claims
  report_other : (one : Bool) (bias : ℕ) (claims : Bytes)
      → IsOther
      (codes "{" ++ ((if one then [] else codes "\"bias\":" ++ (decimal bias ++ codes ","))
      ++ (codes "\"claims\":[" ++ claims)))
  report_other true bias claims = (apart _ 97 refl, apart _ 109 refl)
  report_other false bias claims = (apart _ 97 refl, apart _ 109 refl)

  account_other : (g : Game) (e : Evidence) (text : Bytes) (status : ℕ)
      → Accounts g e text status
      → IsOther text
  account_other g e text status (inl tells) =
      subst (λ (t : Bytes). IsOther t) (sym tells.text_is) (report_other (g.bias == 1) g.bias _)
  account_other g e text status (inr tells) =
      subst (λ (t : Bytes). IsOther t) (sym tells.text_is) (apart _ 97 refl, apart _ 109 refl)

  reports_forced : (bytes : Option Bytes) (read : Result (GameEntry × Evidence) Halt)
      (entries : List Entry) (end : End)
      → Reports read entries end
      → AreForcedInGame bytes entries
  reports_forced bytes (Err halt) entries end none = absurd none
  reports_forced bytes (Ok pair) entries (Finished status) (g, said, text, told, is) =
      others_forced (IsForcedFrom bytes) (IsForced bytes) entries
      (single_other entries text is (account_other g pair.1 text status told))
  reports_forced bytes (Ok pair) entries Failed none = absurd none
  reports_forced bytes (Ok pair) entries Starved none = absurd none

  -- ---- all commands

  acts_forced : (held : Holding) (command : Option Command) (work : Expanded) (done : Done)
      (end : End)
      → Acts held command work done end
      → AreForced command (game_read held command) done.entries
  acts_forced held None work done end acts = absurd acts
  acts_forced held (Some (Solve g c None images)) work done end acts = absurd acts
  acts_forced held (Some (Solve g c (Some positions) images)) work done end acts =
      solves_forced images (held g) (game_held (held g)) c positions work done end acts
  acts_forced held (Some (Check g c)) work done end acts =
      check_forced (held g) (held c) done.entries end acts.0
  acts_forced held (Some (Play g c side)) work done end acts =
      plays_forced (held g) (held c) side done.entries end acts.0
  acts_forced held (Some (Gen which g c)) work done end (made, is, stores) = others_forced
      (IsForcedFrom None) (IsForced None) done.entries (stores_other made g c work done end stores)
  acts_forced held (Some (Report g c)) work done end acts =
      reports_forced (held g) (both_held (held g) (held c)) done.entries end acts.0
  acts_forced held (Some (OfFamily family task g c)) work done end acts =
      family_forced family task (held g) (held c) c done end acts
  acts_forced held (Some (Record g r)) work done end acts = others_forced (IsForcedFrom (held g))
      (IsForced (held g)) done.entries (records_other (game_held (held g)) r done end acts)
  acts_forced held (Some (Review g r None)) work done end acts = absurd acts
  acts_forced held (Some (Review g r (Some positions))) work done end acts =
      others_forced (IsForcedFrom (held g)) (IsForced (held g)) done.entries
      (reviews_other (game_held (held g)) (held r) positions work done.entries end acts.0)

  -- where other texts alone were said, whatever the command
  nothing_announced : (command : Option Command) (bytes : Option Bytes) (entries : List Entry)
      → AllOther entries
      → AreForced command bytes entries
  nothing_announced None bytes entries others =
      others_forced (IsForcedFrom bytes) (IsForced bytes) entries others
  nothing_announced (Some (Solve g c positions images)) bytes entries others =
      others_forced (IsForcedFrom bytes) (IsForced bytes) entries others
  nothing_announced (Some (Check g c)) bytes entries others =
      others_forced (IsForcedFrom bytes) (IsForced bytes) entries others
  nothing_announced (Some (Play g c side)) bytes entries others =
      others_forced (IsForcedFrom bytes) (IsForced bytes) entries others
  nothing_announced (Some (Gen which g c)) bytes entries others =
      others_forced (IsForcedFrom bytes) (IsForced bytes) entries others
  nothing_announced (Some (Report g c)) bytes entries others =
      others_forced (IsForcedFrom bytes) (IsForced bytes) entries others
  nothing_announced (Some (OfFamily family task g c)) bytes entries others = others_forced
      (IsForcedInFamilyFrom family bytes) (IsForcedInFamily family bytes) entries others
  nothing_announced (Some (Record g r)) bytes entries others =
      others_forced (IsForcedFrom bytes) (IsForced bytes) entries others
  nothing_announced (Some (Review g r positions)) bytes entries others =
      others_forced (IsForcedFrom bytes) (IsForced bytes) entries others

  declines_forced : (held : Holding) (command : Option Command) (done : Done) (end : End)
      → Declines held command done end
      → AreForced command (game_read held command) done.entries
  declines_forced held command done (Finished status) (refusal, refuses, says, stored, is) =
      nothing_announced command (game_read held command) done.entries
      (single_other done.entries (refusal_text refusal) says (refusal_other refusal))
  declines_forced held command done Failed none = nothing_announced command
      (game_read held command) done.entries (silent_other done.entries none.0)
  declines_forced held command done Starved none = nothing_announced command
      (game_read held command) done.entries (silent_other done.entries none.0)

  pub announced : (held : Holding) (command : Option Command) (work : Expanded) (done : Done)
      (end : End)
      → Allows held command work done end
      → AreForced command (game_read held command) done.entries
  announced held command work done end (inl declines) =
      declines_forced held command done end declines
  announced held command work done end (inr acts) = acts_forced held command work done end acts

-- ---- a run

abbrev pub AllowedAreForced : Type 0
AllowedAreForced =
    (held : Holding) (command : Option Command) (work : Expanded) (done : Done) (end : End)
    → Allows held command work done end
    → AreForced command (game_read held command) done.entries

said_more : (before after : Option (List Entry)) (earlier entries more : List Entry)
    → before ≡ Some earlier
    → after ≡ Some (earlier ++ entries)
    → Grows before after more
    → more ≡ entries
said_more None after earlier entries more before_is after_is grows = absurd (cc before_is)
said_more (Some old) after earlier entries more before_is after_is grows =
    let same : old ≡ earlier = cc before_is in
    let whole : earlier ++ more ≡ earlier ++ entries =
    cc (subst (λ (l : List Entry). after ≡ Some (l ++ more)) same grows, after_is) in
    append_cancel_left earlier more entries whole

pub forced_ran : AllowedAreForced
    → (command : Option Command) (work : Expanded) (files files' : FilesTold)
    (before after : ConsoleTold) (status : ℕ) → Ran command work files files' before after status
    → AnnouncesForced files.held command before.log after.log
forced_ran law command work files files' before after status ran held earlier entries told before_is
    after_is =
    let ran_on = subst (λ (h : Option Holding).
    IfSome h (λ held. RanOn held command work files' before after (ending status))) told ran in
    subst (λ (l : List Entry). AreForced command (game_read held command) l)
    (said_more before.log after.log earlier entries ran_on.0.entries before_is after_is
    ran_on.2.talked.logged) (law held command work ran_on.0 (ending status) ran_on.1)
