-- What is due, from what was read.
use Rattle.std.proofs.Common.{◌≡◌, ℕ, Option, Some, None, Result, Ok, Err, refl, sym, subst, ap}
use Rattle.std.proofs.Common.{◌∙◌}
use Rattle.std.proofs.Common.{inl, inr, IfOk, IfErr, ◌≤◌, Bool, true, false}
use Rattle.pg_binding.proofs.Common.{Bytes, Cert, Chart, DONE, Evidence, Finds, Game, Halt}
use Rattle.pg_binding.proofs.Common.{HasFault}
use Rattle.pg_binding.proofs.Common.{Holding, IsFirstFlaw, IsFirstVecFault, IsFound, IsInnerHalt}
use Rattle.pg_binding.proofs.Common.{IsPlayTree, IsReadHalt, IsSpanValid, IsValid, IsVecValid}
use Rattle.pg_binding.proofs.Common.{MakesStanding, Memory, Opens, Read, Refused, SpanCert}
use Rattle.pg_binding.proofs.Common.{SpanFlaw, SpanGame, StandsFor, Stopped, Telling, VecFlaw}
use Rattle.pg_binding.proofs.Common.{VecGame, Write, book_text, span_book_text}
use Rattle.pg_binding.proofs.Common.{has_sets, node_count, vector_book_text}
use Rattle.pg_gf2.specs.Check.{flaw_number as vector_flaw_number}
use Rattle.pg_messages.specs.declared.refusal.Refusal.TheVariants.{Rejected, RejectedSpan}
use Rattle.pg_messages.specs.declared.refusal.Refusal.TheVariants.{RejectedVectors}
use Rattle.pg_span.specs.Flaw.{flaw_number}
use Rattle.pg_binding.specs.Books.{BookEntry}
use Rattle.pg_binding.specs.declared.telling.TheConstants.{MAX_PAGES}
use Rattle.pg_binding.specs.Due.{AreVectorsDue, IsBookDue, IsEvidenceDue, IsShownAs, IsShownBook}
use Rattle.pg_binding.specs.Due.{IsSpanDue, IsWholeBook}

-- ---- a certificate that was read

module _ (g : Game) (e : Evidence) (layout : Option Chart) (depth : Option ℕ) where
  -- it stands for none
  pub unmade_due : (halt : Halt)
      → MakesStanding g e (Err halt)
      → IsFound (IsEvidenceDue g e layout depth) (Err halt)
  unmade_due (Refused refusal) rejects = inr (record {
    refusal = refusal;
    rejects = inl rejects;
    text_is = refl;
    status_is = refl;
  })
  unmade_due (Stopped stop) made = tt

  -- the certificate for which it stands has a fault
  pub rejected_due : (claim node why : ℕ)
      → HasFault g e claim node why
      → IsFound (IsEvidenceDue g e layout depth) (Err (Refused (Rejected claim node why)))
  rejected_due claim node why fault = inr (record {
    refusal = Rejected claim node why;
    rejects = inr (claim, node, why, fault, refl);
    text_is = refl;
    status_is = refl;
  })

  -- the certificate for which it stands is valid
  pub book_due : (cert : Cert)
      → StandsFor g e cert
      → IsValid g cert
      → (r : Result Telling Halt) → IsShownBook g cert layout depth r
      → IsFound (IsEvidenceDue g e layout depth) r
  book_due cert stands valid (Ok told) (shown, shows, text, status) = inl (record {
    cert = cert;
    stands = stands;
    valid = valid;
    shown = shown;
    shows = shows;
    text_is = text;
    status_is = status;
  })
  book_due cert stands valid (Err halt) same =
      subst (λ (h : Halt). IsFound (IsEvidenceDue g e layout depth) (Err h)) (sym same) tt

-- a tree of play that was found is shown
pub tree_shown : {E : Type 0} (g : Game) (cert tree : Cert) (found : Result (Option Cert) E)
    → found ≡ Ok (Some tree)
    → (has_sets cert ≡ false → found ≡ Ok None)
    → IsPlayTree g cert tree
    → IsValid g tree
    → node_count tree.claims ≤ MAX_PAGES
    → IsShownAs g cert tree
tree_shown {E = E} g cert tree found is no_sets played valid few = inr (record {
  sets = some (has_sets cert) no_sets;
  played = played;
  valid = valid;
  few = few;
}) where
  some : (b : Bool) → (b ≡ false → found ≡ Ok None) → b ≡ true
  some true none = refl
  some false none = let clash : ◌≡◌ {A = Result (Option Cert) E} (Ok (Some tree)) (Ok None) =
      sym is ∙ none refl in absurd cc

pub book_shown : (g : Game) (cert shown : Cert) (layout : Option Chart) (depth : Option ℕ)
    (r : Result Telling Halt)
    → IsShownAs g cert shown
    → IsWholeBook (book_text layout g shown depth) r
    → IsShownBook g cert layout depth r
book_shown g cert shown layout depth (Ok told) shows whole = (shown, shows, whole.0, whole.1)
book_shown g cert shown layout depth (Err halt) shows whole = whole

pub shown_done : (g : Game) (cert : Cert) (layout : Option Chart) (depth : Option ℕ)
    (r : Result Telling Halt)
    → IsShownBook g cert layout depth r
    → IfOk r (λ told. told.status ≡ DONE)
shown_done g cert layout depth (Ok told) (shown, shows, text, status) = status
shown_done g cert layout depth (Err halt) same = tt

pub shown_halts : (g : Game) (cert : Cert) (layout : Option Chart) (depth : Option ℕ)
    (r : Result Telling Halt)
    → IsShownBook g cert layout depth r
    → IfErr r IsInnerHalt
shown_halts g cert layout depth (Ok told) book = tt
shown_halts g cert layout depth (Err halt) same = subst IsInnerHalt (sym same) tt

-- the same of equal games and certificates
pub same_shown : (g h : Game) (cert known : Cert) (layout : Option Chart) (depth : Option ℕ)
    (r : Result Telling Halt)
    → h ≡ g
    → known ≡ cert
    → IsShownBook h known layout depth r
    → IsShownBook g cert layout depth r
same_shown g h cert known layout depth r same same_cert shown =
    subst (λ (k : Game). IsShownBook k cert layout depth r) same
    (subst (λ (c : Cert). IsShownBook h c layout depth r) same_cert shown)

module _ (g : SpanGame) (c : SpanCert) where
  pub span_rejected : (claim : ℕ) (why : SpanFlaw)
      → IsFirstFlaw g c claim why
      → IsFound (IsSpanDue g c) (Err (Refused (RejectedSpan claim (flaw_number why))))
  span_rejected claim why first = inr (record {
    refusal = RejectedSpan claim (flaw_number why);
    rejects = (claim, why, first, refl);
    text_is = refl;
    status_is = refl;
  })

  pub span_due : IsSpanValid g c
      → (r : Result Telling Halt) → IsWholeBook (span_book_text g c) r
      → IsFound (IsSpanDue g c) r
  span_due valid (Ok told) whole =
      inl (record { valid = valid; text_is = whole.0; status_is = whole.1 })
  span_due valid (Err halt) whole =
      subst (λ (h : Halt). IsFound (IsSpanDue g c) (Err h)) (sym whole) tt

module _ (g : VecGame) (c : Cert) where
  pub vectors_rejected : (claim node : ℕ) (why : VecFlaw)
      → IsFirstVecFault g c claim node why
      → IsFound (AreVectorsDue g c)
      (Err (Refused (RejectedVectors claim node (vector_flaw_number why))))
  vectors_rejected claim node why first = inr (record {
    refusal = RejectedVectors claim node (vector_flaw_number why);
    rejects = (claim, node, why, first, refl);
    text_is = refl;
    status_is = refl;
  })

  pub vectors_due : IsVecValid g c
      → (r : Result Telling Halt) → IsWholeBook (vector_book_text g c) r
      → IsFound (AreVectorsDue g c) r
  vectors_due valid (Ok told) whole =
      inl (record { valid = valid; text_is = whole.0; status_is = whole.1 })
  vectors_due valid (Err halt) whole =
      subst (λ (h : Halt). IsFound (AreVectorsDue g c) (Err h)) (sym whole) tt

pub whole_done : (text : Bytes) (r : Result Telling Halt)
    → IsWholeBook text r
    → IfOk r (λ told. told.status ≡ DONE)
whole_done text (Ok told) whole = whole.1
whole_done text (Err halt) whole = tt

pub whole_halts : (text : Bytes) (r : Result Telling Halt)
    → IsWholeBook text r
    → IfErr r IsInnerHalt
whole_halts text (Ok told) whole = tt
whole_halts text (Err halt) whole = subst IsInnerHalt (sym whole) tt

-- what can end work on what was read can end reading it
pub inner_read : (r : Result Telling Halt) → IfErr r IsInnerHalt → IfErr r IsReadHalt
inner_read (Ok told) inner = tt
inner_read (Err (Refused refusal)) inner = inner
inner_read (Err (Stopped Read)) inner = absurd inner
inner_read (Err (Stopped Write)) inner = absurd inner
inner_read (Err (Stopped Memory)) inner = tt

-- ---- a game with the certificate of a name, by how certificates of its kind are read

module _ {C : Type 0} (layout : Option Chart) (depth : Option ℕ)
    (read : Option Bytes → Result C Halt) (pair : Result C Halt → Result BookEntry Halt)
    (refused : (halt : Halt) → pair (Err halt) ≡ Err halt) where
  pub opened_due : (h : Option Holding) (certificate : Bytes) (c : C) (due : Bytes → ℕ → Type 0)
      → ((text : Bytes) (status : ℕ) → due text status
      → IsBookDue layout depth (pair (Ok c)) text status)
      → Opens (λ (x : C). x) read h certificate (Ok c)
      → (r : Result Telling Halt) → IsFound due r
      → Finds h (λ held. IsBookDue layout depth (pair (read (held certificate)))) r
  opened_due None certificate c due all opens r found = tt
  opened_due (Some held) certificate c due all opens r found =
      subst (λ (o : Result C Halt). IsFound (IsBookDue layout depth (pair o)) r) (sym opens)
      (each r found) where
        each : (r : Result Telling Halt)
            → IsFound due r
            → IsFound (IsBookDue layout depth (pair (Ok c))) r
        each (Ok told) found = all _ told.status found
        each (Err (Refused refusal)) found = all _ _ found
        each (Err (Stopped stop)) found = tt

  pub unopened_due : (h : Option Holding) (certificate : Bytes) (halt : Halt)
      → Opens (λ (x : C). x) read h certificate (Err halt)
      → Finds h (λ held. IsBookDue layout depth (pair (read (held certificate)))) (Err halt)
  unopened_due None certificate halt opens = tt
  unopened_due (Some held) certificate (Refused refusal) opens = subst
      (λ (o : Result BookEntry Halt). IsFound (IsBookDue layout depth o) (Err (Refused refusal)))
      (sym (ap pair opens ∙ refused (Refused refusal))) (refl, refl)
  unopened_due (Some held) certificate (Stopped stop) opens = tt
