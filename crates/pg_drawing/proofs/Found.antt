-- What is due, from what was read.
use Rattle.std.proofs.Common.{◌≡◌, true, Option, Some, None, Result, Ok, Err, refl, sym}
use Rattle.std.proofs.Common.{subst, inl, inr, string_bytes, true≢false}
use Rattle.pg_drawing.proofs.Common.{Bytes, Cert, DONE, Evidence, Game, Halt, Holding}
use Rattle.pg_drawing.proofs.Common.{MakesStanding, OpensEvidence, OpensSpanCert, Refused, SpanCert}
use Rattle.pg_drawing.proofs.Common.{OpensCertificate, SpanGame, Stopped, VecGame, entry}
use Rattle.pg_drawing.proofs.Common.{evidence_held, span_entry, vector_entry}
use Rattle.pg_captions.specs.declared.look.Look.{Look}
use Rattle.pg_drawing.specs.Boards.{any_entry, begins_otherwise, plain_or, read_into}
use Rattle.pg_drawing.specs.Boards.{with_certificate}
use Rattle.pg_drawing.specs.Boards.AnyEntry.{Positional, Connectivity, Vectors}
use Rattle.pg_drawing.specs.Boards.PairEntry.{ConnectivityPair, PositionalPair, VectorsPair}
use Rattle.pg_drawing.specs.Due.{DrawsGame, DrawsSpanGame, DrawsVectorGame, Finds, IsCertDue}
use Rattle.pg_drawing.specs.Due.{IsDueOfBoth, IsDueOfGame, IsEvidenceDue, IsFormDue, IsFound}
use Rattle.pg_drawing.specs.Due.{IsSpanCertDue, IsVectorCertDue}
use Rattle.pg_drawing.specs.Incoming.{OpensAlike}
use Rattle.pg_drawing.specs.Orders.{chosen, chosen_claim}
use Rattle.pg_drawing.specs.declared.board.Board.{Board}
use Rattle.pg_drawing.specs.declared.board.Board.TheVariants as boards
use Rattle.pg_drawing.specs.declared.name.NodeName.{NodeName}
use Rattle.pg_drawing.specs.declared.picturing.Telling.{Telling}
use Rattle.pg_drawing.proofs.Alike.{chosen_alike, due_alike}

-- ---- a game

module _ (look : Look) (b : Board) (text : Bytes) where
  pub positional_drawn : (g : Game)
      → b ≡ boards.Positional g
      → DrawsGame look g text
      → IsDueOfGame look (Ok (any_entry b)) text DONE
  positional_drawn g is draws =
      subst (λ (b : Board). IsDueOfGame look (Ok (any_entry b)) text DONE) (sym is)
      (g, refl, draws, refl)

  pub connectivity_drawn : (g : SpanGame)
      → b ≡ boards.Connectivity g
      → DrawsSpanGame look g text
      → IsDueOfGame look (Ok (any_entry b)) text DONE
  connectivity_drawn g is draws =
      subst (λ (b : Board). IsDueOfGame look (Ok (any_entry b)) text DONE) (sym is)
      (g, refl, draws, refl)

  pub vectors_drawn : (g : VecGame)
      → b ≡ boards.Vectors g
      → DrawsVectorGame look g text
      → IsDueOfGame look (Ok (any_entry b)) text DONE
  vectors_drawn g is draws =
      subst (λ (b : Board). IsDueOfGame look (Ok (any_entry b)) text DONE) (sym is)
      (g, refl, draws, refl)

-- ---- a certificate that was read

-- it stands for none
pub unmade_due : (look : Look) (g : Game) (e : Evidence) (name : Option NodeName) (halt : Halt)
    → MakesStanding g e (Err halt)
    → IsFound (IsEvidenceDue look g e name) (Err halt)
unmade_due look g e name (Refused refusal) rejects = inr (record {
  refusal = refusal;
  rejects = rejects;
  text_is = refl;
  status_is = refl;
})
unmade_due look g e name (Stopped stop) made = tt

-- ---- a certificate under a name

module _ (look : Look) (certificate : Bytes) (name : Option NodeName) where
  -- one in either form
  pub form_drawn : (h : Option Holding) (g : Game) (e : Evidence)
      → OpensEvidence h certificate (Ok e)
      → (r : Result Telling Halt) → IsFound (IsEvidenceDue look g e name) r
      → Finds h (λ held. IsFormDue look g name (evidence_held (held certificate))) r
  form_drawn None g e opens r due = tt
  form_drawn (Some held) g e opens r due =
      subst (λ (read : Result Evidence Halt). IsFound (IsFormDue look g name read) r) (sym opens)
      due

  -- one of plain nodes
  pub node_drawn : (h : Option Holding) (g : Game) (c : Cert) (told : Telling)
      → OpensAlike h certificate (Ok c)
      → IsCertDue look g c (chosen c name) (string_bytes told.words) told.status
      → Finds h
      (λ held. IsDueOfBoth look name
      (with_certificate (Ok (Positional (entry g))) (held certificate)))
      (Ok told)
  node_drawn None g c told opens due = tt
  node_drawn (Some held) g c told opens due =
      let whole =
      subst (λ (n : NodeName). IsCertDue look g opens.whole n (string_bytes told.words) told.status)
      (chosen_alike look g opens.whole c opens.same name)
      (due_alike look g opens.whole c opens.same (chosen c name)
      (string_bytes told.words) told.status due) in
      subst
      (λ (r : Result Cert Halt). IsDueOfBoth look name
      (read_into (PositionalPair (entry g)) (plain_or r (evidence_held (held certificate))))
      (string_bytes told.words) told.status) (sym opens.held)
      (g, refl, inl (record { cert = opens.whole; stands = refl; due = whole }))

  form_due : (g : Game) (read : Result Evidence Halt) (r : Result Telling Halt)
      → IsFound (IsFormDue look g name read) r
      → IsFound (IsDueOfBoth look name (read_into (PositionalPair (entry g)) read)) r
  form_due g (Err halt) r due = due
  form_due g (Ok e) (Ok told) due = (g, refl, due)
  form_due g (Ok e) (Err (Refused refusal)) due = (g, refl, due)
  form_due g (Ok e) (Err (Stopped stop)) due = tt

  -- one that doesn't begin as one of plain nodes
  pub other_drawn : (h : Option Holding) (g : Game) (halt : Halt)
      → OpensAlike h certificate (Err halt)
      → begins_otherwise halt ≡ true
      → (r : Result Telling Halt)
      → Finds h (λ held. IsFormDue look g name (evidence_held (held certificate))) r
      → Finds h
      (λ held. IsDueOfBoth look name
      (with_certificate (Ok (Positional (entry g))) (held certificate)))
      r
  other_drawn None g halt opens is r due = tt
  other_drawn (Some held) g (Refused refusal) opens is r due =
      let either = evidence_held (held certificate) in
      subst (λ (read : Result Cert Halt). IsFound (IsDueOfBoth look name
      (read_into (PositionalPair (entry g)) (plain_or read either))) r) (sym opens)
      (rw is (form_due g either r due))
  other_drawn (Some held) g (Stopped stop) opens is r due = absurd (true≢false (sym is))

  pub claim_drawn : (h : Option Holding) (g : SpanGame) (c : SpanCert) (told : Telling)
      → OpensSpanCert h certificate (Ok c)
      → IsSpanCertDue look g c (chosen_claim name) (string_bytes told.words) told.status
      → Finds h
      (λ held. IsDueOfBoth look name
      (with_certificate (Ok (Connectivity (span_entry g))) (held certificate))) (Ok told)
  claim_drawn None g c told opens due = tt
  claim_drawn (Some held) g c told opens due = subst
      (λ (r : Result SpanCert Halt). IsDueOfBoth look name
      (read_into (ConnectivityPair (span_entry g)) r)
      (string_bytes told.words) told.status) (sym opens) (g, refl, due)

  pub vector_drawn : (h : Option Holding) (g : VecGame) (c : Cert) (told : Telling)
      → OpensCertificate h certificate (Ok c)
      → IsVectorCertDue look g c (chosen c name) (string_bytes told.words) told.status
      → Finds h
      (λ held. IsDueOfBoth look name
      (with_certificate (Ok (Vectors (vector_entry g))) (held certificate))) (Ok told)
  vector_drawn None g c told opens due = tt
  vector_drawn (Some held) g c told opens due = subst
      (λ (r : Result Cert Halt). IsDueOfBoth look name
      (read_into (VectorsPair (vector_entry g)) r)
      (string_bytes told.words) told.status) (sym opens) (g, refl, due)
