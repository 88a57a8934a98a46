-- WHAT IS TO BE SAID, with its status.
use Rattle.std.specs.Prelude.{◌≡◌, ◌≢◌, ◌⊎◌, ℕ, Option, Some, None, Result, Ok, Err, ⊤, slice_get}
use Rattle.std.specs.Prelude.{string_bytes}
use Rattle.pg_drawing.specs.Prelude.{Bytes, Holding, Game, IsFirstFault, IsValid, Cert, IsFirstFlaw}
use Rattle.pg_drawing.specs.Prelude.{IsFirstVecFault, IsVecValid, VecGame, vector_entry}
use Rattle.pg_drawing.specs.Prelude.{IsSpanValid, SpanCert, SpanGame, span_entry, refusal_status}
use Rattle.pg_drawing.specs.Prelude.{NoMeaning, DONE, NO_MEANING, REFUSED, Halt, Refused, Stopped}
use Rattle.pg_drawing.specs.Prelude.{IsSaidBy, IsSceneOfGame, IsSceneOfNode, LacksNode}
use Rattle.pg_drawing.specs.Prelude.{Evidence, Refusal, RejectsImages, StandsFor}
use Rattle.pg_gf2.specs.Check.{flaw_number as vector_flaw_number}
use Rattle.pg_gf2.specs.declared.flaw.VecFlaw.{VecFlaw}
use Rattle.pg_span.specs.Flaw.{flaw_number}
use Rattle.pg_span.specs.declared.flaw.SpanFlaw.{SpanFlaw}
use Rattle.pg_messages.specs.Texts.{refusal_text}
use Rattle.pg_picture.specs.Svg.{picture_text}
use Rattle.pg_captions.specs.declared.look.Look.{Look}
use Rattle.pg_scene.specs.declared.scene.Scene.{Scene}
use Rattle.pg_scene.specs.SpanScenes.{IsSceneOfSpanClaim, IsSceneOfSpanGame}
use Rattle.pg_scene.specs.VectorScenes.{IsSceneOfVectorGame, IsSceneOfVectorNode}
use Rattle.pg_draw.specs.Pictures.{picture_of}
use Rattle.pg_drawing.specs.Boards.{AnyEntry, PairEntry, any_held, both_held}
use Rattle.pg_drawing.specs.Boards.AnyEntry.{Positional, Connectivity, Vectors}
use Rattle.pg_drawing.specs.Boards.PairEntry.{PositionalPair, ConnectivityPair, VectorsPair}
use Rattle.pg_drawing.specs.Orders.{Order, chosen, chosen_claim}
use Rattle.pg_drawing.specs.Orders.Order.{OfGame, OfNode}
use Rattle.pg_drawing.specs.declared.name.NodeName.{NodeName}
use Rattle.pg_drawing.specs.declared.picturing.Telling.{Telling}
use Rattle.pg_drawing.specs.declared.picturing.TheConstants.{NO_NODE}

-- ---- pictures

-- the text of the picture of a scene
abbrev pub scene_text : Look → Scene → Bytes
scene_text look scene = picture_text (picture_of look scene)

-- the text is that of the picture of a scene of which this is true
pub record Draws (look : Look) (IsShown : Scene → Type 0) (text : Bytes) : Type 0 where
  pub scene : Scene
  pub shown : IsShown scene
  pub text_is : text ≡ scene_text look scene

-- a game of each kind
abbrev pub DrawsGame : Look → Game → Bytes → Type 0
DrawsGame look g text = Draws look (IsSceneOfGame look g) text

abbrev pub DrawsSpanGame : Look → SpanGame → Bytes → Type 0
DrawsSpanGame look g text = Draws look (IsSceneOfSpanGame look g) text

abbrev pub DrawsVectorGame : Look → VecGame → Bytes → Type 0
DrawsVectorGame look g text = Draws look (IsSceneOfVectorGame look g) text

-- the node of this name, and its fault if it has one of that number
abbrev pub DrawsNode : Look → Game → Cert → NodeName → Option ℕ → Bytes → Type 0
DrawsNode look g c name fault text =
    Draws look (IsSceneOfNode look g c name.claim name.node fault) text

-- a claim of a connectivity game has one node, number 0
abbrev pub DrawsSpanNode : Look → SpanGame → SpanCert → NodeName → Option ℕ → Bytes → Type 0
DrawsSpanNode look g c name fault text =
    (name.node ≡ 0) × Draws look (IsSceneOfSpanClaim look g c name.claim fault) text

abbrev pub DrawsVectorNode : Look → VecGame → Cert → NodeName → Option ℕ → Bytes → Type 0
DrawsVectorNode look g c name fault text =
    Draws look (IsSceneOfVectorNode look g c name.claim name.node fault) text

-- ---- nodes of a certificate

-- what stands against reading it is said
abbrev pub IsHaltDue : Halt → Bytes → ℕ → Type 0
IsHaltDue (Refused refusal) text status =
    (text ≡ refusal_text refusal) × (status ≡ refusal_status refusal)
IsHaltDue (Stopped stop) text status = ⊥

-- there is no such node, and that is said
abbrev pub SaysNoNode : Bytes → ℕ → Type 0
SaysNoNode text status = (text ≡ NO_NODE.now) × (status ≡ NO_MEANING)

-- the picture of the node of this name, by how nodes of the certificate are drawn; or that the
-- certificate lacks it
abbrev pub IsNodeDue : (NodeName → Option ℕ → Bytes → Type 0)
    → (NodeName → Type 0)
    → NodeName
    → Bytes
    → ℕ
    → Type 0
IsNodeDue DrawsAt Lacks name text status =
    (DrawsAt name None text × (status ≡ DONE)) ⊎ (Lacks name × SaysNoNode text status)

-- the picture of the first faulty node with the number of its fault, by how nodes are drawn, and by
-- which node is the first
pub record IsFaultDue (DrawsAt : NodeName → Option ℕ → Bytes → Type 0)
    (IsFirst : NodeName → ℕ → Type 0) (text : Bytes) (status : ℕ) : Type 0 where
  pub name : NodeName
  pub why : ℕ
  pub first : IsFirst name why
  pub drawn : DrawsAt name (Some why) text
  pub status_is : status ≡ REFUSED

-- a node of a valid certificate, or the first faulty node of one that isn't valid
abbrev pub IsCheckedDue : Type 0
    → (NodeName → Option ℕ → Bytes → Type 0)
    → (NodeName → Type 0)
    → (NodeName → ℕ → Type 0)
    → NodeName
    → Bytes
    → ℕ
    → Type 0
IsCheckedDue valid DrawsAt Lacks IsFirst name text status =
    (valid × IsNodeDue DrawsAt Lacks name text status) ⊎ IsFaultDue DrawsAt IsFirst text status

-- ---- certificates of each kind: which nodes one lacks, and which is its first faulty node

abbrev pub LacksNamed : Cert → NodeName → Type 0
LacksNamed c name = LacksNode c name.claim name.node

abbrev pub IsFirstNamed : Game → Cert → NodeName → ℕ → Type 0
IsFirstNamed g c name why = IsFirstFault g c name.claim name.node why

abbrev pub IsCertDue : Look → Game → Cert → NodeName → Bytes → ℕ → Type 0
IsCertDue look g c name text status =
    IsCheckedDue (IsValid g c) (DrawsNode look g c) (LacksNamed c) (IsFirstNamed g c)
    name text status

abbrev pub LacksSpanNode : SpanCert → NodeName → Type 0
LacksSpanNode c name = (name.node ≢ 0) ⊎ (slice_get c.claims name.claim ≡ None)

abbrev pub IsFirstSpanNode : SpanGame → SpanCert → NodeName → ℕ → Type 0
IsFirstSpanNode g c name why =
    (flaw : SpanFlaw) × IsFirstFlaw g c name.claim flaw × (why ≡ flaw_number flaw)

abbrev pub IsSpanCertDue : Look → SpanGame → SpanCert → NodeName → Bytes → ℕ → Type 0
IsSpanCertDue look g c name text status =
    IsCheckedDue (IsSpanValid g c) (DrawsSpanNode look g c) (LacksSpanNode c)
    (IsFirstSpanNode g c) name text status

abbrev pub IsFirstVectorNode : VecGame → Cert → NodeName → ℕ → Type 0
IsFirstVectorNode g c name why = (flaw : VecFlaw)
    × IsFirstVecFault g c name.claim name.node flaw
    × (why ≡ vector_flaw_number flaw)

abbrev pub IsVectorCertDue : Look → VecGame → Cert → NodeName → Bytes → ℕ → Type 0
IsVectorCertDue look g c name text status =
    IsCheckedDue (IsVecValid g c) (DrawsVectorNode look g c) (LacksNamed c)
    (IsFirstVectorNode g c) name text status

-- ---- certificates with images

-- the certificate for which one in either form stands: a node of it, or its first faulty one
pub record IsStandingDue (look : Look) (g : Game) (e : Evidence) (name : Option NodeName)
    (text : Bytes) (status : ℕ) : Type 0 where
  pub cert : Cert
  pub stands : StandsFor g e cert
  pub due : IsCertDue look g cert (chosen cert name) text status

-- why it stands for none: the first fault of its images
pub record IsImageRejection (g : Game) (e : Evidence) (text : Bytes) (status : ℕ) : Type 0 where
  pub refusal : Refusal
  pub rejects : RejectsImages g e refusal
  pub text_is : text ≡ refusal_text refusal
  pub status_is : status ≡ refusal_status refusal

-- a certificate in either form
abbrev pub IsEvidenceDue : Look → Game → Evidence → Option NodeName → Bytes → ℕ → Type 0
IsEvidenceDue look g e name text status =
    IsStandingDue look g e name text status ⊎ IsImageRejection g e text status

-- what a name says, in either form
abbrev pub IsFormDue : Look
    → Game
    → Option NodeName
    → Result Evidence Halt
    → Bytes
    → ℕ
    → Type 0
IsFormDue look g name (Err halt) text status = IsHaltDue halt text status
IsFormDue look g name (Ok evidence) text status = IsEvidenceDue look g evidence name text status

-- ---- what was read

-- a game that was read
abbrev pub IsDueOfGame : Look → Result AnyEntry Halt → Bytes → ℕ → Type 0
IsDueOfGame look (Err halt) text status = IsHaltDue halt text status
IsDueOfGame look (Ok (Positional e)) text status =
    (g : Game) × IsSaidBy e g × DrawsGame look g text × (status ≡ DONE)
IsDueOfGame look (Ok (Connectivity e)) text status =
    (g : SpanGame) × (span_entry g ≡ e) × DrawsSpanGame look g text × (status ≡ DONE)
IsDueOfGame look (Ok (Vectors e)) text status =
    (g : VecGame) × (vector_entry g ≡ e) × DrawsVectorGame look g text × (status ≡ DONE)

-- a game and a certificate that were read
abbrev pub IsDueOfBoth : Look → Option NodeName → Result PairEntry Halt → Bytes → ℕ → Type 0
IsDueOfBoth look name (Err halt) text status = IsHaltDue halt text status
IsDueOfBoth look name (Ok (PositionalPair e evidence)) text status =
    (g : Game) × IsSaidBy e g × IsEvidenceDue look g evidence name text status
IsDueOfBoth look name (Ok (ConnectivityPair e c)) text status =
    (g : SpanGame) × (span_entry g ≡ e) × IsSpanCertDue look g c (chosen_claim name) text status
IsDueOfBoth look name (Ok (VectorsPair e c)) text status =
    (g : VecGame) × (vector_entry g ≡ e) × IsVectorCertDue look g c (chosen c name) text status

-- what is due to what was asked for, where the names hold these bytes
abbrev pub IsDue : Look → Option Order → Holding → Bytes → ℕ → Type 0
IsDue look None held text status = IsHaltDue (Refused NoMeaning) text status
IsDue look (Some (OfGame game)) held text status =
    IsDueOfGame look (any_held (held game)) text status
IsDue look (Some (OfNode game certificate name)) held text status =
    IsDueOfBoth look name (both_held (held game) (held certificate)) text status

-- ---- what the code finds

-- what was found is due, also what stands against it
abbrev pub IsFound : (Bytes → ℕ → Type 0) → Result Telling Halt → Type 0
IsFound Due (Ok told) = Due (string_bytes told.words) told.status
IsFound Due (Err (Refused refusal)) = Due (refusal_text refusal) (refusal_status refusal)
IsFound Due (Err (Stopped stop)) = ⊤

-- the same where it is told what the names hold
abbrev pub Finds : Option Holding → (Holding → Bytes → ℕ → Type 0) → Result Telling Halt → Type 0
Finds None Due result = ⊤
Finds (Some held) Due result = IsFound (Due held) result
