-- What judging a certificate finds, in whichever form its file says it.
use Rattle.std.specs.Prelude.{◌≡◌, List, length, map, Option, Some, None, Result, Ok, Err, ⊤}
use Rattle.pg_evidence.specs.Prelude.{Bytes, Holding, Game, ImageClaim, Halt, Refused, Stopped}
use Rattle.pg_judge.specs.Heads.{heads_of}
use Rattle.pg_judge.specs.declared.claim_head.ClaimHead.{ClaimHead}
use Rattle.pg_evidence.specs.Evidence.{evidence_held}
use Rattle.pg_evidence.specs.Standing.{HasFault, HasImageFault, ShowsValid}
use Rattle.pg_evidence.specs.declared.evidence.Evidence.{Evidence}
use Rattle.pg_evidence.specs.declared.evidence.Evidence.TheVariants.{Plain, Folded}
use Rattle.pg_evidence.specs.declared.verdict.Verdict.{Verdict}
use Rattle.pg_evidence.specs.declared.verdict.Verdict.TheVariants.{Valid, Faulty, FaultyImage}

-- what a claim with images says before its nodes, and how many these are as the file has them
abbrev pub image_head : ImageClaim → ClaimHead
image_head claim = record {
  turn = claim.turn;
  side = claim.side;
  goal = claim.goal;
  nodes = length claim.nodes;
}

-- what the claims say before their nodes, and how many these are as the file has them
abbrev pub heads_of_evidence : Evidence → List ClaimHead
heads_of_evidence (Plain c) = heads_of c
heads_of_evidence (Folded c) = map image_head c.claims

-- what it stands for is valid, and its claims say this; or this is its first fault
abbrev pub IsFound : Game → Evidence → Verdict → Type 0
IsFound g e (Valid heads) = ShowsValid g e × (heads.items ≡ heads_of_evidence e)
IsFound g e (Faulty claim node why) = HasFault g e claim node why
IsFound g e (FaultyImage claim node why) = HasImageFault g e claim node why

-- a certificate was read and judged; or what stands against reading it
abbrev pub IsJudgedAs : Game → Result Evidence Halt → Result Verdict Halt → Type 0
IsJudgedAs g read (Ok verdict) = (e : Evidence) × (read ≡ Ok e) × IsFound g e verdict
IsJudgedAs g read (Err (Refused refusal)) = read ≡ Err (Refused refusal)
IsJudgedAs g read (Err (Stopped stop)) = ⊤

-- where it is told what the names hold, so is the certificate under one of them
abbrev pub JudgesEvidence : Option Holding → Game → Bytes → Result Verdict Halt → Type 0
JudgesEvidence None g name r = ⊤
JudgesEvidence (Some held) g name r = IsJudgedAs g (evidence_held (held name)) r
