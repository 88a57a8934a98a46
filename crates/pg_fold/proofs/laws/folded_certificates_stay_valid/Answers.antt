-- Copies of sound nodes are sound.
use Rattle.pg_fold.proofs.Staying.{certificate-flawless, certificate-valid, certificate-same}
use Rattle.pg_fold.proofs.laws.folded_certificates_stay_valid.Goals as goal

pub returns : goal.returns
returns c = record {
  sound = certificate-flawless;
  valid = certificate-valid;
  claims = λ g c d u folded unfolded. certificate-same g c.claims d.claims u.cert.claims u.sources
      folded.claims unfolded.claims;
}
