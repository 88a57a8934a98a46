-- A node line takes the step that its node says.
use Rattle.std.proofs.Common.{ℕ, Result, Ok, Err, Option, Some}
use Rattle.std.proofs.Common.{ap}
use Rattle.pg_cert_files.proofs.Common.{Node, Part, Gives, and_then, LineError, Bytes, node_line}
use Rattle.pg_cert_files.proofs.Common.{Fault}
use Rattle.pg_cert.specs.declared.part.Part.TheVariants as part
use Rattle.pg_text.specs.declared.error.LineError.TheVariants as errors
use Rattle.pg_cert_lines.specs.Outline.{node_part}
use Rattle.pg_cert_files.specs.CertFile.{behind, node_step}
use Rattle.pg_cert_files.specs.Steps.{Steps}
use Rattle.pg_cert_files.specs.declared.progress.Progress.{Progress}

pub node_steps : (result : Result (Option Part) (LineError Fault)) (others : ℕ) (p : Progress)
    (line : Bytes)
    → Gives (λ o. o) result (node_part (node_line p.version line))
    → Steps result (record p { due = behind others }) (node_step others p line)
node_steps result others p line h = stepped result (node_line p.version line) h
  where
    stepped : (result : Result (Option Part) (LineError Fault)) (read : Result Node Fault)
        → Gives (λ o. o) result (node_part read)
        → Steps result (record p {
          due = behind others;
        }) (and_then read (λ node. Ok (record p { due = behind others }, Some (part.Node node))))
    stepped (Ok o) (Ok node) h = ap (λ (r : Result (Option Part) Fault). and_then r (λ o. Ok (
      record p { due = behind others },
      o,
    ))) h
    stepped (Ok o) (Err fault) h = absurd cc
    stepped (Err errors.Memory) read h = tt
    stepped (Err (errors.Fault fault)) (Ok node) h = absurd cc
    stepped (Err (errors.Fault fault)) (Err other) h = ap (λ (r : Result (Option Part) Fault).
        and_then r (λ o. Ok (record p { due = behind others }, o))) h
