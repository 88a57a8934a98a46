-- What a step of reading returns.
use Rattle.std.specs.Prelude.{◌≡◌, Option, Result, Ok, Err}
use Rattle.pg_cert_files.specs.Prelude.{Fails, LineError, Part, Fault}
use Rattle.pg_cert_files.specs.CertFile.{Step}
use Rattle.pg_cert_files.specs.declared.progress.Progress.{Progress}

-- a part and the progress after it, if there is no fault, unless memory ran out
abbrev pub Steps : Result (Option Part) (LineError Fault) → Progress → Step → Type 0
Steps (Ok part) new stepped = stepped ≡ Ok (new, part)
Steps (Err error) new stepped = Fails error stepped
