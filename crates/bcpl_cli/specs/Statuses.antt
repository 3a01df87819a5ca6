-- The exit statuses of the program.
use Rattle.std.specs.Prelude.{ℕ, Result, Ok, Err, Option, None}
use Rattle.bcpl_cli.specs.declared.failure.Cause.{Cause}
use Rattle.bcpl_cli.specs.declared.failure.Cause.TheVariants as causes
use Rattle.bcpl_cli.specs.declared.failure.Failure.{Failure}

-- A failure without further lines.
abbrev pub unexplained : Cause → Failure
unexplained cause = record { cause = cause; explanation = None }

-- 2 if a run ended in another way than by finishing, was cut off, or met a wild cell or a strict run's mistake; otherwise 1.
abbrev pub cause_status : Cause → ℕ
cause_status (causes.Ended end) = 2
cause_status causes.TurnsSpent = 2
cause_status (causes.Wild wild) = 2
cause_status (causes.Strict strict) = 2
cause_status cause = 1

-- 0 on success, otherwise the status of the failure's cause.
abbrev pub status_of : {X : Type 0} → Result X Failure → ℕ
status_of (Ok x) = 0
status_of (Err failure) = cause_status failure.cause
