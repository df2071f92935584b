-- The statuses that a run ends with.
use Rattle.std.specs.Prelude.{ℕ, Bool, true, false}
use Rattle.cert_text.specs.declared.cert.Claim.{Claim}
use Rattle.cert_text.specs.declared.cert.Claim.TheVariants as claim
use Rattle.margin_check.specs.declared.verdict.Verdict.{Verdict}
use Rattle.mov_run.specs.declared.run_faults.RunFault.{RunFault}
use Rattle.mov_run.specs.declared.runs.Status.{Status}
use Rattle.margin_check.specs.declared.verdict.Verdict.TheVariants.{Valid, No}
use Rattle.mov_run.specs.declared.runs.Status.TheVariants.{Done, Bounds, Refused, Words, Ballots, Certificate, Read, Write, Memory}
use Rattle.mov_run.specs.declared.run_faults.RunFault.TheVariants as run_fault

-- the number that the program ends with
abbrev pub status_number : Status → ℕ
status_number Done = 0
status_number Bounds = 1
status_number Refused = 2
status_number Words = 3
status_number Ballots = 4
status_number Certificate = 5
status_number Read = 6
status_number Write = 7
status_number Memory = 8

abbrev pub status_of : RunFault → Status
status_of (run_fault.Words fault) = Words
status_of (run_fault.Ballots fault) = Ballots
status_of run_fault.Long = Ballots
status_of (run_fault.Certificate fault) = Certificate
status_of run_fault.LongCertificate = Certificate
status_of (run_fault.Read name) = Read
status_of run_fault.Memory = Memory

-- the status of a run that wrote it whole
abbrev pub status_after : Verdict → Status
status_after Valid = Done
status_after (No reason line) = Refused

-- the status of a run that wrote a certificate of this claim whole
abbrev pub status_for : Claim → Status
status_for (claim.Margin k) = Done
status_for claim.Fixed = Done
status_for (claim.Bounds low up stop) = Bounds

-- the status of a run that wrote the summary of a drill whole, where some claim in it is bounds, or none is
abbrev pub drill_status : Bool → Status
drill_status true = Bounds
drill_status false = Done

-- the statuses of a run that stopped before the writing
abbrev pub IsEarlyEnd : Status → Type 0
IsEarlyEnd Done = ⊥
IsEarlyEnd Bounds = ⊥
IsEarlyEnd Refused = ⊥
IsEarlyEnd Write = ⊥
IsEarlyEnd s = Unit {0}

-- the statuses of a run that wrote its whole text
abbrev pub IsWritten : Status → Type 0
IsWritten Done = Unit {0}
IsWritten Bounds = Unit {0}
IsWritten Refused = Unit {0}
IsWritten s = ⊥
