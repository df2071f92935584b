-- The lines that say why a run ended early.
use Rattle.std.specs.Prelude.{ℕ, List, codes, ◌++◌, decimal}
use Rattle.ballot_csv.specs.declared.limits.TheConstants.{LONGEST_FILE}
use Rattle.cert_text.specs.declared.limits.TheConstants.{LONGEST_TEXT}
use Rattle.mov_words.specs.Faults.{word_fault_text}
use Rattle.mov_run.specs.declared.run_faults.RunFault.{RunFault}
use Rattle.ballot_csv.specs.Faults.{ballot_kind_text}
use Rattle.cert_text.specs.Faults.{cert_kind_text}
use Rattle.mov_run.specs.declared.run_faults.RunFault.TheVariants.{Words, Ballots, Long, Certificate, LongCertificate, Read, Memory}

-- the line that says why a run ended early
abbrev pub line_of : RunFault → List ℕ
line_of (Words fault) = codes "mov: words: " ++ (word_fault_text fault ++ codes "\n")
line_of (Ballots fault) = codes "mov: ballots: record "
    ++ (decimal fault.at ++ (codes ": " ++ (ballot_kind_text fault.kind ++ codes "\n")))
line_of Long = codes "mov: ballots: longer than " ++ (decimal LONGEST_FILE ++ codes " bytes\n")
line_of (Certificate fault) = codes "mov: certificate: line "
    ++ (decimal fault.line ++ (codes ": " ++ (cert_kind_text fault.kind ++ codes "\n")))
line_of LongCertificate = codes "mov: certificate: longer than " ++ (decimal LONGEST_TEXT ++ codes " bytes\n")
line_of (Read name) = codes "mov: read failed: " ++ (name ++ codes "\n")
line_of Memory = codes "mov: out of memory\n"
