-- The text of a verdict on a certificate.
use Rattle.std.specs.Prelude.{ℕ, List, codes, ◌++◌, decimal, [], ◌∷◌}
use Rattle.cert_text.specs.declared.cert.Cert.{Cert}
use Rattle.margin_check.specs.declared.verdict.Verdict.{Verdict}
use Rattle.margin_check.specs.declared.verdict.Reason.{Reason}
use Rattle.text_lines.specs.Words.{line_text}
use Rattle.cert_text.specs.CertText.{claim_words}
use Rattle.margin_check.specs.Verdicts.{reason_name, reason_number}
use Rattle.mov_run.specs.Tally.{rule_text}
use Rattle.margin_check.specs.declared.verdict.Verdict.TheVariants.{Valid, No}

-- what is said of a valid certificate: its rule and its claim
abbrev pub valid_text : Cert → List ℕ
valid_text cert = line_text (codes "VALID" ∷ []) ++ (rule_text cert.rule ++ line_text (claim_words cert.claim))

-- what is said of a refused one: the number and the name of the reason, and the line
abbrev pub refused_text : Reason → ℕ → List ℕ
refused_text reason line = line_text (codes "REFUSED" ∷ decimal (reason_number reason) ∷ reason_name reason
    ∷ codes "line" ∷ decimal line ∷ [])

-- the text of a verdict
abbrev pub verdict_text : Cert → Verdict → List ℕ
verdict_text cert Valid = valid_text cert
verdict_text cert (No reason line) = refused_text reason line
