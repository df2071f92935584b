-- What the call answers, by how all lines are read.
use Rattle.std.proofs.Common.{◌≡◌, List, ℕ, Result, Ok, Err, sym, ap, subst, inl, inr}
use Rattle.std.specs.Prelude.{IfErr, IfOk}
use Rattle.cert_text.specs.declared.cert.Cert.{Cert}
use Rattle.cert_text.specs.declared.fault.CertFault.{CertFault}
use Rattle.cert_text.specs.declared.fault.CertKind.{CertKind}
use Rattle.cert_text.specs.declared.fault.CertKind.TheVariants.{BadLine, BadNumber, TooDeep, TreeEnds, Tail, TooManyNodes, Memory}
use Rattle.cert_text.specs.CertReading.{cert_at}
use Rattle.cert_text.specs.CertText.{CertText}
use Rattle.cert_text.specs.Faults.{OrMemory}
use Rattle.cert_text.specs.Reading.{ReadsCert, ReadsPart}
use Rattle.cert_text.proofs.Whole.{cert_takes, is_read}

-- a fact holds for each kind of fault, where it holds at all
or_memory : (kind : CertKind) (P : Type 0) → P → OrMemory kind P
or_memory BadLine P p = p
or_memory BadNumber P p = p
or_memory TooDeep P p = p
or_memory TreeEnds P p = p
or_memory Tail P p = p
or_memory TooManyNodes P p = p
or_memory Memory P p = tt

abbrev pub IsRead : List ℕ → Result Cert CertFault → Type 0
IsRead text answer = ReadsPart (λ x. x) answer (cert_at text)

pub has_text : (text : List ℕ) (answer : Result Cert CertFault) → IsRead text answer → IfOk answer (λ cert. CertText text cert)
has_text text (Ok cert) read = cert_takes text cert read
has_text text (Err f) read = tt

pub reads_exactly : (text : List ℕ) (answer : Result Cert CertFault) → IsRead text answer → ReadsCert answer (cert_at text)
reads_exactly text (Ok cert) read = read
reads_exactly text (Err f) (inl wanting) = subst (λ (g : CertFault). OrMemory g.kind (cert_at text ≡ Err g)) (sym wanting) tt
reads_exactly text (Err f) (inr told) = or_memory f.kind _ told.1

pub reads_only : (text : List ℕ) (answer : Result Cert CertFault) → IsRead text answer → (cert : Cert) → CertText text cert → ReadsCert answer (Ok cert)
reads_only text answer read cert is = subst (λ (said : Result Cert CertFault). ReadsCert answer said) (is_read text cert is) (reads_exactly text answer read)

-- where memory ran out no line is named
pub names_no_line : (text : List ℕ) (answer : Result Cert CertFault) → IsRead text answer → IfErr answer (λ f. f.kind ≡ Memory → f.line ≡ 0)
names_no_line text (Ok cert) read = tt
names_no_line text (Err f) (inl wanting) = λ is. ap (λ (g : CertFault). g.line) wanting
names_no_line text (Err f) (inr told) = λ is. absurd (told.0 is)
