-- Faults of a text, and what is told of each.
use Rattle.std.specs.Prelude.{ℕ, List, codes}
use Rattle.cert_text.specs.declared.fault.CertFault.{CertFault}
use Rattle.cert_text.specs.declared.fault.CertKind.{CertKind}
use Rattle.cert_text.specs.declared.fault.CertKind.TheVariants.{BadLine, BadNumber, TooDeep, TreeEnds, Tail, TooManyNodes, Memory}

-- what is said of a kind of fault
abbrev pub cert_kind_text : CertKind → List ℕ
cert_kind_text BadLine = codes "bad line"
cert_kind_text BadNumber = codes "bad number"
cert_kind_text TooDeep = codes "too deep"
cert_kind_text TreeEnds = codes "tree ends"
cert_kind_text Tail = codes "tail"
cert_kind_text TooManyNodes = codes "too many nodes"
cert_kind_text Memory = codes "out of memory"

-- a fact of each kind of fault but want of memory
abbrev pub OrMemory : CertKind → Type 0 → Type 0
OrMemory Memory P = Unit {0}
OrMemory kind P = P

abbrev pub fault : CertKind → ℕ → CertFault
fault kind line = record { kind = kind; line = line }

-- want of memory names no line
abbrev pub no_memory : CertFault
no_memory = fault Memory 0
