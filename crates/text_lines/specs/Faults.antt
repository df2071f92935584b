-- Faults of a line, and which of two is told.
use Rattle.std.specs.Prelude.{⊤, Result, Ok, Err}
use Rattle.text_lines.specs.declared.fault.LineFault.{LineFault}
use Rattle.text_lines.specs.declared.fault.LineFault.TheVariants.{BadLine, BadNumber, Memory}

-- a fact of what was read, where memory didn't run out
abbrev pub UnlessMemory : {A : Type 0} → Result A LineFault → Type 0 → Type 0
UnlessMemory (Err Memory) P = ⊤
UnlessMemory (Err BadLine) P = P
UnlessMemory (Err BadNumber) P = P
UnlessMemory (Ok x) P = P

-- the graver of two faults: want of memory before a bad line, and that before a bad number
abbrev pub graver : LineFault → LineFault → LineFault
graver Memory f = Memory
graver BadLine Memory = Memory
graver BadLine BadLine = BadLine
graver BadLine BadNumber = BadLine
graver BadNumber f = f

-- two parts of a line, or the graver fault of them
abbrev pub both : {A B : Type 0} → Result A LineFault → Result B LineFault → Result (A × B) LineFault
both (Ok x) (Ok y) = Ok (x, y)
both (Ok x) (Err e) = Err e
both (Err e) (Ok y) = Err e
both (Err e) (Err f) = Err (graver e f)
