-- Faults of the words, and what is told of each.
use Rattle.std.specs.Prelude.{⊤, ℕ, List, codes}
use Rattle.mov_words.specs.declared.fault.WordFault.{WordFault}
use Rattle.mov_words.specs.declared.fault.WordFault.TheVariants.{NoCommand, UnknownCommand, Line, UnknownRule, BadSeats, SeatsMissing, SeatsUnwanted, BadBudget, BadSeed, Memory}

-- what is said of a fault
abbrev pub word_fault_text : WordFault → List ℕ
word_fault_text NoCommand = codes "no command"
word_fault_text UnknownCommand = codes "unknown command"
word_fault_text Line = codes "wrong arguments"
word_fault_text UnknownRule = codes "unknown rule"
word_fault_text BadSeats = codes "bad seats"
word_fault_text SeatsMissing = codes "seats missing"
word_fault_text SeatsUnwanted = codes "seats unwanted"
word_fault_text BadBudget = codes "bad budget"
word_fault_text BadSeed = codes "bad seed"
word_fault_text Memory = codes "out of memory"

-- a fact of each fault but want of memory
abbrev pub OrMemory : WordFault → Type 0 → Type 0
OrMemory Memory P = ⊤
OrMemory _ P = P
