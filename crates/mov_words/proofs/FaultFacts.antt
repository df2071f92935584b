-- Facts of each fault but want of memory.
use Rattle.mov_words.specs.Faults.{OrMemory}
use Rattle.mov_words.specs.declared.fault.WordFault.{WordFault}
use Rattle.mov_words.specs.declared.fault.WordFault.TheVariants as fault

pub or_memory : (f : WordFault) {P Q : Type 0} → (P → Q) → OrMemory f P → OrMemory f Q
or_memory fault.NoCommand g h = g h
or_memory fault.UnknownCommand g h = g h
or_memory fault.Line g h = g h
or_memory fault.UnknownRule g h = g h
or_memory fault.BadSeats g h = g h
or_memory fault.SeatsMissing g h = g h
or_memory fault.SeatsUnwanted g h = g h
or_memory fault.BadBudget g h = g h
or_memory fault.BadSeed g h = g h
or_memory fault.Memory g h = h
