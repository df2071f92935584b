-- What is delivered.
use Rattle.std.proofs.Common.{ℕ, List, ◌≡◌, ◌⊎◌, inl, inr}
use Rattle.std.specs.Prelude.{Ok, Err}
use Rattle.mov_run.specs.Jobs.{Answer}
use Rattle.mov_run.specs.Run.{IsDone, IsUntroubled, EndsWhole, CutShort, Delivers, Outside, EndsEarly, Wrote}
use Rattle.mov_run.specs.Status.{status_of}
use Rattle.mov_run.specs.declared.runs.Output.{Output}
use Rattle.mov_run.specs.declared.runs.Status.{Status}
use Rattle.mov_run.specs.declared.runs.Status.TheVariants.{Done, Write, Memory}
use Rattle.mov_run.specs.declared.run_faults.RunFault.{RunFault}
use Rattle.mov_run.specs.declared.run_faults.RunFault.TheVariants as run_fault

-- a text was written whole with its status, or cut short
abbrev pub Goes : Outside → Outside → Status → Output → Type 0
Goes old new s o = ((s ≡ o.ends) × Wrote old new o.text) ⊎ ((s ≡ Write) × CutShort old new o.text)

pub delivered_ok : (old new : Outside) (s : Status) (a : Answer) (o : Output) → a ≡ Ok o → Delivers old new a s → Goes old new s o
delivered_ok old new s a o is d = rw is at d

pub delivered_err : (old new : Outside) (s : Status) (a : Answer) (t : RunFault) → a ≡ Err t → Delivers old new a s → (s ≡ status_of t) × EndsEarly old new t
delivered_err old new s a t is d = rw is at d

pub memory_of : (old new : Outside) (s : Status) (a : Answer) → a ≡ Err run_fault.Memory → Delivers old new a s → s ≡ Memory
memory_of old new s a is d = (delivered_err old new s a run_fault.Memory is d).0

pub whole_by : (old new : Outside) (s ends : Status) (text : List ℕ) → Goes old new s (record { ends = ends; text = text }) → IsUntroubled old new s → EndsWhole old new s ends text
whole_by old new s ends text (inl w) untroubled = record { status = w.0; whole = w.1.whole; quiet = w.1.quiet }
whole_by old new s ends text (inr c) untroubled = absurd (untroubled.writes c.1.rose)

pub whole_of : (old new : Outside) (s ends : Status) (a : Answer) (text : List ℕ) → a ≡ Ok (record { ends = ends; text = text }) → Delivers old new a s → IsUntroubled old new s
    → EndsWhole old new s ends text
whole_of old new s ends a text is d untroubled = whole_by old new s ends text (delivered_ok old new s a (record { ends = ends; text = text }) is d) untroubled

pub done_of : (old new : Outside) (s : Status) (a : Answer) (text : List ℕ) → a ≡ Ok (record { ends = Done; text = text }) → Delivers old new a s → IsUntroubled old new s → IsDone old new s text
done_of old new s a text is d untroubled = whole_of old new s Done a text is d untroubled
