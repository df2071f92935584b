-- What one run leaves: its answer, delivered; and the ways to end.
use Rattle.std.specs.Prelude.{◌≡◌, ◌⊎◌, ◌≤◌, ℕ, List, length, Option, Result, Ok, Err, codes}
use Rattle.mov_edge.specs.Outside.{Tells, Rose, Took}
use Rattle.ballot_csv.specs.BallotFile.{IsAccepted, NamedPoll}
use Rattle.cert_text.specs.CertText.{CertText}
use Rattle.cert_text.specs.declared.limits.TheConstants.{LONGEST_TEXT}
use Rattle.mov_words.specs.Words.{meaning}
use Rattle.cert_text.specs.declared.cert.Cert.{Cert}
use Rattle.mov_words.specs.declared.fault.WordFault.{WordFault}
use Rattle.mov_run.specs.declared.runs.Output.{Output}
use Rattle.mov_run.specs.declared.run_faults.RunFault.{RunFault}
use Rattle.mov_run.specs.RunFaults.{line_of}
use Rattle.mov_run.specs.declared.runs.Status.{Status}
use Rattle.mov_edge.specs.Loads.{TookFirst}
use Rattle.mov_run.specs.Jobs.{Allowed, Answer}
use Rattle.mov_run.specs.Inputs.{Shelf, Source}
use Rattle.mov_run.specs.Status.{status_of}
use Rattle.mov_run.specs.declared.runs.Status.TheVariants.{Done, Refused, Memory, Write}

-- a sink took the line, or a first part of it where a fault came
abbrev pub Says : Option (List ℕ) → Option (List ℕ) → ℕ → ℕ → List ℕ → Type 0
Says old new before now line = (Took old new line × (now ≡ before)) ⊎ (TookFirst old new line × Rose before now)

-- a piece was written whole, and no fault came; or a first part of it, and a fault came
abbrev pub WritesAll : {T E : Type 0} → Option (List ℕ) → Option (List ℕ) → ℕ → ℕ → Result T E → List ℕ → Type 0
WritesAll old new before now (Ok x) piece = Took old new piece × (now ≡ before)
WritesAll old new before now (Err e) piece = TookFirst old new piece × Rose before now

-- ---- the outside

-- a sink at one moment: what it took, where that is told, and the count of its faults
pub record Drain : Type 0 where
  pub taken : Option (List ℕ)
  pub faults : ℕ

-- the same, of a value that has these two as ghost members
abbrev pub drain : {S : Type 0} → (S → Option (List ℕ)) → (S → ℕ) → S → Drain
drain taken faults sink = record { taken = taken sink; faults = faults sink }

-- what is seen of the outside at one moment
pub record Outside : Type 0 where
  pub files : Shelf
  pub out : Drain
  pub err : Drain

abbrev pub outside : Shelf → Drain → Drain → Outside
outside files out err = record { files = files; out = out; err = err }

-- the files over a run
abbrev pub source_of : Outside → Outside → Source
source_of old new = record { old = old.files; new = new.files }

-- ---- the delivery

-- the line went to the error sink
abbrev pub SaysLine : Outside → Outside → List ℕ → Type 0
SaysLine old new line = Says old.err.taken new.err.taken old.err.faults new.err.faults line

-- the whole text went out, and nothing else happened
pub record Wrote (old new : Outside) (text : List ℕ) : Type 0 where
  pub whole : Took old.out.taken new.out.taken text
  pub quiet : new.err ≡ old.err
  pub no_fault : (new.files.faults ≡ old.files.faults) × (new.out.faults ≡ old.out.faults)

-- a fault came while the text was written
pub record CutShort (old new : Outside) (text : List ℕ) : Type 0 where
  pub part : TookFirst old.out.taken new.out.taken text
  pub rose : Rose old.out.faults new.out.faults
  pub line : SaysLine old new (codes "mov: write failed\n")
  pub no_fault : new.files.faults ≡ old.files.faults

-- the run ended before the writing
pub record EndsEarly (old new : Outside) (why : RunFault) : Type 0 where
  pub silent : new.out ≡ old.out
  pub line : SaysLine old new (line_of why)

-- an answer is delivered, with this status
abbrev pub Delivers : Outside → Outside → Answer → Status → Type 0
Delivers old new (Ok output) s =
    ((s ≡ output.ends) × Wrote old new output.text) ⊎ ((s ≡ Write) × CutShort old new output.text)
Delivers old new (Err why) s = (s ≡ status_of why) × EndsEarly old new why

-- one run: an answer that the words and the files allow, delivered
pub record Ran (old new : Outside) (words : List (List ℕ)) (s : Status) : Type 0 where
  pub answer : Answer
  pub allowed : Allowed (source_of old new) words answer
  pub delivered : Delivers old new answer s
  pub told : new.files.told ≡ old.files.told
  -- where the words are at fault, no file is touched
  pub untouched : (fault : WordFault) → meaning words ≡ Err fault → new.files ≡ old.files

-- a text was sent, or cut short
abbrev pub Sent : Output → Drain → Drain → Drain → Drain → Status → Type 0
Sent output out out' err err' s =
    ((s ≡ output.ends) × Took out.taken out'.taken output.text × (out'.faults ≡ out.faults) × (err' ≡ err))
    ⊎ ((s ≡ Write) × TookFirst out.taken out'.taken output.text × Rose out.faults out'.faults
    × Says err.taken err'.taken err.faults err'.faults (codes "mov: write failed\n"))

-- ---- how a run ends

-- no read and no write failed, and there was memory
pub record IsUntroubled (old new : Outside) (s : Status) : Type 0 where
  pub reads : Rose old.files.faults new.files.faults → ⊥
  pub writes : Rose old.out.faults new.out.faults → ⊥
  pub memory : s ≡ Memory → ⊥

-- the file is told, and its bytes are accepted as this contest
pub record IsToldContest (old : Outside) (file : List ℕ) (k : NamedPoll) : Type 0 where
  pub bytes : List ℕ
  pub told : Tells old.files.told file bytes
  pub accepted : IsAccepted bytes k

-- the file is told, and its bytes are the text of this certificate
pub record IsToldCert (old : Outside) (name : List ℕ) (cert : Cert) : Type 0 where
  pub bytes : List ℕ
  pub told : Tells old.files.told name bytes
  pub short : length bytes ≤ LONGEST_TEXT
  pub text : CertText bytes cert

-- the whole of this text went out, nothing else did, and the run ended with this status
pub record EndsWhole (old new : Outside) (s ends : Status) (text : List ℕ) : Type 0 where
  pub status : s ≡ ends
  pub whole : Took old.out.taken new.out.taken text
  pub quiet : new.err ≡ old.err

-- the whole of this text went out, nothing else did, and all is well
abbrev pub IsDone : Outside → Outside → Status → List ℕ → Type 0
IsDone old new s text = EndsWhole old new s Done text

-- the whole of a refusal went out, and nothing else did
abbrev pub IsRefused : Outside → Outside → Status → List ℕ → Type 0
IsRefused old new s text = EndsWhole old new s Refused text

-- the run ended with this status and this line, or for want of memory
abbrev pub EndsWith : Outside → Outside → Status → Status → List ℕ → Type 0
EndsWith old new s ends line = ((s ≡ ends) × SaysLine old new line) ⊎ (s ≡ Memory)
