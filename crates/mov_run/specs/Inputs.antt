-- Files as a run finds them: what is told, what was read, and what their bytes are.
use Rattle.std.specs.Prelude.{◌≡◌, ◌⊎◌, ◌<◌, ◌≤◌, ℕ, zero, suc, List, length, IfSome, Option, Some, Result, Ok, Err}
use Rattle.mov_edge.specs.Outside.{Named, Place, Tells, Lacks, Rose, TookMore, next_count}
use Rattle.ballot_csv.specs.BallotFile.{IsAccepted, IsFaulty, NamedPoll, named_poll_of}
use Rattle.ballot_csv.specs.declared.fault.BallotFault.{BallotFault}
use Rattle.ballot_form.specs.declared.contest.Contest.{Contest}
use Rattle.cert_text.specs.CertReading.{cert_at}
use Rattle.cert_text.specs.CertText.{CertText}
use Rattle.ballot_csv.specs.declared.limits.TheConstants.{LONGEST_FILE}
use Rattle.cert_text.specs.declared.limits.TheConstants.{LONGEST_TEXT}
use Rattle.cert_text.specs.declared.cert.Cert.{Cert}
use Rattle.cert_text.specs.declared.fault.CertFault.{CertFault}
use Rattle.mov_run.specs.declared.run_faults.RunFault.{RunFault}
use Rattle.mov_run.specs.declared.run_faults.RunFault.TheVariants.{Ballots, Certificate, Long, LongCertificate, Memory, Read}

-- files at one moment: what is told of them, the one that is being read, how many were begun, and the count of their
-- faults
pub record Shelf : Type 0 where
  pub told : Option (List Named)
  pub at : Option Place
  pub begun : ℕ
  pub faults : ℕ

-- the same, of a value that has these four as ghost members
abbrev pub shelf : {F : Type 0} → (F → Option (List Named)) → (F → Option Place) → (F → ℕ) → (F → ℕ) → F → Shelf
shelf told at begun faults files =
    record { told = told files; at = at files; begun = begun files; faults = faults files }

-- what a run finds: the files as it begins and as it ends
pub record Source : Type 0 where
  pub old : Shelf
  pub new : Shelf

-- the same, of a value that has these four as ghost members
abbrev pub found : {F : Type 0} → (F → Option (List Named)) → (F → Option Place) → (F → ℕ) → (F → ℕ) → F → F → Source
found told at begun faults old new =
    record { old = shelf told at begun faults old; new = shelf told at begun faults new }

-- the value of a count after so many more
abbrev pub count_after : ℕ → ℕ → ℕ
count_after zero count = count
count_after (suc more) count = next_count (count_after more count)

-- so many files were begun
abbrev pub Began : Source → ℕ → Type 0
Began s n = s.new.begun ≡ count_after n s.old.begun

-- at most so many files were begun
pub record BeganAtMost (s : Source) (most : ℕ) : Type 0 where
  pub count : ℕ
  pub within : count ≤ most
  pub begun : Began s count

-- the file can't be read: a fault came, or it is known to be absent; and the reading stopped at no other file
pub record IsUnread (s : Source) (name : List ℕ) : Type 0 where
  pub why : Rose s.old.faults s.new.faults ⊎ Lacks s.old.told name
  pub at : IfSome s.new.at (λ p. p.name ≡ name)

-- the file stands for these bytes: those that are told, if any are
pub record IsFile (s : Source) (name bytes : List ℕ) : Type 0 where
  pub told : (t : List ℕ) → Tells s.old.told name t → bytes ≡ t
  pub there : Lacks s.old.told name → ⊥

-- the file was read to its end without a fault, and it stands for these bytes
pub record IsReadFile (s : Source) (name bytes : List ℕ) : Type 0 where
  pub file : IsFile s name bytes
  pub end : s.new.at ≡ Some (record { name = name; given = length bytes })
  pub kept : s.new.faults ≡ s.old.faults

-- more than the limit was taken of the file, without a fault
pub record IsLong (s : Source) (name : List ℕ) (limit : ℕ) : Type 0 where
  pub taken : TookMore s.new.at name limit
  pub kept : s.new.faults ≡ s.old.faults
  pub told : (t : List ℕ) → Tells s.old.told name t → limit < length t
  pub there : Lacks s.old.told name → ⊥

-- ---- the ballot file

-- the file stands for bytes that are the ballot file of this contest
pub record IsContestFile (s : Source) (name : List ℕ) (k : NamedPoll) : Type 0 where
  pub bytes : List ℕ
  pub file : IsFile s name bytes
  pub accepted : IsAccepted bytes k

-- the file was read to its end, and its bytes are the ballot file of this contest
pub record IsReadContest (s : Source) (name : List ℕ) (k : NamedPoll) : Type 0 where
  pub bytes : List ℕ
  pub read : IsReadFile s name bytes
  pub accepted : IsAccepted bytes k

-- the file was read to its end, and this is the first fault of its bytes
pub record IsFaultyFile (s : Source) (name : List ℕ) (fault : BallotFault) : Type 0 where
  pub bytes : List ℕ
  pub read : IsReadFile s name bytes
  pub faulty : IsFaulty bytes fault

-- why no contest comes of the ballot file, want of memory aside
abbrev pub HasNoContest : Source → List ℕ → RunFault → Type 0
HasNoContest s name why =
    ((why ≡ Read name) × IsUnread s name)
    ⊎ ((why ≡ Long) × IsLong s name LONGEST_FILE)
    ⊎ ((fault : BallotFault) × (why ≡ Ballots fault) × IsFaultyFile s name fault)

-- ---- the certificate file

-- the file was read to its end, and its bytes are the text of this certificate, and of no other
pub record IsCertFile (s : Source) (name : List ℕ) (cert : Cert) : Type 0 where
  pub bytes : List ℕ
  pub read : IsReadFile s name bytes
  pub short : length bytes ≤ LONGEST_TEXT
  pub text : CertText bytes cert
  pub only : (other : Cert) → CertText bytes other → other ≡ cert
  pub said : cert_at bytes ≡ Ok cert

-- the file was read to its end, its bytes are the text of no certificate, and this is their first fault
pub record IsFaultyCert (s : Source) (name : List ℕ) (fault : CertFault) : Type 0 where
  pub bytes : List ℕ
  pub read : IsReadFile s name bytes
  pub short : length bytes ≤ LONGEST_TEXT
  pub none : (cert : Cert) → CertText bytes cert → ⊥
  pub said : cert_at bytes ≡ Err fault

-- why no certificate comes of its file, want of memory aside
abbrev pub HasNoCert : Source → List ℕ → RunFault → Type 0
HasNoCert s name why =
    ((why ≡ Read name) × IsUnread s name)
    ⊎ ((why ≡ LongCertificate) × IsLong s name LONGEST_TEXT)
    ⊎ ((fault : CertFault) × (why ≡ Certificate fault) × IsFaultyCert s name fault)

-- ---- what is loaded

-- what loading a file of at most so many bytes gives, where a longer one is this fault
abbrev pub Loads : Source → List ℕ → ℕ → RunFault → Result (List ℕ) RunFault → Type 0
Loads s name limit too_long (Ok bytes) = IsReadFile s name bytes × (length bytes ≤ limit)
Loads s name limit too_long (Err why) =
    ((why ≡ Read name) × IsUnread s name) ⊎ ((why ≡ too_long) × IsLong s name limit) ⊎ (why ≡ Memory)

-- what loading a contest gives
abbrev pub LoadsContest : Source → List ℕ → Result Contest RunFault → Type 0
LoadsContest s name (Ok contest) = IsReadContest s name (named_poll_of contest)
LoadsContest s name (Err why) = HasNoContest s name why ⊎ (why ≡ Memory)

-- what loading a certificate gives
abbrev pub LoadsCert : Source → List ℕ → Result Cert RunFault → Type 0
LoadsCert s name (Ok cert) = IsCertFile s name cert
LoadsCert s name (Err why) = HasNoCert s name why ⊎ (why ≡ Memory)
