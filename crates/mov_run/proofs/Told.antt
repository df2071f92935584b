-- What is told, and what comes of it.
use Rattle.std.proofs.Common.{ℕ, List, ◌≡◌, ◌∙◌, Some, None, Option, sym, ap, subst, inl, inr, arith}
use Rattle.std.specs.Prelude.{Result, Ok, Err}
use Rattle.mov_edge.specs.Outside.{Named, Lacks, Rose, Tells}
use Rattle.ballot_csv.specs.BallotFile.{NamedPoll, read_of}
use Rattle.cert_text.specs.CertText.{CertText}
use Rattle.cert_text.specs.declared.cert.Cert.{Cert}
use Rattle.mov_run.specs.Jobs.{Answer, OverBallots, OverBoth, OverCert, OverContest}
use Rattle.mov_run.specs.Inputs.{Began, HasNoCert, HasNoContest, IsCertFile, IsContestFile, IsReadContest, Source}
use Rattle.mov_run.specs.Run.{IsToldCert, IsToldContest, Outside, source_of}
use Rattle.mov_run.specs.declared.run_faults.RunFault.{RunFault}

pub not_both : (told : Option (List Named)) (name bytes : List ℕ) → Tells told name bytes → Lacks told name → ⊥
not_both None name bytes t l = t
not_both (Some files) name bytes t l = cc

pub ok_is : {A E : Type 0} (r : Result A E) (a b : A) → r ≡ Ok a → r ≡ Ok b → a ≡ b
ok_is r a b p q = cc

pub err_is : {A E : Type 0} (r : Result A E) (a b : E) → r ≡ Err a → r ≡ Err b → a ≡ b
err_is r a b p q = cc

pub ok_or_err : {A E : Type 0} (r : Result A E) (k : A) (f : E) → r ≡ Ok k → r ≡ Err f → ⊥
ok_or_err r k f a b = cc

-- ---- ballot files

-- a told contest comes of its file
pub no_stop : (old new : Outside) (file : List ℕ) (k : NamedPoll) (t : RunFault) → IsToldContest old file k → (Rose old.files.faults new.files.faults → ⊥) → HasNoContest (source_of old new) file t → ⊥
no_stop old new file k t told quiet (inl unread) = elim unread.1.why [ inl rose ↦ quiet rose | inr lacks ↦ not_both old.files.told file told.bytes told.told lacks ]
no_stop old new file k t told quiet (inr (inl long)) = let lt = long.1.told told.bytes told.told in let le = told.accepted.0 in omega arith
no_stop old new file k t told quiet (inr (inr faulty)) =
    let same : faulty.2.bytes ≡ told.bytes = faulty.2.read.file.told told.bytes told.told in
    ok_or_err (read_of told.bytes) k faulty.0 told.accepted.1 (ap read_of (sym same) ∙ faulty.2.faulty.1)

pub same_contest : (old new : Outside) (file : List ℕ) (k other : NamedPoll) → IsToldContest old file k → IsContestFile (source_of old new) file other → other ≡ k
same_contest old new file k other told is =
    let same : is.bytes ≡ told.bytes = is.file.told told.bytes told.told in
    ok_is (read_of told.bytes) other k (ap read_of (sym same) ∙ is.accepted.1) told.accepted.1

-- a file that was read to its end stands for its contest
pub contest_of : (s : Source) (name : List ℕ) (k : NamedPoll) → IsReadContest s name k → IsContestFile s name k
contest_of s name k is = record { bytes = is.bytes; file = is.read.file; accepted = is.accepted }

contest_answer : (old new : Outside) (file : List ℕ) (k : NamedPoll) (next : NamedPoll → Answer → Type 0) (a : Answer) → IsToldContest old file k → (Rose old.files.faults new.files.faults → ⊥)
    → ((other : NamedPoll) → next other a → IsContestFile (source_of old new) file other) → OverContest (source_of old new) file next a → next k a
contest_answer old new file k next a told quiet is (inl stopped) = absurd (no_stop old new file k stopped.0 told quiet stopped.2)
contest_answer old new file k next a told quiet is (inr good) = subst (λ other. next other a) (same_contest old new file k good.0 told (is good.0 good.1)) good.1

-- the answer of a job with one file, which is told and accepted
pub ballots_answer : (old new : Outside) (file : List ℕ) (k : NamedPoll) (next : NamedPoll → Answer → Type 0) (a : Answer) → IsToldContest old file k → (Rose old.files.faults new.files.faults → ⊥)
    → OverBallots (source_of old new) file next a → next k a
ballots_answer old new file k next a told quiet over =
    (contest_answer old new file k (λ k a. IsReadContest (source_of old new) file k × Began (source_of old new) 1 × next k a) a told quiet (λ other is. contest_of (source_of old new) file other is.0) over).2

-- the answer of a job with a certificate file too
pub both_answer : (old new : Outside) (file name : List ℕ) (k : NamedPoll) (next : NamedPoll → Cert → Answer → Type 0) (a : Answer) → IsToldContest old file k → (Rose old.files.faults new.files.faults → ⊥)
    → OverBoth (source_of old new) file name next a → OverCert (source_of old new) name (λ cert a. next k cert a) a
both_answer old new file name k next a told quiet over =
    (contest_answer old new file k (λ k a. IsContestFile (source_of old new) file k × Began (source_of old new) 2 × OverCert (source_of old new) name (λ cert a. next k cert a) a) a told quiet (λ other is. is.0) over).2

-- ---- certificates

-- a told certificate comes of its file
pub no_cert_stop : (old new : Outside) (name : List ℕ) (cert : Cert) (t : RunFault) → IsToldCert old name cert → (Rose old.files.faults new.files.faults → ⊥) → HasNoCert (source_of old new) name t → ⊥
no_cert_stop old new name cert t told quiet (inl unread) = elim unread.1.why [ inl rose ↦ quiet rose | inr lacks ↦ not_both old.files.told name told.bytes told.told lacks ]
no_cert_stop old new name cert t told quiet (inr (inl long)) = let lt = long.1.told told.bytes told.told in let le = told.short in omega arith
no_cert_stop old new name cert t told quiet (inr (inr faulty)) =
    let same : faulty.2.bytes ≡ told.bytes = faulty.2.read.file.told told.bytes told.told in
    faulty.2.none cert (subst (λ bytes. CertText bytes cert) (sym same) told.text)

pub same_cert : (old new : Outside) (name : List ℕ) (cert other : Cert) → IsToldCert old name cert → IsCertFile (source_of old new) name other → other ≡ cert
same_cert old new name cert other told is =
    let same : is.bytes ≡ told.bytes = is.read.file.told told.bytes told.told in
    sym (is.only cert (subst (λ bytes. CertText bytes cert) (sym same) told.text))
