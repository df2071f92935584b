-- From what is loaded to the answers of jobs.
use Rattle.std.proofs.Common.{ℕ, List, ◌≡◌, ◌≤◌, ◌⊎◌, ◌∙◌, ap, refl, sym, subst, inl, inr, arith}
use Rattle.std.specs.Prelude.{Ok, Err}
use Rattle.mov_edge.specs.Outside.{Lacks, Rose, Tells, next_count}
use Rattle.ballot_csv.specs.BallotFile.{NamedPoll}
use Rattle.cert_text.specs.declared.cert.Cert.{Cert}
use Rattle.margin_check.specs.declared.verdict.Verdict.{Verdict}
use Rattle.mov_run.specs.Jobs.{Answer, AnswersOrMemory, IsVerdict}
use Rattle.mov_run.specs.Inputs.{Began, HasNoCert, IsCertFile, IsContestFile, IsFile, IsReadContest, IsReadFile, Shelf, Source}
use Rattle.mov_run.specs.Status.{status_after}
use Rattle.mov_run.specs.Verdicts.{verdict_text}
use Rattle.mov_words.specs.Words.{file_count}
use Rattle.mov_words.specs.declared.jobs.Job.{Job}
use Rattle.mov_words.specs.declared.jobs.Job.TheVariants.{Check}
use Rattle.mov_run.specs.declared.runs.Status.{Status}
use Rattle.mov_run.specs.declared.run_faults.RunFault.{RunFault}
use Rattle.mov_run.specs.declared.run_faults.RunFault.TheVariants.{Memory}

abbrev pub over : Shelf → Shelf → Source
over old new = record { old = old; new = new }

-- ---- want of memory

-- there was no memory once so many files were begun
pub no_memory : (s : Source) (job : Job) (a : Answer) (n : ℕ) → n ≤ file_count (Ok job) → Began s n → a ≡ Err Memory → AnswersOrMemory s job a
no_memory s job a n within begun is = inr (is, record { count = n; within = within; begun = begun })

-- ---- the first file of two

-- what a file stands for stays so while another is read
contest_later : (old mid new : Shelf) (name : List ℕ) (k : NamedPoll) → IsReadContest (over old mid) name k → IsContestFile (over old new) name k
contest_later old mid new name k is = record {
  bytes = is.bytes;
  file = record { told = is.read.file.told; there = is.read.file.there };
  accepted = is.accepted;
}

-- ---- the second, over files that tell the same and have counted no fault

file_later : (old mid new : Shelf) (name bytes : List ℕ) → mid.told ≡ old.told → IsFile (over mid new) name bytes → IsFile (over old new) name bytes
file_later old mid new name bytes same is = record {
  told = λ t tells. is.told t (subst (λ files. Tells files name t) (sym same) tells);
  there = λ lacks. is.there (subst (λ files. Lacks files name) (sym same) lacks);
}

read_later : (old mid new : Shelf) (name bytes : List ℕ) → mid.told ≡ old.told → mid.faults ≡ old.faults → IsReadFile (over mid new) name bytes → IsReadFile (over old new) name bytes
read_later old mid new name bytes same kept is = record { file = file_later old mid new name bytes same is.file; end = is.end; kept = is.kept ∙ kept }

cert_later : (old mid new : Shelf) (name : List ℕ) (cert : Cert) → mid.told ≡ old.told → mid.faults ≡ old.faults → IsCertFile (over mid new) name cert → IsCertFile (over old new) name cert
cert_later old mid new name cert same kept is = record {
  bytes = is.bytes;
  read = read_later old mid new name is.bytes same kept is.read;
  short = is.short;
  text = is.text;
  only = is.only;
  said = is.said;
}

no_cert_later : (old mid new : Shelf) (name : List ℕ) (why : RunFault) → mid.told ≡ old.told → mid.faults ≡ old.faults → HasNoCert (over mid new) name why → HasNoCert (over old new) name why
no_cert_later old mid new name why same kept (inl unread) = inl (
  unread.0,
  record {
    why = elim unread.1.why [ inl rose ↦ inl (subst (λ n. Rose n new.faults) kept rose) | inr lacks ↦ inr (subst (λ files. Lacks files name) same lacks) ];
    at = unread.1.at;
  },
)
no_cert_later old mid new name why same kept (inr (inl long)) = inr (inl (
  long.0,
  record {
    taken = long.1.taken;
    kept = long.1.kept ∙ kept;
    told = λ t tells. long.1.told t (subst (λ files. Tells files name t) (sym same) tells);
    there = λ lacks. long.1.there (subst (λ files. Lacks files name) (sym same) lacks);
  },
))
no_cert_later old mid new name why same kept (inr (inr faulty)) = inr (inr (
  faulty.0,
  faulty.1,
  record {
    bytes = faulty.2.bytes;
    read = read_later old mid new name faulty.2.bytes same kept faulty.2.read;
    short = faulty.2.short;
    none = faulty.2.none;
    said = faulty.2.said;
  },
))

-- ---- a check

pub begun_twice : (old mid new : Shelf) → mid.begun ≡ next_count old.begun → new.begun ≡ next_count mid.begun → Began (over old new) 2
begun_twice old mid new one other = other ∙ ap next_count one

pub check_stops : (old mid new : Shelf) (file name : List ℕ) (k : NamedPoll) (why : RunFault) (a : Answer) → IsReadContest (over old mid) file k → HasNoCert (over mid new) name why ⊎ (why ≡ Memory)
    → mid.told ≡ old.told → mid.faults ≡ old.faults → mid.begun ≡ next_count old.begun → new.begun ≡ next_count mid.begun → a ≡ Err why → AnswersOrMemory (over old new) (Check file name) a
check_stops old mid new file name k why a contest (inl none) same kept one other is =
    inl (inr (k, (contest_later old mid new file k contest, begun_twice old mid new one other, inl (why, is, no_cert_later old mid new name why same kept none))))
check_stops old mid new file name k why a contest (inr memory) same kept one other is =
    no_memory (over old new) (Check file name) a 2 (omega arith) (begun_twice old mid new one other) (is ∙ ap Err memory)

pub check_ends : (old mid new : Shelf) (file name : List ℕ) (k : NamedPoll) (cert : Cert) (v : Verdict) (ends : Status) (text : List ℕ) → IsReadContest (over old mid) file k
    → IsCertFile (over mid new) name cert → mid.told ≡ old.told → mid.faults ≡ old.faults → mid.begun ≡ next_count old.begun → new.begun ≡ next_count mid.begun → IsVerdict k cert v
    → ends ≡ status_after v → text ≡ verdict_text cert v → AnswersOrMemory (over old new) (Check file name) (Ok (record { ends = ends; text = text }))
check_ends old mid new file name k cert v ends text contest read same kept one other verdict ends_is text_is =
    inl (inr (k, (contest_later old mid new file k contest, begun_twice old mid new one other, inr (cert, cert_later old mid new name cert same kept read, (v, verdict, rw (ends_is, text_is) refl)))))
