-- What a job ends with whose ballot file is told or known to be absent.
use Rattle.mov_run.proofs.Shapes.{no_file_of_drill}
use Rattle.std.proofs.Common.{ℕ, List, ◌≡◌, ◌≤◌, ◌<◌, ◌⊎◌, ◌∙◌, length, refl, sym, ap, subst, inl, inr, arith}
use Rattle.std.specs.Prelude.{Ok}
use Rattle.mov_edge.specs.Outside.{Lacks, Rose, Tells}
use Rattle.ballot_csv.specs.BallotFile.{IsFaulty, NamedPoll, read_of}
use Rattle.ballot_csv.specs.declared.fault.BallotFault.{BallotFault}
use Rattle.ballot_csv.specs.declared.limits.TheConstants.{LONGEST_FILE}
use Rattle.mov_run.specs.Jobs.{Answer}
use Rattle.mov_run.specs.Inputs.{HasNoCert, HasNoContest, IsContestFile, IsUnread}
use Rattle.mov_run.specs.Promised.{LacksCert, RefusesBallots}
use Rattle.mov_run.specs.Run.{EndsWith, IsToldContest, Delivers, Outside, Ran, SaysLine, EndsEarly, source_of}
use Rattle.mov_run.specs.RunFaults.{line_of}
use Rattle.mov_run.specs.Status.{status_of}
use Rattle.mov_run.specs.Verdicts.{refused_text}
use Rattle.mov_words.specs.Words.{BallotFile, meaning}
use Rattle.mov_words.specs.declared.jobs.Job.TheVariants.{Check}
use Rattle.mov_run.specs.declared.runs.Output.{Output}
use Rattle.mov_run.specs.declared.runs.Status.{Status}
use Rattle.mov_run.specs.declared.runs.Status.TheVariants.{Done, Bounds, Refused, Certificate, Ballots, Read, Write, Memory}
use Rattle.mov_run.specs.declared.run_faults.RunFault.{RunFault}
use Rattle.mov_run.specs.declared.run_faults.RunFault.TheVariants as run_fault
use Rattle.mov_run.proofs.Delivered.{Goes, delivered_err, delivered_ok, memory_of}
use Rattle.mov_run.proofs.Shapes.{JobShape, file_of_check, file_of_margin, no_ballot_file, one_ballot_file, shape}
use Rattle.mov_run.proofs.Told.{contest_of, err_is, no_stop, not_both, ok_or_err}

-- a check could not read its certificate file
abbrev UnreadCert : Outside → Outside → List (List ℕ) → Type 0
UnreadCert old new words = (file : List ℕ) × (name : List ℕ) × (meaning words ≡ Ok (Check file name)) × IsUnread (source_of old new) name

-- what a run may end with once the ballot file is accepted
abbrev Ended : Outside → Outside → List (List ℕ) → Status → Type 0
Ended old new words s = (s ≡ Done) ⊎ (s ≡ Refused) ⊎ (s ≡ Write) ⊎ (s ≡ Certificate) ⊎ ((s ≡ Read) × UnreadCert old new words) ⊎ (s ≡ Bounds)

-- a run of a job that reads the ballot file
abbrev AtFile : Outside → Outside → List (List ℕ) → Status → List ℕ → Type 0
AtFile old new words s file =
    (s ≡ Memory)
    ⊎ ((t : RunFault) × (s ≡ status_of t) × EndsEarly old new t × HasNoContest (source_of old new) file t)
    ⊎ ((k : NamedPoll) × IsContestFile (source_of old new) file k × Ended old new words s)

text_end : (old new : Outside) (words : List (List ℕ)) (s : Status) (text : List ℕ) → Goes old new s (record { ends = Done; text = text }) → Ended old new words s
text_end old new words s text (inl w) = inl w.0
text_end old new words s text (inr c) = inr (inr (inl c.0))

refusal_end : (old new : Outside) (words : List (List ℕ)) (s : Status) (text : List ℕ) → Goes old new s (record { ends = Refused; text = text }) → Ended old new words s
refusal_end old new words s text (inl w) = inr (inl w.0)
refusal_end old new words s text (inr c) = inr (inr (inl c.0))

bounds_end : (old new : Outside) (words : List (List ℕ)) (s : Status) (text : List ℕ) → Goes old new s (record { ends = Bounds; text = text }) → Ended old new words s
bounds_end old new words s text (inl w) = inr (inr (inr (inr (inr w.0))))
bounds_end old new words s text (inr c) = inr (inr (inl c.0))

cert_end : (old new : Outside) (words : List (List ℕ)) (s : Status) (file name : List ℕ) (t : RunFault) → meaning words ≡ Ok (Check file name) → s ≡ status_of t
    → HasNoCert (source_of old new) name t → Ended old new words s
cert_end old new words s file name t job is (inl unread) = inr (inr (inr (inr (inl (is ∙ ap status_of unread.0, (file, name, job, unread.1))))))
cert_end old new words s file name t job is (inr (inl long)) = inr (inr (inr (inl (is ∙ ap status_of long.0))))
cert_end old new words s file name t job is (inr (inr faulty)) = inr (inr (inr (inl (is ∙ ap status_of faulty.1))))

same_file : (old new : Outside) (words : List (List ℕ)) (file other : List ℕ) (k : NamedPoll) → BallotFile (meaning words) other → BallotFile (meaning words) file
    → IsContestFile (source_of old new) other k → IsContestFile (source_of old new) file k
same_file old new words file other k a b is = subst (λ name. IsContestFile (source_of old new) name k) (one_ballot_file (meaning words) other file a b) is

at_shape : (old new : Outside) (words : List (List ℕ)) (s : Status) (file : List ℕ) (a : Answer) → Delivers old new a s → BallotFile (meaning words) file
    → JobShape (source_of old new) (meaning words) a → AtFile old new words s file
at_shape old new words s file a d named (inl stopped) =
    let same = one_ballot_file (meaning words) stopped.file file stopped.named named in
    let e = delivered_err old new s a stopped.t stopped.is d in
    inr (inl (stopped.t, e.0, e.1, subst (λ name. HasNoContest (source_of old new) name stopped.t) same stopped.why))
at_shape old new words s file a d named (inr (inl cert)) =
    let e = delivered_err old new s a cert.t cert.is d in
    inr (inr (
      cert.k,
      same_file old new words file cert.file cert.k (file_of_check (meaning words) cert.file cert.name cert.job) named cert.contest,
      cert_end old new words s cert.file cert.name cert.t cert.job e.0 cert.why,
    ))
at_shape old new words s file a d named (inr (inr (inl made))) =
    let o : Output = record { ends = Done; text = made.text } in
    inr (inr (
      made.k,
      same_file old new words file made.file made.k made.named named made.contest,
      text_end old new words s made.text (delivered_ok old new s a o made.is d),
    ))
at_shape old new words s file a d named (inr (inr (inr (inl refusal)))) =
    let o : Output = record { ends = Refused; text = refused_text refusal.reason refusal.line } in
    inr (inr (
      refusal.k,
      same_file old new words file refusal.file refusal.k (file_of_check (meaning words) refusal.file refusal.name refusal.job) named refusal.contest,
      refusal_end old new words s (refused_text refusal.reason refusal.line) (delivered_ok old new s a o refusal.is d),
    ))
at_shape old new words s file a d named (inr (inr (inr (inr (inr drill))))) = absurd (no_file_of_drill (meaning words) drill.seed file drill.job named)
at_shape old new words s file a d named (inr (inr (inr (inr (inl bounds))))) =
    let o : Output = record { ends = Bounds; text = bounds.text } in
    inr (inr (
      bounds.k,
      same_file old new words file bounds.file bounds.k (file_of_margin (meaning words) bounds.rule bounds.file bounds.budget bounds.job) named
          (contest_of (source_of old new) bounds.file bounds.k bounds.contest),
      bounds_end old new words s bounds.text (delivered_ok old new s a o bounds.is d),
    ))

at_file : (old new : Outside) (words : List (List ℕ)) (s : Status) (file : List ℕ) → Ran old new words s → BallotFile (meaning words) file → AtFile old new words s file
at_file old new words s file ran named = elim (shape (source_of old new) (meaning words) ran.answer ran.allowed) [
  | inl f ↦ absurd (no_ballot_file (meaning words) f.0 file f.1 named)
  | inr rest ↦ elim rest [
    | inl none ↦ inl (memory_of old new s ran.answer none.0.0 ran.delivered)
    | inr job ↦ at_shape old new words s file ran.answer ran.delivered named job.2
  ]
]

pub ends_with : (old new : Outside) (s : Status) (t wanted : RunFault) (ends : Status) → s ≡ status_of t → EndsEarly old new t → t ≡ wanted → status_of wanted ≡ ends → EndsWith old new s ends (line_of wanted)
ends_with old new s t wanted ends is stopped same there =
    inl (is ∙ ap status_of same ∙ there, subst (λ v. SaysLine old new (line_of v)) same stopped.line)

faulty_file : (old new : Outside) (words : List (List ℕ)) (s : Status) (file bytes : List ℕ) (fault : BallotFault) → AtFile old new words s file → Tells old.files.told file bytes → (Rose old.files.faults new.files.faults → ⊥)
    → IsFaulty bytes fault → EndsWith old new s Ballots (line_of (run_fault.Ballots fault))
faulty_file old new words s file bytes fault (inl memory) tells quiet faulty_is = inr memory
faulty_file old new words s file bytes fault (inr (inr good)) tells quiet faulty_is =
    let same : good.1.bytes ≡ bytes = good.1.file.told bytes tells in
    absurd (ok_or_err (read_of bytes) good.0 fault (ap read_of (sym same) ∙ good.1.accepted.1) faulty_is.1)
faulty_file old new words s file bytes fault (inr (inl stopped)) tells quiet faulty_is = by stopped.0 stopped.1 stopped.2 stopped.3
  where
    by : (t : RunFault) → s ≡ status_of t → EndsEarly old new t → HasNoContest (source_of old new) file t → EndsWith old new s Ballots (line_of (run_fault.Ballots fault))
    by t is left (inl unread) = absurd (elim unread.1.why [ inl rose ↦ quiet rose | inr lacks ↦ not_both old.files.told file bytes tells lacks ])
    by t is left (inr (inl long)) = absurd (let lt = long.1.told bytes tells in let le = faulty_is.0 in omega arith)
    by t is left (inr (inr faulty)) =
        let same : faulty.2.bytes ≡ bytes = faulty.2.read.file.told bytes tells in
        let one : faulty.0 ≡ fault = err_is (read_of bytes) faulty.0 fault (ap read_of (sym same) ∙ faulty.2.faulty.1) faulty_is.1 in
        ends_with old new s t (run_fault.Ballots fault) Ballots is left (faulty.1 ∙ ap run_fault.Ballots one) refl

long_file : (old new : Outside) (words : List (List ℕ)) (s : Status) (file bytes : List ℕ) → AtFile old new words s file → Tells old.files.told file bytes → (Rose old.files.faults new.files.faults → ⊥)
    → LONGEST_FILE < length bytes → EndsWith old new s Ballots (line_of run_fault.Long)
long_file old new words s file bytes (inl memory) tells quiet more = inr memory
long_file old new words s file bytes (inr (inr good)) tells quiet more =
    absurd (let same : good.1.bytes ≡ bytes = good.1.file.told bytes tells in let le : length bytes ≤ LONGEST_FILE = rw (← same) good.1.accepted.0 in omega arith)
long_file old new words s file bytes (inr (inl stopped)) tells quiet more = by stopped.0 stopped.1 stopped.2 stopped.3
  where
    by : (t : RunFault) → s ≡ status_of t → EndsEarly old new t → HasNoContest (source_of old new) file t → EndsWith old new s Ballots (line_of run_fault.Long)
    by t is left (inl unread) = absurd (elim unread.1.why [ inl rose ↦ quiet rose | inr lacks ↦ not_both old.files.told file bytes tells lacks ])
    by t is left (inr (inl long)) = ends_with old new s t run_fault.Long Ballots is left long.0 refl
    by t is left (inr (inr faulty)) = absurd (let same : faulty.2.bytes ≡ bytes = faulty.2.read.file.told bytes tells in let le : length bytes ≤ LONGEST_FILE = rw (← same) faulty.2.faulty.0 in omega arith)

absent_file : (old new : Outside) (words : List (List ℕ)) (s : Status) (file : List ℕ) → AtFile old new words s file → Lacks old.files.told file → EndsWith old new s Read (line_of (run_fault.Read file))
absent_file old new words s file (inl memory) lacks = inr memory
absent_file old new words s file (inr (inr good)) lacks = absurd (good.1.file.there lacks)
absent_file old new words s file (inr (inl stopped)) lacks = by stopped.0 stopped.1 stopped.2 stopped.3
  where
    by : (t : RunFault) → s ≡ status_of t → EndsEarly old new t → HasNoContest (source_of old new) file t → EndsWith old new s Read (line_of (run_fault.Read file))
    by t is left (inl unread) = ends_with old new s t (run_fault.Read file) Read is left unread.0 refl
    by t is left (inr (inl long)) = absurd (long.1.there lacks)
    by t is left (inr (inr faulty)) = absurd (faulty.2.read.file.there lacks)

-- after an accepted file a run ends neither with its fault nor with a file unread, unless the certificate file is
-- absent
accepted_end : (old new : Outside) (words : List (List ℕ)) (s : Status) → (Rose old.files.faults new.files.faults → ⊥) → Ended old new words s → (s ≡ Ballots → ⊥) × (s ≡ Read → LacksCert old words)
accepted_end old new words s quiet (inl done) = (λ e. absurd (cc), λ e. absurd (cc))
accepted_end old new words s quiet (inr (inl refused)) = (λ e. absurd (cc), λ e. absurd (cc))
accepted_end old new words s quiet (inr (inr (inl cut))) = (λ e. absurd (cc), λ e. absurd (cc))
accepted_end old new words s quiet (inr (inr (inr (inl faulty)))) = (λ e. absurd (cc), λ e. absurd (cc))
accepted_end old new words s quiet (inr (inr (inr (inr (inl unread))))) =
    let at = unread.1 in
    (λ e. absurd (let is = unread.0 in cc), λ e. (at.0, at.1, at.2, elim at.3.why [ inl rose ↦ absurd (quiet rose) | inr lacks ↦ lacks ]))
accepted_end old new words s quiet (inr (inr (inr (inr (inr bounds))))) = (λ e. absurd (cc), λ e. absurd (cc))

accepted_file : (old new : Outside) (words : List (List ℕ)) (s : Status) (file : List ℕ) (k : NamedPoll) → AtFile old new words s file → IsToldContest old file k → (Rose old.files.faults new.files.faults → ⊥)
    → (s ≡ Ballots → ⊥) × (s ≡ Read → LacksCert old words)
accepted_file old new words s file k (inl memory) told quiet = (λ e. absurd (cc), λ e. absurd (cc))
accepted_file old new words s file k (inr (inl stopped)) told quiet = absurd (no_stop old new file k stopped.0 told quiet stopped.3)
accepted_file old new words s file k (inr (inr good)) told quiet = accepted_end old new words s quiet good.2

pub refuses : (old new : Outside) (words : List (List ℕ)) (s : Status) → Ran old new words s → RefusesBallots old new words s
refuses old new words s ran = record {
  faulty = λ file bytes fault named tells quiet is. faulty_file old new words s file bytes fault (at_file old new words s file ran named) tells quiet is;
  long = λ file bytes named tells quiet more. long_file old new words s file bytes (at_file old new words s file ran named) tells quiet more;
  absent = λ file named lacks quiet. absent_file old new words s file (at_file old new words s file ran named) lacks;
  accepted = λ file k named told quiet. accepted_file old new words s file k (at_file old new words s file ran named) told quiet;
}
