-- Each status and its cause.
use Rattle.std.specs.Prelude.{Bool, true, false}
use Rattle.drill_text.specs.Drills.{IsDrill}
use Rattle.mov_words.specs.declared.jobs.Job.TheVariants.{Drill}
use Rattle.mov_run.specs.Status.{drill_status}
use Rattle.mov_run.specs.Causes.{DrillCause}
use Rattle.std.proofs.Common.{ℕ, List, ◌≡◌, ◌⊎◌, ◌∙◌, refl, ap, subst, inl, inr, arith}
use Rattle.std.specs.Prelude.{Ok, Err, codes}
use Rattle.mov_edge.specs.Loads.{TookFirst}
use Rattle.mov_edge.specs.Outside.{Rose, Took}
use Rattle.ballot_csv.specs.declared.fault.BallotFault.{BallotFault}
use Rattle.ballot_csv.specs.declared.limits.TheConstants.{LONGEST_FILE}
use Rattle.mov_run.specs.Jobs.{Allowed, Answer}
use Rattle.mov_run.specs.Inputs.{Began, BeganAtMost, HasNoCert, HasNoContest, IsFaultyFile, IsLong}
use Rattle.mov_run.specs.Causes.{BoundsCause, CertCause, ReadCause, RefusalCause, WentOn, Causes}
use Rattle.mov_run.specs.Status.{IsEarlyEnd, IsWritten, status_of}
use Rattle.mov_run.specs.Run.{CutShort, Delivers, Outside, Ran, SaysLine, EndsEarly, Wrote, source_of, EndsWith}
use Rattle.mov_run.specs.RunFaults.{line_of}
use Rattle.mov_run.specs.Verdicts.{refused_text}
use Rattle.mov_words.specs.Words.{BallotFile, IsNoCommand, file_count, meaning}
use Rattle.mov_words.specs.declared.jobs.Job.{Job}
use Rattle.mov_words.specs.declared.fault.WordFault.{WordFault}
use Rattle.mov_run.specs.declared.runs.Output.{Output}
use Rattle.mov_run.specs.declared.runs.Status.{Status}
use Rattle.mov_run.specs.declared.runs.Status.TheVariants.{Done, Bounds, Refused, Words, Ballots, Certificate, Read, Write, Memory}
use Rattle.mov_run.specs.declared.run_faults.RunFault.{RunFault}
use Rattle.mov_run.specs.declared.run_faults.RunFault.TheVariants as run_fault
use Rattle.mov_run.proofs.Delivered.{Goes, delivered_err, delivered_ok}
use Rattle.mov_run.proofs.Accepted.{valid_cause}
use Rattle.mov_run.proofs.Shapes.{AtBounds, AtCert, AtRefusal, JobShape, begun_at, not_err, not_none, one_fault, shape}

-- ---- at each status

-- nothing but the text went out
abbrev Quiet : Outside → Outside → Type 0
Quiet old new = (new.err ≡ old.err) × (new.files.faults ≡ old.files.faults) × (new.out.faults ≡ old.out.faults)

-- what there is to say of a run that ends with a status
abbrev CauseAt : Outside → Outside → List (List ℕ) → Status → Type 0
CauseAt old new words Words = (new.out ≡ old.out) × ((fault : WordFault) × (meaning words ≡ Err fault) × SaysLine old new (line_of (run_fault.Words fault)))
CauseAt old new words Ballots = (new.out ≡ old.out)
    × ((file : List ℕ) × BallotFile (meaning words) file × Began (source_of old new) 1
    × ((IsLong (source_of old new) file LONGEST_FILE × SaysLine old new (line_of run_fault.Long))
    ⊎ ((fault : BallotFault) × IsFaultyFile (source_of old new) file fault × SaysLine old new (line_of (run_fault.Ballots fault)))))
CauseAt old new words Certificate = (new.out ≡ old.out) × CertCause old new words
CauseAt old new words Read = (new.out ≡ old.out) × ReadCause old new words
CauseAt old new words Memory = (new.out ≡ old.out) × SaysLine old new (line_of run_fault.Memory)
CauseAt old new words Write = Rose old.out.faults new.out.faults
    × ((output : Output) × Allowed (source_of old new) words (Ok output) × TookFirst old.out.taken new.out.taken output.text)
    × SaysLine old new (codes "mov: write failed\n")
CauseAt old new words Done = Quiet old new
    × ((text : List ℕ) × Allowed (source_of old new) words (Ok (record { ends = Done; text = text })) × Took old.out.taken new.out.taken text)
CauseAt old new words Refused = Quiet old new × RefusalCause old new words
CauseAt old new words Bounds = Quiet old new × (BoundsCause old new words ⊎ DrillCause old new words)

silent_at : (old new : Outside) (words : List (List ℕ)) (s : Status) → IsEarlyEnd s → CauseAt old new words s → new.out ≡ old.out
silent_at old new words Words e at = at.0
silent_at old new words Ballots e at = at.0
silent_at old new words Certificate e at = at.0
silent_at old new words Read e at = at.0
silent_at old new words Memory e at = at.0
silent_at old new words s e at = absurd e

quiet_at : (old new : Outside) (words : List (List ℕ)) (s : Status) → IsWritten s → CauseAt old new words s → Quiet old new
quiet_at old new words Done e at = at.0
quiet_at old new words Refused e at = at.0
quiet_at old new words Bounds e at = at.0
quiet_at old new words s e at = absurd e

-- what is said at one status is said at each
causes_at : (old new : Outside) (words : List (List ℕ)) (s : Status) → ((fault : WordFault) → meaning words ≡ Err fault → EndsWith old new s Words (line_of (run_fault.Words fault)))
    → (IsNoCommand (meaning words) → s ≡ Words) → BeganAtMost (source_of old new) (file_count (meaning words)) → CauseAt old new words s → Causes old new words s
causes_at old new words s come none begun at =
    let to : (t : Status) → s ≡ t → CauseAt old new words t = λ t e. subst (λ v. CauseAt old new words v) e at in
    record {
      words_only = λ e. (to Words e).1;
      words_come = come;
      no_command = none;
      ballots = λ e. (to Ballots e).1;
      certificate = λ e. (to Certificate e).1;
      read = λ e. (to Read e).1;
      write = λ e. to Write e;
      memory = λ e. (to Memory e).1;
      begun = begun;
      silent = λ e. silent_at old new words s e at;
      quiet = λ e. quiet_at old new words s e at;
      done = λ e. (to Done e).1;
      valid = λ e file name check. let made = (to Done e).1 in valid_cause old new words file name made.0 check made.1 made.2;
      refused = λ e. (to Refused e).1;
      bounds = λ e. (to Bounds e).1;
    }

-- the same, where the words are a job
job_at : (old new : Outside) (words : List (List ℕ)) (s : Status) (job : Job) → meaning words ≡ Ok job → BeganAtMost (source_of old new) (file_count (meaning words)) → CauseAt old new words s
    → Causes old new words s
job_at old new words s job m begun at =
    causes_at old new words s (λ f n. absurd (not_err (meaning words) job f m n)) (λ e. absurd (not_none (meaning words) job m e)) begun at

at_words : (old new : Outside) (words : List (List ℕ)) (f : WordFault) → meaning words ≡ Err f → Began (source_of old new) 0 → EndsEarly old new (run_fault.Words f) → Causes old new words Words
at_words old new words f m begun left =
    causes_at old new words Words (λ g n. inl (refl, subst (λ v. SaysLine old new (line_of (run_fault.Words v))) (one_fault (meaning words) f g m n) left.line)) (λ e. refl)
    (record { count = 0; within = omega arith; begun = begun }) (left.silent, (f, m, left.line))

at_memory : (old new : Outside) (words : List (List ℕ)) → (IsNoCommand (meaning words) → ⊥) → BeganAtMost (source_of old new) (file_count (meaning words)) → EndsEarly old new run_fault.Memory
    → Causes old new words Memory
at_memory old new words known begun left = causes_at old new words Memory (λ f m. inr refl) (λ e. absurd (known e)) begun (left.silent, left.line)

-- ---- at each shape of an answer

says : (old new : Outside) (t wanted : RunFault) → EndsEarly old new t → t ≡ wanted → SaysLine old new (line_of wanted)
says old new t wanted left same = subst (λ v. SaysLine old new (line_of v)) same left.line

ballots_fault : (old new : Outside) (words : List (List ℕ)) (s : Status) (file : List ℕ) (t : RunFault) → BallotFile (meaning words) file → s ≡ status_of t → EndsEarly old new t
    → HasNoContest (source_of old new) file t → Began (source_of old new) 1 → CauseAt old new words s
ballots_fault old new words s file t named is left (inl unread) begun =
    rw (is ∙ ap status_of unread.0) (left.silent, (file, unread.1, says old new t (run_fault.Read file) left unread.0, inl (named, begun)))
ballots_fault old new words s file t named is left (inr (inl long)) begun =
    rw (is ∙ ap status_of long.0) (left.silent, (file, named, begun, inl (long.1, says old new t run_fault.Long left long.0)))
ballots_fault old new words s file t named is left (inr (inr faulty)) begun =
    rw (is ∙ ap status_of faulty.1) (left.silent, (file, named, begun, inr (faulty.0, faulty.2, says old new t (run_fault.Ballots faulty.0) left faulty.1)))

went_on : (old new : Outside) (words : List (List ℕ)) (a : Answer) (at : AtCert (source_of old new) (meaning words) a) → WentOn old new words at.name at.k
went_on old new words a at = record { file = at.file; job = at.job; contest = at.contest; begun = at.begun }

cert_fault : (old new : Outside) (words : List (List ℕ)) (s : Status) (a : Answer) (at : AtCert (source_of old new) (meaning words) a) → s ≡ status_of at.t
    → EndsEarly old new at.t → HasNoCert (source_of old new) at.name at.t → CauseAt old new words s
cert_fault old new words s a at is left (inl unread) =
    rw (is ∙ ap status_of unread.0) (left.silent, (at.name, unread.1, says old new at.t (run_fault.Read at.name) left unread.0, inr (at.k, went_on old new words a at)))
cert_fault old new words s a at is left (inr (inl long)) =
    rw (is ∙ ap status_of long.0) (left.silent, (at.name, at.k, went_on old new words a at, inl (long.1, says old new at.t run_fault.LongCertificate left long.0)))
cert_fault old new words s a at is left (inr (inr faulty)) =
    rw (is ∙ ap status_of faulty.1) (left.silent, (at.name, at.k, went_on old new words a at, inr (faulty.0, faulty.2, says old new at.t (run_fault.Certificate faulty.0) left faulty.1)))

allowed_of : (old new : Outside) (words : List (List ℕ)) (a : Answer) (o : Output) → a ≡ Ok o → Allowed (source_of old new) words a → Allowed (source_of old new) words (Ok o)
allowed_of old new words a o is allowed = subst (λ v. Allowed (source_of old new) words v) is allowed

quiet_of : (old new : Outside) (text : List ℕ) → Wrote old new text → Quiet old new
quiet_of old new text wrote = (wrote.quiet, wrote.no_fault.0, wrote.no_fault.1)

-- the text was cut short
cut_at : (old new : Outside) (words : List (List ℕ)) (o : Output) → Allowed (source_of old new) words (Ok o) → CutShort old new o.text → CauseAt old new words Write
cut_at old new words o allowed cut = (cut.rose, (o, allowed, cut.part), cut.line)

text_made : (old new : Outside) (words : List (List ℕ)) (s : Status) (text : List ℕ) → Allowed (source_of old new) words (Ok (record { ends = Done; text = text }))
    → Goes old new s (record { ends = Done; text = text }) → CauseAt old new words s
text_made old new words s text allowed (inl w) = rw w.0 (quiet_of old new text w.1, (text, allowed, w.1.whole))
text_made old new words s text allowed (inr c) = rw c.0 (cut_at old new words (record { ends = Done; text = text }) allowed c.1)

refusal_made : (old new : Outside) (words : List (List ℕ)) (s : Status) (a : Answer) (at : AtRefusal (source_of old new) (meaning words) a)
    → Allowed (source_of old new) words (Ok (record { ends = Refused; text = refused_text at.reason at.line }))
    → Goes old new s (record { ends = Refused; text = refused_text at.reason at.line }) → CauseAt old new words s
refusal_made old new words s a at allowed (inl w) =
    let on : WentOn old new words at.name at.k = record { file = at.file; job = at.job; contest = at.contest; begun = at.begun } in
    rw w.0 (quiet_of old new (refused_text at.reason at.line) w.1, (at.name, at.k, at.cert, at.reason, at.line, on, at.read, at.refusal, w.1.whole))
refusal_made old new words s a at allowed (inr c) = rw c.0 (cut_at old new words (record { ends = Refused; text = refused_text at.reason at.line }) allowed c.1)

bounds_made : (old new : Outside) (words : List (List ℕ)) (s : Status) (a : Answer) (at : AtBounds (source_of old new) (meaning words) a)
    → Allowed (source_of old new) words (Ok (record { ends = Bounds; text = at.text })) → Goes old new s (record { ends = Bounds; text = at.text }) → CauseAt old new words s
bounds_made old new words s a at allowed (inl w) =
    let cause : BoundsCause old new words = record {
      rule = at.rule;
      file = at.file;
      budget = at.budget;
      k = at.k;
      cert = at.cert;
      low = at.low;
      up = at.up;
      stop = at.stop;
      text = at.text;
      job = at.job;
      contest = at.contest;
      begun = at.begun;
      found = at.found;
      claimed = at.claimed;
      spelled = at.spelled;
      whole = w.1.whole;
    } in
    rw w.0 (quiet_of old new at.text w.1, inl cause)
bounds_made old new words s a at allowed (inr c) = rw c.0 (cut_at old new words (record { ends = Bounds; text = at.text }) allowed c.1)

drill_made : (old new : Outside) (words : List (List ℕ)) (s : Status) (seed : ℕ) (text : List ℕ) (stopped : Bool) → meaning words ≡ Ok (Drill seed) → Began (source_of old new) 0 → IsDrill seed text stopped
    → Allowed (source_of old new) words (Ok (record { ends = drill_status stopped; text = text })) → Goes old new s (record { ends = drill_status stopped; text = text }) → CauseAt old new words s
drill_made old new words s seed text false job begun drill allowed goes = text_made old new words s text allowed goes
drill_made old new words s seed text true job begun drill allowed (inl w) =
    let cause : DrillCause old new words = record { seed = seed; text = text; job = job; begun = begun; drill = drill; whole = w.1.whole } in
    rw w.0 (quiet_of old new text w.1, inr cause)
drill_made old new words s seed text true job begun drill allowed (inr c) = rw c.0 (cut_at old new words (record { ends = Bounds; text = text }) allowed c.1)

job_cause : (old new : Outside) (words : List (List ℕ)) (s : Status) (a : Answer) → Allowed (source_of old new) words a → Delivers old new a s → JobShape (source_of old new) (meaning words) a
    → CauseAt old new words s
job_cause old new words s a allowed d (inl at) =
    let e = delivered_err old new s a at.t at.is d in
    ballots_fault old new words s at.file at.t at.named e.0 e.1 at.why at.begun
job_cause old new words s a allowed d (inr (inl at)) =
    let e = delivered_err old new s a at.t at.is d in
    cert_fault old new words s a at e.0 e.1 at.why
job_cause old new words s a allowed d (inr (inr (inl at))) =
    let o : Output = record { ends = Done; text = at.text } in
    text_made old new words s at.text (allowed_of old new words a o at.is allowed) (delivered_ok old new s a o at.is d)
job_cause old new words s a allowed d (inr (inr (inr (inl at)))) =
    let o : Output = record { ends = Refused; text = refused_text at.reason at.line } in
    refusal_made old new words s a at (allowed_of old new words a o at.is allowed) (delivered_ok old new s a o at.is d)
job_cause old new words s a allowed d (inr (inr (inr (inr (inl at))))) =
    let o : Output = record { ends = Bounds; text = at.text } in
    bounds_made old new words s a at (allowed_of old new words a o at.is allowed) (delivered_ok old new s a o at.is d)
job_cause old new words s a allowed d (inr (inr (inr (inr (inr at))))) =
    let o : Output = record { ends = drill_status at.stopped; text = at.text } in
    drill_made old new words s at.seed at.text at.stopped at.job at.begun at.drill (allowed_of old new words a o at.is allowed) (delivered_ok old new s a o at.is d)

pub causes : (old new : Outside) (words : List (List ℕ)) (s : Status) → Ran old new words s → Causes old new words s
causes old new words s ran = elim (shape (source_of old new) (meaning words) ran.answer ran.allowed) [
  | inl f ↦ let d = delivered_err old new s ran.answer (run_fault.Words f.0) f.2 ran.delivered in rw d.0 (at_words old new words f.0 f.1 f.3 d.1)
  | inr rest ↦ elim rest [
    | inl none ↦ let d = delivered_err old new s ran.answer run_fault.Memory none.0.0 ran.delivered in rw d.0 (at_memory old new words none.1 none.0.1 d.1)
    | inr job ↦
        job_at old new words s job.0 job.1 (begun_at (source_of old new) (meaning words) ran.answer job.2)
        (job_cause old new words s ran.answer ran.allowed ran.delivered job.2)
  ]
]
