-- A check that ends well.
use Rattle.std.proofs.Common.{ℕ, List, ◌≡◌, refl, subst, inl, inr}
use Rattle.std.specs.Prelude.{Ok}
use Rattle.mov_edge.specs.Outside.{Took}
use Rattle.ballot_csv.specs.BallotFile.{NamedPoll}
use Rattle.cert_text.specs.declared.cert.Cert.{Cert}
use Rattle.margin_check.specs.declared.verdict.Verdict.{Verdict}
use Rattle.margin_check.specs.declared.verdict.Verdict.TheVariants.{Valid, No}
use Rattle.mov_run.specs.Jobs.{Allowed, Answer, AnswersWords, IsChecked, IsVerdict, OverBoth, OverCert}
use Rattle.mov_run.specs.Inputs.{Began, IsCertFile, IsContestFile}
use Rattle.mov_run.specs.Causes.{ValidCause}
use Rattle.mov_run.specs.Run.{Outside, source_of}
use Rattle.mov_run.specs.Verdicts.{refused_text, valid_text, verdict_text}
use Rattle.mov_run.specs.Status.{status_after}
use Rattle.mov_words.specs.Words.{meaning}
use Rattle.mov_words.specs.declared.jobs.Job.TheVariants.{Check}
use Rattle.mov_run.specs.declared.runs.Output.{Output}
use Rattle.mov_run.specs.declared.runs.Status.TheVariants.{Done, Refused}

-- an answer that all is well with this text
abbrev Well : List ℕ → Answer
Well text = Ok (record { ends = Done; text = text })

text_is : (text : List ℕ) (o : Output) → Well text ≡ Ok o → text ≡ o.text
text_is text o is = cc

ends_is : (text : List ℕ) (o : Output) → Well text ≡ Ok o → Done ≡ o.ends
ends_is text o is = cc

not_refused : Done ≡ Refused → ⊥
not_refused is = cc

by_verdict : (old new : Outside) (words : List (List ℕ)) (file name text : List ℕ) (k : NamedPoll) (cert : Cert) (v : Verdict) → meaning words ≡ Ok (Check file name)
    → IsContestFile (source_of old new) file k → Began (source_of old new) 2 → IsCertFile (source_of old new) name cert → IsVerdict k cert v
    → Well text ≡ Ok (record { ends = status_after v; text = verdict_text cert v }) → Took old.out.taken new.out.taken text → ValidCause old new words name
by_verdict old new words file name text k cert Valid job contest begun read verdict is took =
    let same : text ≡ valid_text cert = text_is text (record { ends = Done; text = valid_text cert }) is in
    let valid = verdict.valid.0 refl in
    (k, cert, record { file = file; job = job; contest = contest; begun = begun }, read, valid, verdict.claim refl, subst (λ t. Took old.out.taken new.out.taken t) same took)
by_verdict old new words file name text k cert (No reason line) job contest begun read verdict is took =
    absurd (not_refused (ends_is text (record { ends = Refused; text = refused_text reason line }) is))

by_cert : (old new : Outside) (words : List (List ℕ)) (file name text : List ℕ) (k : NamedPoll) → meaning words ≡ Ok (Check file name) → IsContestFile (source_of old new) file k → Began (source_of old new) 2
    → OverCert (source_of old new) name (λ cert a. IsChecked k cert a) (Well text) → Took old.out.taken new.out.taken text → ValidCause old new words name
by_cert old new words file name text k job contest begun (inl stopped) took = absurd (let is = stopped.1 in cc)
by_cert old new words file name text k job contest begun (inr good) took =
    by_verdict old new words file name text k good.0 good.2.0 job contest begun good.1 good.2.1 good.2.2 took

by_contest : (old new : Outside) (words : List (List ℕ)) (file name text : List ℕ) → meaning words ≡ Ok (Check file name)
    → OverBoth (source_of old new) file name IsChecked (Well text) → Took old.out.taken new.out.taken text
    → ValidCause old new words name
by_contest old new words file name text job (inl stopped) took = absurd (let is = stopped.1 in cc)
by_contest old new words file name text job (inr good) took = by_cert old new words file name text good.0 job good.1.0 good.1.1 good.1.2 took

pub valid_cause : (old new : Outside) (words : List (List ℕ)) (file name text : List ℕ) → meaning words ≡ Ok (Check file name) → Allowed (source_of old new) words (Well text)
    → Took old.out.taken new.out.taken text → ValidCause old new words name
valid_cause old new words file name text job (inl by) took =
    let answers : AnswersWords (source_of old new) (Ok (Check file name)) (Well text) = subst (λ m. AnswersWords (source_of old new) m (Well text)) job by in
    by_contest old new words file name text job answers took
valid_cause old new words file name text job (inr none) took = absurd (let is = none.0.0 in cc)
