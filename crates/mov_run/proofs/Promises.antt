-- From what a run leaves to what it promises.
use Rattle.std.proofs.Common.{ℕ, List, inl, inr}
use Rattle.ballot_csv.specs.BallotFile.{NamedPoll}
use Rattle.ballot_csv.specs.PlainForm.{plain_form}
use Rattle.mov_run.specs.Jobs.{Answers, IsCertified, IsShown, IsTallied}
use Rattle.mov_run.specs.Promised.{Promised, WritesDrill, WritesMargin, WritesPlain, WritesTally}
use Rattle.mov_run.specs.Run.{Outside, Ran, source_of}
use Rattle.mov_run.specs.Status.{drill_status, status_for}
use Rattle.mov_words.specs.declared.jobs.Job.TheVariants.{Tally, Margin, Show, Drill}
use Rattle.mov_run.specs.declared.runs.Status.{Status}
use Rattle.mov_run.proofs.BallotRefusals.{refuses}
use Rattle.mov_run.proofs.Causes.{causes}
use Rattle.mov_run.proofs.CertChecks.{writes_verdict}
use Rattle.mov_run.proofs.Delivered.{done_of, memory_of, whole_of}
use Rattle.mov_run.proofs.Told.{ballots_answer}

writes_margin : (old new : Outside) (words : List (List ℕ)) (s : Status) → Ran old new words s → WritesMargin old new words s
writes_margin old new words s ran rule file budget k job told untroubled = elim ran.allowed [
  | inr m ↦ absurd (untroubled.memory (memory_of old new s ran.answer m.0.0 ran.delivered))
  | inl by ↦
      let answers : Answers (source_of old new) (Margin rule file budget) ran.answer = rw job at by in
      let made = ballots_answer old new file k (IsCertified rule budget) ran.answer told untroubled.reads answers in
      (made.0, made.1, made.2, made.3, whole_of old new s (status_for made.0.claim) ran.answer made.1 made.4 ran.delivered untroubled)
]

writes_tally : (old new : Outside) (words : List (List ℕ)) (s : Status) → Ran old new words s → WritesTally old new words s
writes_tally old new words s ran rule file k job told untroubled = elim ran.allowed [
  | inr m ↦ absurd (untroubled.memory (memory_of old new s ran.answer m.0.0 ran.delivered))
  | inl by ↦
      let answers : Answers (source_of old new) (Tally rule file) ran.answer = rw job at by in
      let made = ballots_answer old new file k (IsTallied rule) ran.answer told untroubled.reads answers in
      (made.0, made.1, done_of old new s ran.answer made.0 made.2 ran.delivered untroubled)
]

writes_plain : (old new : Outside) (words : List (List ℕ)) (s : Status) → Ran old new words s → WritesPlain old new words s
writes_plain old new words s ran file k job told untroubled = elim ran.allowed [
  | inr m ↦ absurd (untroubled.memory (memory_of old new s ran.answer m.0.0 ran.delivered))
  | inl by ↦
      let answers : Answers (source_of old new) (Show file) ran.answer = rw job at by in
      let made = ballots_answer old new file k IsShown ran.answer told untroubled.reads answers in
      done_of old new s ran.answer (plain_form k) made ran.delivered untroubled
]

writes_drill : (old new : Outside) (words : List (List ℕ)) (s : Status) → Ran old new words s → WritesDrill old new words s
writes_drill old new words s ran seed job untroubled = elim ran.allowed [
  | inr m ↦ absurd (untroubled.memory (memory_of old new s ran.answer m.0.0 ran.delivered))
  | inl by ↦
      let answers : Answers (source_of old new) (Drill seed) ran.answer = rw job at by in
      let made = answers.0 in
      (made.0, made.1, made.2, whole_of old new s (drill_status made.1) ran.answer made.0 made.3 ran.delivered untroubled)
]

pub promised : (old new : Outside) (words : List (List ℕ)) (s : Status) → Ran old new words s → Promised old new words s
promised old new words s ran = record {
  ran = ran;
  tally = writes_tally old new words s ran;
  margin = writes_margin old new words s ran;
  check = writes_verdict old new words s ran;
  show = writes_plain old new words s ran;
  drill = writes_drill old new words s ran;
  refuses = refuses old new words s ran;
  causes = causes old new words s ran;
}
