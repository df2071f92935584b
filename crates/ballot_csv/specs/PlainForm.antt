-- The plain form of a ballot file.
use Rattle.std.specs.Prelude.{ℕ, List, [], ◌∷◌, ◌++◌, ◌+◌, codes, decimal, if◌then◌else◌, map, slice_get, true, unwrap_or}
use Rattle.std.specs.Str.{bytes_eq}
use Rattle.csv.specs.Writing.{default_writer, row_text, with_flexible}
use Rattle.csv.specs.declared.writer.WriterBuilder.{WriterBuilder}
use Rattle.ballot_csv.specs.BallotFile.{NamedPoll}

-- the crate's defaults, but for records of any length
abbrev pub plain_writer : WriterBuilder
plain_writer = with_flexible default_writer true

-- the text of records, one after the other
unfoldable pub text_of_records : List (List (List ℕ)) → List ℕ
text_of_records [] = []
text_of_records (row ∷ rows) = row_text plain_writer row ++ text_of_records rows

-- a ballot before runs of equal ballots
abbrev pub with_ballot : List ℕ → List (ℕ × List ℕ) → List (ℕ × List ℕ)
with_ballot ballot [] = (1, ballot) ∷ []
with_ballot ballot (run ∷ runs) = if bytes_eq ballot run.1 then (run.0 + 1, run.1) ∷ runs else (1, ballot) ∷ run ∷ runs

-- the longest runs of equal ballots, each with its length
abbrev pub runs_of : List (List ℕ) → List (ℕ × List ℕ)
runs_of [] = []
runs_of (ballot ∷ ballots) = with_ballot ballot (runs_of ballots)

-- the name of a candidate
abbrev pub name_at : List (List ℕ) → ℕ → List ℕ
name_at names x = unwrap_or (slice_get names x) []

-- the record of a run: its length, and the names on its ballot
abbrev pub record_of : List (List ℕ) → ℕ × List ℕ → List (List ℕ)
record_of names run = decimal run.0 ∷ map (name_at names) run.1

-- the records of the runs of some ballots
abbrev pub run_records : List (List ℕ) → List (List ℕ) → List (List (List ℕ))
run_records names ballots = map (record_of names) (runs_of ballots)

-- the records of the plain form: the head, and one for each run
abbrev pub plain_records : NamedPoll → List (List (List ℕ))
plain_records k = (codes "ballots" ∷ k.names) ∷ run_records k.names k.poll.ballots

-- the bytes of the plain form
abbrev pub plain_form : NamedPoll → List ℕ
plain_form k = text_of_records (plain_records k)
