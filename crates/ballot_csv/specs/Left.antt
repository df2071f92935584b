-- The records that a reader of bytes has left: how the crate itself sees its reader. No public clause cites it, and
-- nobody needs to believe it.
use Rattle.std.specs.Prelude.{ℕ, List, [], ◌+◌, ◌≡◌, length, Some, false, true, unwrap_or, option_map, IsSome}
use Rattle.std.specs.Borrow.{Bor}
use Rattle.csv.specs.Machine.{ends_at_end}
use Rattle.csv.specs.Reading.{Ready, default_config, is_flexible, reader_config, reader_state, reader_trim, records_from, source_of}
use Rattle.csv.specs.declared.parser.State.{State}
use Rattle.csv.specs.declared.reader.Reader.{Reader}
use Rattle.csv.specs.declared.reader.Trim.TheVariants as trim

-- every record of a text, from a state between two records
abbrev pub records_at : State → List ℕ → List (List (List ℕ))
records_at s xs = records_from default_config (length xs + 1) s xs

-- the records that a reader of bytes has left
abbrev pub records_left : Reader (Bor (List ℕ)) → List (List (List ℕ))
records_left r = unwrap_or (option_map (records_at (reader_state r)) (source_of (λ b. Some b.now) r)) []

-- the reader stands between two records, and takes each as it is, whatever its length
pub record IsBetween (r : Reader (Bor (List ℕ))) : Type 0 where
  pub config : reader_config r ≡ default_config
  pub trim : reader_trim r ≡ trim.None
  pub flexible : is_flexible r ≡ true
  pub ready : Ready r
  pub between : ends_at_end (reader_state r) ≡ false
  pub known : IsSome (source_of (λ b. Some b.now) r)
