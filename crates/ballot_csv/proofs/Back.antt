-- The records that the plain writer writes are read back.
use Rattle.std.proofs.Common.{ℕ, List, [], ◌∷◌, ◌++◌, ◌≡◌, ◌∙◌, refl, ap, ap₂, All, suc, arith, inl, inr}
use Rattle.std.specs.Prelude.{◌==◌}
use Rattle.std.proofs.lemmas.Bool.{cases_Bool}
use Rattle.csv.specs.Machine.{next_record}
use Rattle.csv.specs.Reading.{default_config, records}
use Rattle.csv.specs.Writing.{default_writer, escaped, field_text, fields_text, is_blank, read_back, row_text}
use Rattle.csv.specs.declared.parser.State.TheVariants as st
use Rattle.csv.proofs.RoundTrip.{read-write}
use Rattle.ballot_csv.specs.PlainForm.{plain_writer, text_of_records}
use Rattle.ballot_csv.proofs.LeftFacts.{no_more, one_more}

same_escaped : (field : List ℕ) → escaped plain_writer field ≡ escaped default_writer field
unfolding escaped
same_escaped [] = refl
same_escaped (b ∷ rest) = elim (cases_Bool (b == 34)) [
  | inl quote ↦ rw quote (ap (λ t. 34 ∷ b ∷ t) (same_escaped rest))
  | inr other ↦ rw other (ap (λ t. b ∷ t) (same_escaped rest))
]

same_field : (field : List ℕ) → field_text plain_writer field ≡ field_text default_writer field
same_field field = rw (same_escaped field) refl

same_fields : (fields : List (List ℕ)) → fields_text plain_writer fields ≡ fields_text default_writer fields
unfolding fields_text
same_fields [] = refl
same_fields (field ∷ rest) = ap₂ (λ a b. 44 ∷ (a ++ b)) (same_field field) (same_fields rest)

same_row : (fields : List (List ℕ)) → row_text plain_writer fields ≡ row_text default_writer fields
unfolding is_blank
same_row [] = refl
same_row (field ∷ []) = rw (same_escaped field, same_fields []) refl
same_row (field ∷ next ∷ rest) = rw (same_escaped field, same_fields (next ∷ rest)) refl

-- a record that isn't without any cell
abbrev pub HasCells : List (List ℕ) → Type 0
HasCells row = read_back row ≡ row

pub records_back : (rows : List (List (List ℕ))) → All HasCells rows → records default_config (text_of_records rows) ≡ rows
unfolding text_of_records next_record
records_back [] cells = no_more st.StartRecord [] refl
records_back (row ∷ rows) cells =
    one_more st.StartRecord (row_text plain_writer row ++ text_of_records rows) (row, st.StartRecord, text_of_records rows) refl
    (rw (same_row row, read-write row (text_of_records rows), cells 0 row (omega arith)) refl)
    ∙ ap (λ t. row ∷ t) (records_back rows (λ k d within. cells (suc k) d (omega (arith, within))))
