-- The lines of a tree.
use Rattle.std.specs.Prelude.{ℕ, nat_lt, if◌then◌else◌, List, [], ◌∷◌, length, codes, Result, Err}
use Rattle.std.specs.Str.{bytes_eq}
use Rattle.text_lines.specs.declared.fault.LineFault.{LineFault}
use Rattle.text_lines.specs.declared.fault.LineFault.TheVariants.{BadLine}
use Rattle.text_lines.specs.Faults.{both}
use Rattle.text_lines.specs.Forms.{number_within, made, one_of, two_of, numbers_of}
use Rattle.row_program.specs.declared.Feature.TheVariants.{From, Arc}
use Rattle.bound_tree.specs.Lines.{Line, SplitInto, BranchBy, CutWith}
use Rattle.cert_text.specs.declared.tree_line.TreeLine.{TreeLine}
use Rattle.cert_text.specs.declared.tree_line.TreeLine.TheVariants as program
use Rattle.cert_text.specs.declared.limits.TheConstants.{GREATEST_KEY, GREATEST_MULTIPLIER, GREATEST_VALUE, LAST_ENTERED, LAST_LEFT, MOST_MULTIPLIERS}
use Rattle.row_program.specs.declared.limits.TheConstants.{MOST_KIDS}

-- a line of the program, read as a line of a tree
abbrev pub seen : TreeLine → Line
seen (program.Split kids) = SplitInto kids
seen (program.Branch feature value) = BranchBy feature value
seen (program.Cut multipliers) = CutWith multipliers

abbrev pub split_line : List (List ℕ) → Result Line LineFault
split_line fields = made SplitInto (one_of 0 MOST_KIDS fields)

abbrev pub from_line : List (List ℕ) → Result Line LineFault
from_line fields = made (λ x. BranchBy (From x.0) x.1) (two_of (0, GREATEST_KEY) (0, GREATEST_VALUE) fields)

abbrev pub arc_line : List (List ℕ) → Result Line LineFault
arc_line [] = Err BadLine
arc_line (u ∷ fields) = made (λ x. BranchBy (Arc x.0 x.1.0) x.1.1)
    (both (number_within 0 LAST_LEFT u) (two_of (1, LAST_ENTERED) (0, GREATEST_VALUE) fields))

abbrev pub branch_line : List (List ℕ) → Result Line LineFault
branch_line [] = Err BadLine
branch_line (word ∷ fields) =
    if bytes_eq word (codes "from") then from_line fields
    else if bytes_eq word (codes "arc") then arc_line fields
    else Err BadLine

abbrev pub cut_line : List (List ℕ) → Result Line LineFault
cut_line fields =
    if nat_lt MOST_MULTIPLIERS (length fields) then Err BadLine
    else made CutWith (numbers_of 0 GREATEST_MULTIPLIER fields)

abbrev pub tree_line : List (List ℕ) → Result Line LineFault
tree_line [] = Err BadLine
tree_line (word ∷ fields) =
    if bytes_eq word (codes "split") then split_line fields
    else if bytes_eq word (codes "cut") then cut_line fields
    else if bytes_eq word (codes "branch") then branch_line fields
    else Err BadLine
