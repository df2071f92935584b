-- A tree, read node by node from its first line on.
use Rattle.std.specs.Prelude.{ℕ, zero, suc, ◌+◌, ◌==◌, nat_le, if◌then◌else◌, length, Result, Ok, Err}
use Rattle.text_lines.specs.Words.{fields_of}
use Rattle.bound_tree.specs.Plain.{Plain, Split, Branch, Cut, kids_of}
use Rattle.bound_tree.specs.Lines.{Line, SplitInto, BranchBy, CutWith}
use Rattle.cert_text.specs.declared.fault.CertFault.{CertFault}
use Rattle.cert_text.specs.declared.fault.CertKind.TheVariants.{TooDeep, TreeEnds, TooManyNodes}
use Rattle.cert_text.specs.Faults.{fault}
use Rattle.cert_text.specs.Reading.{◌>>=◌, TextLeft, line_at, at_line, many_at}
use Rattle.cert_text.specs.TreeLines.{tree_line}
use Rattle.bound_tree.specs.declared.bound.TheConstants.{MOST_NODES}

-- a good line of a tree whose first line is `first`
unfoldable pub tree_line_at : ℕ → TextLeft → Result (Line × TextLeft) CertFault
tree_line_at first p = if length p.1 == 0 then Err (fault TreeEnds p.0) else do
  text ← line_at p
  found ← at_line p.0 (tree_line (fields_of text.0))
  if nat_le (first + MOST_NODES) p.0 then Err (fault TooManyNodes p.0) else Ok (found, text.1)

-- a node by its line, with the trees below it read by `read`
unfoldable pub grown_at : (TextLeft → Result (Plain × TextLeft) CertFault) → Line × TextLeft
    → Result (Plain × TextLeft) CertFault
grown_at read (SplitInto m, p) = do
  kids ← many_at read m p
  Ok (Split (kids_of kids.0), kids.1)
grown_at read (BranchBy feature value, p) = do
  low ← read p
  high ← read low.1
  Ok (Branch feature value low.0 high.0, high.1)
grown_at read (CutWith numbers, p) = Ok (Cut numbers, p)

-- a node, with at most `left` nodes on each way down from it, itself included
unfoldable pub node_at : ℕ → ℕ → TextLeft → Result (Plain × TextLeft) CertFault
node_at zero first p = do
  found ← tree_line_at first p
  Err (fault TooDeep p.0)
node_at (suc left) first p = do
  found ← tree_line_at first p
  grown_at (node_at left first) found
