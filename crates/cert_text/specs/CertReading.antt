-- A certificate, read line by line up to the first fault.
use Rattle.std.specs.Prelude.{ℕ, ◌==◌, if◌then◌else◌, List, [], length, Option, Some, None, Result, Ok, Err}
use Rattle.ballot_form.specs.declared.rule.Rule.{Rule}
use Rattle.alteration_model.specs.declared.puts.Put.{Put}
use Rattle.bound_tree.specs.Plain.{Plain}
use Rattle.cert_text.specs.declared.fault.CertFault.{CertFault}
use Rattle.cert_text.specs.declared.fault.CertKind.TheVariants.{Tail}
use Rattle.cert_text.specs.declared.cert.Cert.{Cert}
use Rattle.cert_text.specs.declared.cert.Claim.{Claim}
use Rattle.cert_text.specs.declared.cert.Claim.TheVariants.{Margin, Fixed, Bounds}
use Rattle.cert_text.specs.declared.cert.GoalText.{GoalText}
use Rattle.cert_text.specs.Faults.{fault}
use Rattle.cert_text.specs.Reading.{◌>>=◌, TextLeft, fields_at, form_at, many_at}
use Rattle.cert_text.specs.HeadLines.{first_line, rule_line, size_line, reported_line, claim_line, goal_line, put_line}
use Rattle.cert_text.specs.TreeReading.{node_at}
use Rattle.bound_tree.specs.declared.bound.TheConstants.{MOST_DEPTH}

-- a goal and so many replacements
unfoldable pub turn_at : ℕ → ℕ → TextLeft → Result ((Option GoalText × List Put) × TextLeft) CertFault
turn_at c k p = do
  goal ← fields_at (goal_line c) p
  puts ← many_at (fields_at put_line) k goal.1
  Ok ((Some goal.0, puts.0), puts.1)

-- the goal and the replacements of a claim
unfoldable pub body_at : ℕ → Claim → TextLeft → Result ((Option GoalText × List Put) × TextLeft) CertFault
body_at c Fixed p = Ok ((None, []), p)
body_at c (Margin k) p = turn_at c k p
body_at c (Bounds low up stop) p = turn_at c up p

-- the lines at the top: the first, the rule, and the numbers of candidates and of ballots
unfoldable pub top_at : TextLeft → Result ((Rule × (ℕ × ℕ)) × TextLeft) CertFault
top_at p = do
  top ← form_at first_line p
  rule ← fields_at rule_line top.1
  size ← fields_at size_line rule.1
  Ok ((rule.0, size.0), size.1)

-- a tree, with which the text ends
unfoldable pub last_at : TextLeft → Result Plain CertFault
last_at p = do
  tree ← node_at MOST_DEPTH p.0 p
  if length tree.1.1 == 0 then Ok tree.0 else Err (fault Tail tree.1.0)

-- the certificate that a text is, or its first fault
unfoldable pub cert_at : List ℕ → Result Cert CertFault
cert_at text = do
  top ← form_at first_line (1, text)
  rule ← fields_at rule_line top.1
  size ← fields_at size_line rule.1
  reported ← fields_at (reported_line rule.0 size.0.0) size.1
  claim ← fields_at claim_line reported.1
  body ← body_at size.0.0 claim.0 claim.1
  tree ← node_at MOST_DEPTH body.1.0 body.1
  if length tree.1.1 == 0
      then Ok (record {
        rule = rule.0;
        c = size.0.0;
        ballots = size.0.1;
        reported = reported.0;
        claim = claim.0;
        goal = body.0.0;
        puts = body.0.1;
        tree = tree.0;
      })
      else Err (fault Tail tree.1.0)

-- the first fault of a text
abbrev pub first_fault : List ℕ → Option CertFault
first_fault text = elim (cert_at text) [ Ok cert ↦ None | Err found ↦ Some found ]
