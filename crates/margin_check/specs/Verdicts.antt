-- The verdict on a certificate: valid, or the first part of validity that fails, with its line.
use Rattle.std.specs.Prelude.{◌≡◌, ℕ, zero, suc, ◌+◌, ◌==◌, List, [], ◌∷◌, codes, length, Some}
use Rattle.std.specs.List.{before_first}
use Rattle.ballot_form.specs.Alterations.{IsAlteration}
use Rattle.ballot_form.specs.Ballots.{Poll}
use Rattle.alteration_model.specs.Faults.{IsFirstFault, pairs_of}
use Rattle.alteration_model.specs.declared.faults.AlterFault.{AlterFault}
use Rattle.alteration_model.specs.declared.faults.AlterFault.TheVariants.{NumberRange, NotAscending, BadBallot, Memory}
use Rattle.goal_rows.specs.Outcomes.{IsReported}
use Rattle.cert_text.specs.declared.cert.Cert.{Cert}
use Rattle.cert_text.specs.declared.cert.Claim.{Claim}
use Rattle.cert_text.specs.declared.cert.Claim.TheVariants.{Margin, Fixed, Bounds}
use Rattle.margin_check.specs.declared.verdict.Reason.{Reason}
use Rattle.margin_check.specs.declared.verdict.Reason.TheVariants.{HeadDiffers, ReportedDiffers, BadAlteration, ClaimFails, ShapeDiffers, CutFails, NumbersDisagree}
use Rattle.margin_check.specs.declared.verdict.Verdict.{Verdict}
use Rattle.margin_check.specs.declared.verdict.Verdict.TheVariants.{Valid, No}
use Rattle.margin_check.specs.Proving.{IsShaped, Passes}
use Rattle.margin_check.specs.Validity.{HasCuts, HasOrder, HasShape, HasSizes, IsTurned, IsValidCert, cert_visits, election_by, level_of}

-- the first item that hasn't the property stands at this place
abbrev pub IsFirstWithout : {X : Type 0} → (X → Type 0) → List X → ℕ → Type 0
IsFirstWithout P [] place = ⊥
IsFirstWithout P (x ∷ xs) zero = P x → ⊥
IsFirstWithout P (x ∷ xs) (suc place) = P x × IsFirstWithout P xs place

-- the number of a reason
abbrev pub reason_number : Reason → ℕ
reason_number HeadDiffers = 1
reason_number ReportedDiffers = 2
reason_number BadAlteration = 3
reason_number ClaimFails = 4
reason_number ShapeDiffers = 5
reason_number CutFails = 6
reason_number NumbersDisagree = 7

-- the name of a reason
abbrev pub reason_name : Reason → List ℕ
reason_name HeadDiffers = codes "HeadDiffers"
reason_name ReportedDiffers = codes "ReportedDiffers"
reason_name BadAlteration = codes "BadAlteration"
reason_name ClaimFails = codes "ClaimFails"
reason_name ShapeDiffers = codes "ShapeDiffers"
reason_name CutFails = codes "CutFails"
reason_name NumbersDisagree = codes "NumbersDisagree"

-- the part of validity that fails by a reason
abbrev pub Part : Reason → Poll → Cert → Type 0
Part HeadDiffers p cert = HasSizes p cert
Part ReportedDiffers p cert = IsReported cert.rule p cert.reported
Part BadAlteration p cert = IsAlteration p (pairs_of cert.puts)
Part ClaimFails p cert = IsTurned p cert
Part ShapeDiffers p cert = HasShape p cert
Part CutFails p cert = HasCuts p cert
Part NumbersDisagree p cert = HasOrder cert.claim

-- the reasons in the order in which their parts are judged
abbrev pub reasons : List Reason
reasons =
    HeadDiffers ∷ ReportedDiffers ∷ BadAlteration ∷ ClaimFails ∷ ShapeDiffers ∷ CutFails ∷ NumbersDisagree ∷ []

-- those that come before this one
abbrev pub earlier : Reason → List Reason
earlier reason = before_first (λ other. reason_number other == reason_number reason) reasons

-- the parts of these reasons hold
abbrev pub PartsHold : List Reason → Poll → Cert → Type 0
PartsHold [] p cert = Unit {0}
PartsHold (reason ∷ reasons) p cert = Part reason p cert × PartsHold reasons p cert

-- the place of a bad replacement
abbrev pub place_of : AlterFault → ℕ
place_of (NumberRange place) = place
place_of (NotAscending place) = place
place_of (BadBallot place) = place
place_of Memory = 0

-- the line in which the tree begins: after the head, and where something turns the outcome the goal and its
-- replacements
abbrev pub tree_line : ℕ → Claim → ℕ
tree_line puts (Margin k) = 7 + puts
tree_line puts Fixed = 6
tree_line puts (Bounds low up stop) = 7 + puts

-- the line of the node with this number
abbrev pub node_line : Cert → ℕ → ℕ
node_line cert number = tree_line (length cert.puts) cert.claim + number

-- a part of validity fails, in this line
abbrev pub Fails : Reason → Poll → Cert → ℕ → Type 0
Fails HeadDiffers p cert line = (HasSizes p cert → ⊥) × (line ≡ 3)
Fails ReportedDiffers p cert line = (IsReported cert.rule p cert.reported → ⊥) × (line ≡ 4)
Fails BadAlteration p cert line =
    (fault : AlterFault) × IsFirstFault p cert.puts (Some fault) × (line ≡ 7 + place_of fault)
Fails ClaimFails p cert line = (IsTurned p cert → ⊥) × (line ≡ 6)
Fails ShapeDiffers p cert line = (number : ℕ)
    × IsFirstWithout (λ visit. IsShaped (election_by p cert) visit.node visit.tree) (cert_visits p cert) number
    × (line ≡ node_line cert number)
Fails CutFails p cert line = (number : ℕ)
    × IsFirstWithout
    (λ visit. Passes (election_by p cert) (level_of (length p.ballots) cert.claim) visit.node visit.tree)
    (cert_visits p cert) number
    × (line ≡ node_line cert number)
Fails NumbersDisagree p cert line = (HasOrder cert.claim → ⊥) × (line ≡ 5)

-- the certificate is refused for this reason: the parts before hold, and this one fails, in this line
pub record IsRefusal (p : Poll) (cert : Cert) (reason : Reason) (line : ℕ) : Type 0 where
  pub before : PartsHold (earlier reason) p cert
  pub fails : Fails reason p cert line

-- the verdict on a certificate
abbrev pub Judges : Poll → Cert → Verdict → Type 0
Judges p cert Valid = IsValidCert p cert
Judges p cert (No reason line) = IsRefusal p cert reason line
