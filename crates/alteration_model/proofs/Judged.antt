-- From puts without a fault to an alteration.
use Rattle.std.proofs.Common.{ℕ, zero, suc, List, [], ◌∷◌, ◌≡◌, ◌<◌, ◌≤◌, ◌+◌, ◌∙◌, ◌↔◌, refl, ap, sym, Option, Some, None, All, length, drop, get_or, inl, inr, arith}
use Rattle.std.specs.Prelude.{Err}
use Rattle.std.proofs.lemmas.List.{drop_more}
use Rattle.ballot_form.specs.declared.limits.TheConstants.{MOST_BALLOTS}
use Rattle.ballot_form.specs.Alterations.{IsAlteration, IsAlterationFrom}
use Rattle.ballot_form.specs.Ballots.{AreDistinct, IsPoll, Poll}
use Rattle.alteration_model.specs.Faults.{IsFirstFault, IsFirstFaultFrom, IsPutFault, Judges, pairs_of}
use Rattle.alteration_model.specs.declared.faults.AlterFault.{AlterFault}
use Rattle.alteration_model.specs.declared.faults.AlterFault.TheVariants.{NumberRange, NotAscending, BadBallot, Memory}
use Rattle.alteration_model.specs.declared.puts.Put.{Put}

pub judges_fault : (p : Poll) (puts : List Put) (fault : AlterFault) → IsFirstFault p puts (Some fault) → Judges p puts (Err fault)
judges_fault p puts (NumberRange i) is = is
judges_fault p puts (NotAscending i) is = is
judges_fault p puts (BadBallot i) is = is
judges_fault p puts Memory is = tt

distinct_from : (c low n : ℕ) (puts : List Put) → IsAlterationFrom c low n (pairs_of puts) → All (λ put. AreDistinct put.ballot) puts
distinct_from c low n [] is k d lt = absurd (omega arith)
distinct_from c low n (put ∷ puts) is zero d lt = is.2.distinct
distinct_from c low n (put ∷ puts) is (suc k) d lt = distinct_from c (put.number + 1) n puts is.3 k d (omega arith)

pub pairs_distinct : (p : Poll) (puts : List Put) → IsAlteration p (pairs_of puts) → All (λ put. AreDistinct put.ballot) puts
pairs_distinct p puts is = distinct_from p.c 1 (length p.ballots) puts is

alteration_from : (p : Poll) (at last low : ℕ) (puts : List Put) → low ≤ last + 1 → IsFirstFaultFrom p at last puts None → IsAlterationFrom p.c low (length p.ballots) (pairs_of puts)
alteration_from p at last low [] le is = tt
alteration_from p at last low (put ∷ puts) le is =
    (omega (arith, le, is.0.2), is.0.1, is.0.3, alteration_from p (at + 1) put.number (put.number + 1) puts (omega arith) is.1)

pub is_alteration : (p : Poll) (puts : List Put) (changes : List (ℕ × List ℕ)) → IsFirstFault p puts None → changes ≡ pairs_of puts → IsAlteration p changes
is_alteration p puts changes is e = rw e (alteration_from p 0 0 1 puts (omega arith) is)

length_from : (c low n : ℕ) (changes : List (ℕ × List ℕ)) → low ≤ n + 1 → IsAlterationFrom c low n changes → length changes + low ≤ n + 1
length_from c low n [] le is = omega arith
length_from c low n (change ∷ changes) le is = omega (arith, is.0, is.1, length_from c (change.0 + 1) n changes (omega (arith, is.1)) is.3)

-- an alteration has at most as many replacements as there are ballots
pub no_longer : (p : Poll) (changes : List (ℕ × List ℕ)) → IsAlteration p changes → length changes ≤ length p.ballots
no_longer p changes is = omega (arith, length_from p.c 1 (length p.ballots) changes (omega arith) is)

pub few_pairs : (p : Poll) (puts : List Put) (changes : List (ℕ × List ℕ)) → IsPoll p → IsAlteration p (pairs_of puts) → changes ≡ pairs_of puts
    → length changes ≤ MOST_BALLOTS
few_pairs p puts changes poll is e = rw e (omega (arith, poll.few, no_longer p (pairs_of puts) is))

faultless_from : (p : Poll) (at last : ℕ) (puts : List Put) → IsAlterationFrom p.c (last + 1) (length p.ballots) (pairs_of puts)
    → IsFirstFaultFrom p at last puts None
faultless_from p at last [] is = tt
faultless_from p at last (put ∷ puts) is = ((omega (arith, is.0), is.1, omega (arith, is.0), is.2), faultless_from p (at + 1) put.number puts is.3)

-- puts have no fault exactly where they are an alteration
pub faultless : (p : Poll) (puts : List Put) → IsFirstFault p puts None ↔ IsAlteration p (pairs_of puts)
faultless p puts = (λ none. is_alteration p puts (pairs_of puts) none refl, λ is. faultless_from p 0 0 puts is)

-- ---- one more put

pub passed_on : (p : Poll) (puts : List Put) (i last : ℕ) (put : Put) (f : Option AlterFault) → i < length puts → put ≡ get_or puts i put → IsPutFault p i last put None
    → IsFirstFaultFrom p (i + 1) put.number (drop (i + 1) puts) f → IsFirstFaultFrom p i last (drop i puts) f
passed_on p puts i last put f within at good rest =
    let split : drop i puts ≡ put ∷ drop (i + 1) puts = drop_more puts i put within ∙ ap (λ x. x ∷ drop (i + 1) puts) (sym at) in
    rw split (by f rest)
  where
    by : (f : Option AlterFault) → IsFirstFaultFrom p (i + 1) put.number (drop (i + 1) puts) f → IsFirstFaultFrom p i last (put ∷ drop (i + 1) puts) f
    by None rest = (good, rest)
    by (Some fault) rest = inr (good, rest)

pub stops_here : (p : Poll) (puts : List Put) (i last : ℕ) (put : Put) (fault : AlterFault) → i < length puts → put ≡ get_or puts i put → IsPutFault p i last put (Some fault)
    → IsFirstFaultFrom p i last (drop i puts) (Some fault)
stops_here p puts i last put fault within at bad =
    let split : drop i puts ≡ put ∷ drop (i + 1) puts = drop_more puts i put within ∙ ap (λ x. x ∷ drop (i + 1) puts) (sym at) in
    rw split (inl bad)
