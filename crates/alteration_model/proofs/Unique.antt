-- Puts have one first fault, or none.
use Rattle.std.proofs.Common.{ℕ, List, [], ◌∷◌, ◌≡◌, ◌+◌, ◌∙◌, Option, Some, None, refl, sym, ap, inl, inr, arith}
use Rattle.ballot_form.specs.Ballots.{Poll}
use Rattle.alteration_model.specs.Faults.{IsFirstFault, IsFirstFaultFrom, IsPutFault}
use Rattle.alteration_model.specs.declared.faults.AlterFault.{AlterFault}
use Rattle.alteration_model.specs.declared.faults.AlterFault.TheVariants.{NumberRange, NotAscending, BadBallot, Memory}
use Rattle.alteration_model.specs.declared.puts.Put.{Put}

good_or_bad : (p : Poll) (at last : ℕ) (put : Put) (f : AlterFault) → IsPutFault p at last put None → IsPutFault p at last put (Some f) → ⊥
good_or_bad p at last put (NumberRange i) a b = elim b.1 [ inl low ↦ omega (arith, a.0) | inr high ↦ omega (arith, a.1) ]
good_or_bad p at last put (NotAscending i) a b = omega (arith, a.2, b.3)
good_or_bad p at last put (BadBallot i) a b = b.4 a.3
good_or_bad p at last put Memory a b = b

one_put : (p : Poll) (at last : ℕ) (put : Put) (f g : AlterFault) → IsPutFault p at last put (Some f) → IsPutFault p at last put (Some g) → f ≡ g
one_put p at last put (NumberRange i) (NumberRange j) a b = ap NumberRange (a.0 ∙ sym b.0)
one_put p at last put (NumberRange i) (NotAscending j) a b = absurd (elim a.1 [ inl low ↦ omega (arith, b.1) | inr high ↦ omega (arith, b.2) ])
one_put p at last put (NumberRange i) (BadBallot j) a b = absurd (elim a.1 [ inl low ↦ omega (arith, b.1) | inr high ↦ omega (arith, b.2) ])
one_put p at last put (NumberRange i) Memory a b = absurd b
one_put p at last put (NotAscending i) (NumberRange j) a b = absurd (elim b.1 [ inl low ↦ omega (arith, a.1) | inr high ↦ omega (arith, a.2) ])
one_put p at last put (NotAscending i) (NotAscending j) a b = ap NotAscending (a.0 ∙ sym b.0)
one_put p at last put (NotAscending i) (BadBallot j) a b = absurd (omega (arith, a.3, b.3))
one_put p at last put (NotAscending i) Memory a b = absurd b
one_put p at last put (BadBallot i) (NumberRange j) a b = absurd (elim b.1 [ inl low ↦ omega (arith, a.1) | inr high ↦ omega (arith, a.2) ])
one_put p at last put (BadBallot i) (NotAscending j) a b = absurd (omega (arith, a.3, b.3))
one_put p at last put (BadBallot i) (BadBallot j) a b = ap BadBallot (a.0 ∙ sym b.0)
one_put p at last put (BadBallot i) Memory a b = absurd b
one_put p at last put Memory g a b = absurd a

one_from : (p : Poll) (at last : ℕ) (puts : List Put) (f g : Option AlterFault) → IsFirstFaultFrom p at last puts f → IsFirstFaultFrom p at last puts g → f ≡ g
one_from p at last [] None None a b = refl
one_from p at last [] None (Some g) a b = absurd b
one_from p at last [] (Some f) g a b = absurd a
one_from p at last (put ∷ puts) None None a b = refl
one_from p at last (put ∷ puts) None (Some g) a (inl bad) = absurd (good_or_bad p at last put g a.0 bad)
one_from p at last (put ∷ puts) None (Some g) a (inr rest) = one_from p (at + 1) put.number puts None (Some g) a.1 rest.1
one_from p at last (put ∷ puts) (Some f) None (inl bad) b = absurd (good_or_bad p at last put f b.0 bad)
one_from p at last (put ∷ puts) (Some f) None (inr rest) b = one_from p (at + 1) put.number puts (Some f) None rest.1 b.1
one_from p at last (put ∷ puts) (Some f) (Some g) (inl a) (inl b) = ap Some (one_put p at last put f g a b)
one_from p at last (put ∷ puts) (Some f) (Some g) (inl a) (inr b) = absurd (good_or_bad p at last put f b.0 a)
one_from p at last (put ∷ puts) (Some f) (Some g) (inr a) (inl b) = absurd (good_or_bad p at last put g a.0 b)
one_from p at last (put ∷ puts) (Some f) (Some g) (inr a) (inr b) = one_from p (at + 1) put.number puts (Some f) (Some g) a.1 b.1

pub one_first_fault : (p : Poll) (puts : List Put) (f g : Option AlterFault) → IsFirstFault p puts f → IsFirstFault p puts g → f ≡ g
one_first_fault p puts f g a b = one_from p 0 0 puts f g a b
