-- A choice at the ties leaves one order.
use Rattle.std.proofs.Common.{ℕ, zero, suc, List, Option, Some, None, true, ◌≡◌, ◌<◌, ◌≤◌, ◌+◌, ◌∙◌, take, get_or, refl, sym, subst, arith}
use Rattle.std.specs.Prelude.{not}
use Rattle.std.proofs.lemmas.List.{take_all}
use Rattle.ballot_form.specs.Ballots.{Poll}
use Rattle.irv_count.specs.Orders.{held_count, member, GoesFirst, IsOrderBy}
use Rattle.irv_count.proofs.Members.{take_more_at}

-- of two of which each goes before the other
pub both_first : (against : Option ℕ) (x y : ℕ) → GoesFirst against x y → GoesFirst against y x → x ≡ y
both_first None x y f g = omega arith
both_first (Some b) x y f g = grind arith

-- a place of an order by a choice, and who has gone before
pub record IsPlace (against : Option ℕ) (p : Poll) (gone : List ℕ) (x : ℕ) : Type 0 where
  pub below : x < p.c
  pub stays : not (member x gone) ≡ true
  pub least : (y : ℕ) → y < p.c → not (member y gone) ≡ true → held_count (λ z. not (member z gone)) p.ballots x ≤ held_count (λ z. not (member z gone)) p.ballots y
  pub choice : (y : ℕ) → y < p.c → not (member y gone) ≡ true → held_count (λ z. not (member z gone)) p.ballots y ≡ held_count (λ z. not (member z gone)) p.ballots x
      → GoesFirst against x y

place_at : (against : Option ℕ) (p : Poll) (order : List ℕ) (i : ℕ) → IsOrderBy against p order → i < p.c → IsPlace against p (take i order) (get_or order i 0)
place_at against p order i by ic = record {
  below = by.legal.whole.below i ic;
  stays = rw (by.legal.whole.distinct i ic) refl;
  least = λ y yc stays. by.legal.least i y ic yc stays;
  choice = λ y yc stays e. by.choice i y ic yc stays e;
}

one_place : (against : Option ℕ) (p : Poll) (gone : List ℕ) (x y : ℕ) → IsPlace against p gone x → IsPlace against p gone y → x ≡ y
one_place against p gone x y a b =
    let le = a.least y b.below b.stays in
    let ge = b.least x a.below a.stays in
    both_first against x y (a.choice y b.below b.stays (omega arith)) (b.choice x a.below a.stays (omega arith))

same_first : (against : Option ℕ) (p : Poll) (order other : List ℕ) (i : ℕ) → IsOrderBy against p order → IsOrderBy against p other → i ≤ p.c → take i order ≡ take i other
same_first against p order other zero by also ic = refl
same_first against p order other (suc i) by also ic =
    let ih = same_first against p order other i by also (omega arith) in
    let here = place_at against p order i by (omega arith) in
    let there = subst (λ gone. IsPlace against p gone (get_or other i 0)) (sym ih) (place_at against p other i also (omega arith)) in
    let e = one_place against p (take i order) (get_or order i 0) (get_or other i 0) here there in
    let l = by.legal.whole.long in
    let m = also.legal.whole.long in
    let next : suc i ≡ i + 1 = omega arith in
    rw next (take_more_at order i (omega arith) ∙ rw (ih, e) refl ∙ sym (take_more_at other i (omega arith)))

pub same_order : (against : Option ℕ) (p : Poll) (order other : List ℕ) → IsOrderBy against p order → IsOrderBy against p other → order ≡ other
same_order against p order other by also =
    let l = by.legal.whole.long in
    let m = also.legal.whole.long in
    sym (take_all p.c order (omega arith)) ∙ same_first against p order other p.c by also (omega arith) ∙ take_all p.c other (omega arith)
