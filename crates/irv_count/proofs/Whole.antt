-- Orders of all candidates are the valid ballots that rank all.
use Rattle.std.proofs.Common.{ℕ, List, ◌∷◌, true, false, ◌≡◌, ◌≢◌, ◌<◌, ◌∙◌, length, take, get_or, sym, inl, inr, arith}
use Rattle.std.specs.Prelude.{◌↔◌}
use Rattle.std.proofs.lemmas.List.{get_or_default}
use Rattle.std.proofs.lemmas.List.Elements.{All-cons}
use Rattle.std.proofs.lemmas.List.Kept.{AllPairs-cons}
use Rattle.ballot_form.specs.Ballots.{IsValidBallot}
use Rattle.ballot_form.proofs.Lengths.{length_valid}
use Rattle.irv_count.specs.Orders.{member, IsOrder}
use Rattle.irv_count.proofs.Members.{at_member, bool_cases, first_at, place_member}

pub valid_order : (c : ℕ) (order : List ℕ) → IsOrder c order → IsValidBallot c order
valid_order c order whole = record {
  below = λ k d lt. rw (get_or_default order k d 0 lt) (whole.below k (let l = whole.long in omega arith));
  distinct = λ i j d ij jl same.
      let out : member (get_or order j 0) (take j order) ≡ false = whole.distinct j (let l = whole.long in omega arith) in
      let on : member (get_or order i 0) (take j order) ≡ true = at_member order i j ij (omega arith) in
      let e : get_or order i 0 ≡ get_or order j 0 = get_or_default order i 0 d (omega arith) ∙ same ∙ get_or_default order j d 0 jl in
      let on1 = rw e at on in
      let z : true ≡ false = sym on1 ∙ out in cc;
}

-- who isn't on a valid ballot could be put onto it
one_more : (c : ℕ) (order : List ℕ) (x : ℕ) → IsValidBallot c order → x < c → member x order ≡ false → IsValidBallot c (x ∷ order)
one_more c order x valid xc out = record {
  below = All-cons (λ y. y < c) x order xc valid.below;
  distinct = AllPairs-cons (λ a b. a ≢ b) x order (λ k d lt same.
      let on = place_member order k lt in
      let e : get_or order k 0 ≡ x = get_or_default order k 0 d lt ∙ sym same in
      let on1 = rw e at on in
      let z : true ≡ false = sym on1 ∙ out in cc) valid.distinct;
}

pub order_from_valid : (c : ℕ) (order : List ℕ) → IsValidBallot c order → length order ≡ c → IsOrder c order
order_from_valid c order valid long = record {
  long = long;
  below = λ i lt. valid.below i 0 (omega arith);
  distinct = λ i lt. elim (bool_cases (member (get_or order i 0) (take i order))) [
    | inl on ↦ let r = first_at (get_or order i 0) order i on in absurd (valid.distinct r.0 i 0 r.1 (omega arith) r.3)
    | inr off ↦ off
  ];
  every = λ x xc. elim (bool_cases (member x order)) [
    | inl on ↦ on
    | inr off ↦ absurd (let l = length_valid c (x ∷ order) (one_more c order x valid xc off) in omega arith)
  ];
}

-- the test of an order
pub order_test : (c : ℕ) (order : List ℕ) → (IsValidBallot c order × (length order ≡ c)) ↔ IsOrder c order
order_test c order = (λ h. order_from_valid c order h.0 h.1, λ whole. (valid_order c order whole, whole.long))
