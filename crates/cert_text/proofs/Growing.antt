-- Reading subtrees one after the other, as a loop does.
use Rattle.std.proofs.Common.{◌≡◌, ℕ, suc, ◌-◌, ◌+◌, ◌≤◌, ◌<◌, List, [], ◌∷◌, ◌++◌, Result, Ok, Err, refl, sym, ap, ◌∙◌, append_assoc, arith, inl, inr}
use Rattle.std.proofs.lemmas.List.{append-nil}
use Rattle.cert_text.specs.declared.fault.CertFault.{CertFault}
use Rattle.cert_text.specs.declared.fault.CertKind.TheVariants.{TooDeep}
use Rattle.cert_text.specs.Faults.{fault}
use Rattle.cert_text.specs.Reading.{◌>>=◌, IsTold, TextLeft, many_at}
use Rattle.cert_text.specs.TreeReading.{tree_line_at, grown_at, node_at}

abbrev pub Reads : Type 0 → Type 0
Reads X = TextLeft → Result (X × TextLeft) CertFault

pub step_zero : (left first : ℕ) (p : TextLeft) → left ≡ 0 → node_at left first p ≡ (tree_line_at first p >>= λ found. Err (fault TooDeep p.0))
unfolding node_at
step_zero left first p e = rw e refl

step_suc : (k left first : ℕ) (p : TextLeft) → left ≡ suc k → node_at left first p ≡ (tree_line_at first p >>= grown_at (node_at k first))
unfolding node_at
step_suc k left first p e = rw e refl

pub step_more : (left first : ℕ) (p : TextLeft) → 0 < left → node_at left first p ≡ (tree_line_at first p >>= grown_at (node_at (left - 1) first))
step_more left first p some = step_suc (left - 1) left first p (omega arith)

-- what was read before, and what is still read
abbrev pub with_front : {X : Type 0} → List X → Result (List X × TextLeft) CertFault → Result (List X × TextLeft) CertFault
with_front front read = read >>= λ x. Ok (front ++ x.0, x.1)

regroup : {X : Type 0} (front : List X) (t : X) (read : Result (List X × TextLeft) CertFault) → with_front front (read >>= λ x. Ok (t ∷ x.0, x.1)) ≡ with_front (front ++ t ∷ []) read
regroup {X = X} front t (Ok x) = ap (λ (ts : List X). Ok (ts, x.1)) (simp append_assoc)
regroup front t (Err f) = refl

pub goes_on : {X : Type 0} (read : Reads X) (front : List X) (count i : ℕ) (p : TextLeft) (t : X) (after : TextLeft) (total : Result (List X × TextLeft) CertFault) → i < count → read p ≡ Ok (t, after)
    → with_front front (many_at read (count - i) p) ≡ total → with_front (front ++ t ∷ []) (many_at read (count - (i + 1)) after) ≡ total
unfolding many_at
goes_on read front count i p t after total lt h so_far =
    let k : count - i ≡ suc (count - (i + 1)) = omega arith in
    let one : with_front front (many_at read (count - i) p) ≡ with_front (front ++ t ∷ []) (many_at read (count - (i + 1)) after) = rw (k, h) (regroup front t (many_at read (count - (i + 1)) after)) in
    sym one ∙ so_far

pub ends : {X : Type 0} (read : Reads X) (e : CertFault) (front : List X) (count i : ℕ) (p : TextLeft) (total : Result (List X × TextLeft) CertFault) → i < count → IsTold e (read p)
    → with_front front (many_at read (count - i) p) ≡ total → IsTold e total
unfolding many_at
ends {X = X} read e front count i p total lt (inl wanting) so_far = inl wanting
ends {X = X} read e front count i p total lt (inr told) so_far =
    let k : count - i ≡ suc (count - (i + 1)) = omega arith in
    let h : read p ≡ Err e = told.1 in
    let one : with_front front (many_at read (count - i) p) ≡ Err e = rw (k, h) refl in
    inr (told.0, sym so_far ∙ one)

pub is_done : {X : Type 0} (read : Reads X) (front : List X) (count i : ℕ) (p : TextLeft) (total : Result (List X × TextLeft) CertFault) → count ≤ i → with_front front (many_at read (count - i) p) ≡ total → total ≡ Ok (front, p)
unfolding many_at
is_done {X = X} read front count i p total le so_far =
    let k : count - i ≡ 0 = omega arith in
    let one : with_front front (many_at read (count - i) p) ≡ Ok (front, p) = rw k (ap (λ (ts : List X). Ok (ts, p)) (append-nil front)) in
    sym so_far ∙ one
