-- What each arc brings, written arc by arc.
use Rattle.std.proofs.Common.{ℕ, zero, suc, ◌≡◌, ◌<◌, ◌≤◌, ◌+◌, List, [], ◌∷◌, ◌++◌, length, get_or, take, map, refl, sym, ap, subst, ◌∙◌, Some, inl, inr, arith}
use Rattle.std.specs.Prelude.{ℤ, slice_get}
use Rattle.std.proofs.lemmas.Bool.{cases_lt}
use Rattle.std.proofs.lemmas.List.{map-append, take_more, take_more_set}
use Rattle.std.proofs.lemmas.Option.{get_or_from_slice_get, slice_get_within}
use Rattle.std.proofs.Math.ListN.{set}
use Rattle.sig_graph.specs.Paths.{arc_at, arc_total, arcs_before, arcs_of}
use Rattle.sig_graph.proofs.ArcNumbers.{arcs_before-all, get-arcs_of, length-arcs_of}

-- before the last arc is written, the next one is an arc
pub arc_left : (m u x k : ℕ) → arc_at m u x ≡ k → k < arc_total m → x ≤ m + 1 → (m < x → u ≡ m) → x ≤ m
arc_left m u x k number few ends last = elim (cases_lt m x) [
  | inr low ↦ low
  | inl past ↦
      let e = last past in
      let s = ap (arcs_before m) e in
      let all = arcs_before-all m in
      absurd (omega (arith, number, few, s, all, e, ends, past))
]

-- one arc more
pub arcs_more : (g : ℕ × ℕ → ℤ) (m u x k : ℕ) (arcs : List ℤ) (value : ℤ) → arc_at m u x ≡ k → u < x → x ≤ m → length arcs ≡ arc_total m
    → value ≡ g (u, x) → take k arcs ≡ map g (take k (arcs_of m)) → take (k + 1) (set arcs k value) ≡ map g (take (k + 1) (arcs_of m))
arcs_more g m u x k arcs value number begins ends long is done =
    let at : slice_get (arcs_of m) k ≡ Some (u, x) = subst (λ n. slice_get (arcs_of m) n ≡ Some (u, x)) number (get-arcs_of m u x begins ends) in
    let within = slice_get_within (arcs_of m) k (u, x) at in
    let here = get_or_from_slice_get (arcs_of m) k (u, x) (u, x) at in
    let all = length-arcs_of m in
    take_more_set arcs k value (omega (arith, within, all, long))
    ∙ ap (λ (zs : List ℤ). zs ++ value ∷ []) done
    ∙ ap (λ z. map g (take k (arcs_of m)) ++ z ∷ []) (is ∙ ap g (sym here))
    ∙ sym (map-append g (take k (arcs_of m)) (get_or (arcs_of m) k (u, x) ∷ []))
    ∙ ap (map g) (sym (take_more (arcs_of m) k (u, x) within))

take_all : {X : Type 0} (k : ℕ) (xs : List X) → length xs ≤ k → take k xs ≡ xs
take_all zero [] le = refl
take_all zero (x ∷ xs) le = absurd (omega (arith, le))
take_all (suc k) [] le = refl
take_all {X = X} (suc k) (x ∷ xs) le = ap (λ (ys : List X). x ∷ ys) (take_all k xs (omega (arith, le)))

-- what all arcs bring, where all are written
pub arcs_end : (g : ℕ × ℕ → ℤ) (m k : ℕ) (arcs : List ℤ) → length arcs ≡ arc_total m → length arcs ≤ k → take k arcs ≡ map g (take k (arcs_of m)) → arcs ≡ map g (arcs_of m)
arcs_end g m k arcs long past done =
    let all = length-arcs_of m in
    sym (take_all k arcs past) ∙ done ∙ ap (map g) (take_all k (arcs_of m) (omega (arith, all, long, past)))
