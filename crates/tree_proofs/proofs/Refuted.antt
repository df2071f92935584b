-- What a tree proves is so.
use Rattle.std.proofs.Common.{ℕ, zero, suc, List, [], ◌∷◌, Some, ◌≡◌, ◌<◌, length, get_or, refl, sym, subst, inl, inr, arith}
use Rattle.std.specs.Prelude.{pos, ◌≤ℤ◌}
use Rattle.std.proofs.lemmas.List.Elements.{All-nil}
use Rattle.ballot_form.specs.Alterations.{IsAlteration, after}
use Rattle.bound_tree.specs.Plain.{Plain, Kids, Split, Branch, Cut}
use Rattle.bound_tree.specs.Plain as tree
use Rattle.goal_rows.specs.Elections.{Election, Node}
use Rattle.goal_rows.specs.Goals.{AreRoots, Holds, IsComplete, cover_of}
use Rattle.goal_rows.specs.Nodes.{Meets, high_limit, limit_value, low_limit, swaps_of, with_limit, without_limits}
use Rattle.goal_rows.specs.declared.goals.Goal.{Goal}
use Rattle.goal_rows.specs.declared.goals.Goal.TheVariants.{Root}
use Rattle.goal_rows.proofs.Ways.{holds_on_the_way, only_way}
use Rattle.dual_bound.proofs.Sound.{sound}
use Rattle.tree_proofs.specs.Proving.{ProveAll, Proves}
use Rattle.tree_proofs.proofs.Halves.{halves_met}
use Rattle.tree_proofs.proofs.Ways.{IsBetween, next_step}

-- what is proved is so: no short list of changes makes a complete goal hold
module _ (e : Election) (t : ℕ) (changes : List (ℕ × List ℕ)) (met : Goal) (ok : IsAlteration e.poll changes) (short : length changes < t)
    (holds : Holds e met (after e.poll changes).ballots) (complete : IsComplete e met) where
  -- a goal on the way is met where it has no limits
  met_between : (goal : Goal) → IsBetween e goal met → Meets e (without_limits goal) changes
  met_between goal way = record {
    holds = holds_on_the_way e goal met way.before way.behind (after e.poll changes).ballots complete way.there way.on holds;
    kept = All-nil (λ limit. pos 0 ≤ℤ limit_value e goal (swaps_of e changes) limit);
  }

  mutual
    refutes : (tree : Plain) (node : Node) → Proves e t node tree → IsBetween e node.goal met → Meets e node changes → ⊥
    refutes (Split kids) node proved way meets =
        let step = next_step e proved.1.0 node.goal met complete proved.1.1 way in
        refutes_at kids proved.1.0 proved.1.2 step.place step.kid step.within step.stands step.between
    refutes (Branch f v low high) node proved way meets = elim (halves_met e node changes f v meets) [
      | inl below ↦ refutes low (with_limit node (low_limit f v)) proved.1 way below
      | inr above ↦ refutes high (with_limit node (high_limit f v)) proved.2 way above
    ]
    refutes (Cut ms) node proved way meets = sound e node ms t changes proved.1 ok short meets

    refutes_at : (kids : Kids) (goals : List Goal) → ProveAll e t goals kids → (place : ℕ) (kid : Goal) → place < length goals → get_or goals place kid ≡ kid → IsBetween e kid met → ⊥
    refutes_at tree.None [] proved place kid lt stands way = omega (arith, lt)
    refutes_at tree.None (goal ∷ goals) proved place kid lt stands way = proved
    refutes_at (tree.More k ks) [] proved place kid lt stands way = proved
    refutes_at (tree.More k ks) (goal ∷ goals) proved zero kid lt stands way =
        let here = subst (λ g. IsBetween e g met) (sym stands) way in
        refutes k (without_limits goal) proved.0 here (met_between goal here)
    refutes_at (tree.More k ks) (goal ∷ goals) proved (suc place) kid lt stands way = refutes_at ks goals proved.1 place kid (omega (arith, lt)) stands way

  pub refuted : AreRoots e → (tree : Plain) → Proves e t (without_limits Root) tree → ⊥
  refuted lawful tree proved =
      let way = only_way e met lawful complete in
      let from_root : IsBetween e Root met = record { before = []; behind = way.0; there = refl; on = way.1.leads } in
      refutes tree (without_limits Root) proved from_root (met_between Root from_root)
