-- How many there can be of a variable: its class's count, or for an arc's as many as there are ballots.
use Rattle.std.proofs.Common.{◌≡◌, ℕ, zero, suc, ◌<◌, ◌≤◌, List, [], ◌∷◌, ◌++◌, Some, length, map, refl, sym, ap, subst, arith}
use Rattle.std.specs.Prelude.{slice_get}
use Rattle.std.proofs.lemmas.Option.{slice_get_within}
use Rattle.row_program.specs.declared.Feature.TheVariants.{Arc}
use Rattle.goal_rows.specs.Cells.{Variable, variables_of}
use Rattle.goal_rows.specs.Programs.{arcs_under}
use Rattle.goal_rows.specs.declared.parts.Ground.{Ground}

arc_end : (arcs : List (ℕ × ℕ)) (n k : ℕ) (v : Variable) → slice_get (map (λ (a : ℕ × ℕ). record { feature = Arc a.0 a.1; end = n }) arcs) k ≡ Some v → n ≡ v.end
arc_end [] n k v is = absurd (let lt = slice_get_within [] k v is in omega (arith, lt))
arc_end (a ∷ arcs) n zero v is = let same : record { feature = Arc a.0 a.1; end = n } ≡ v = (let e = is in cc) in ap (λ (w : Variable). w.end) same
arc_end (a ∷ arcs) n (suc k) v is = arc_end arcs n k v is

behind : (f : ℕ × ℕ → Variable) (cs : List (ℕ × ℕ)) (more : List Variable) (n k : ℕ) (v : Variable) → ((j : ℕ) (w : Variable) → slice_get more j ≡ Some w → n ≡ w.end) → length cs ≤ k → slice_get (map f cs ++ more) k ≡ Some v → n ≡ v.end
behind f [] more n k v each le is = each k v is
behind f (c ∷ cs) more n zero v each le is = absurd (omega (arith, le))
behind f (c ∷ cs) more n (suc k) v each le is = behind f cs more n k v each (omega (arith, le)) is

pub end_behind : (start : Ground) (k : ℕ) (v : Variable) → length start.classes ≤ k → slice_get (variables_of start) k ≡ Some v → start.ballots ≡ v.end
end_behind start k v le is = behind _ start.classes _ start.ballots k v (arc_end (arcs_under start.goal) start.ballots) le is
