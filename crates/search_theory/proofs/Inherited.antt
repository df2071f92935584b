-- What a node is split into has multipliers of its bound: the node's own, with zeros for what is new.
use Rattle.std.proofs.Common.{◌≡◌, ℕ, zero, suc, ◌-◌, ◌<◌, ◌∙◌, ◌↔◌, true, List, [], ◌∷◌, ◌++◌, Some, length, length-append, get_or, map, replicate, refl, sym, ap, subst, arith}
use Rattle.std.proofs.lemmas.List.{length-map}
use Rattle.row_program.specs.declared.Limit.{Limit}
use Rattle.goal_rows.specs.Elections.{Election, Node}
use Rattle.goal_rows.specs.Goals.{IsKid, cover_of, rows_of}
use Rattle.goal_rows.specs.Nodes.{high_limit, kept_limit, kept_of, kept_row, low_limit, number_count, with_limit, without_limits}
use Rattle.goal_rows.specs.declared.goals.Goal.{Goal}
use Rattle.dual_bound.specs.CutTest.{Cuts, IsBound}
use Rattle.node_bounds.specs.Inherited.{inherited_by_half, inherited_by_kid}
use Rattle.node_bounds.proofs.Inheritance.{behind, half_cuts, kid_cuts}
use Rattle.search_theory.specs.Laws.{EachOf, IsCutBySome}
use Rattle.search_theory.specs.Leaves.{ByBranch, ByCover, Growth, MayGrow, kid_nodes}
use Rattle.search_theory.specs.Spots.{cover_list, has_cover}
use Rattle.search_theory.proofs.Proven.{cover_is}

-- where two nodes are cut alike, they have one bound
alike_bound : (e : Election) (node other : Node) (ls ms : List ℕ) (b : ℕ) → ((t : ℕ) → Cuts e other ms t ↔ Cuts e node ls t) → IsBound e node ls b → IsBound e other ms b
alike_bound e node other ls ms b alike bound = record {
  within = bound.within;
  cut = (alike b).1 bound.cut;
  greatest = λ u within cut. bound.greatest u within ((alike u).0 cut);
}

kept_count : (e : Election) (node : Node) → length (kept_of e node) ≡ number_count e node
kept_count e node =
    let a = length-append (map (kept_row e.poll.ballots) (rows_of e node.goal)) (map (kept_limit e node.goal) node.limits) in
    let b = length-map (rows_of e node.goal) (kept_row e.poll.ballots) in
    let c = length-map node.limits (kept_limit e node.goal) in
    omega (arith, a, b, c)

-- those with a zero for one limit more have the bound too
pub half_bound : (e : Election) (node : Node) (limit : Limit) (ms : List ℕ) (b : ℕ) → length ms ≡ number_count e node → IsBound e node ms b → (length (inherited_by_half ms) ≡ number_count e (with_limit node limit)) × IsBound e (with_limit node limit) (inherited_by_half ms) b
half_bound e node limit ms b count bound =
    let long : length ms ≡ length (kept_of e node) = count ∙ sym (kept_count e node) in (
      omega (arith, count, length-append ms (0 ∷ []), length-append node.limits (limit ∷ [])),
      alike_bound e node (with_limit node limit) ms (inherited_by_half ms) b (λ t. half_cuts e node limit ms t long) bound,
    )

length-zeros : (n : ℕ) → length {A = ℕ} (replicate n 0) ≡ n
length-zeros zero = refl
length-zeros (suc n) = ap suc (length-zeros n)

-- those with zeros for a kid's new rows have the bound too
pub kid_bound : (e : Election) (goal : Goal) (place : ℕ) (kid : Goal) (ms : List ℕ) (b : ℕ) → IsKid e goal place kid → length ms ≡ number_count e (without_limits goal) →
    IsBound e (without_limits goal) ms b → (length (inherited_by_kid e goal kid ms) ≡ number_count e (without_limits kid)) × IsBound e (without_limits kid) (inherited_by_kid e goal kid ms) b
kid_bound e goal place kid ms b is count bound =
    let new = length (rows_of e kid) - length (rows_of e goal) in
    let zeros : List ℕ = replicate new 0 in
    let more = behind e goal place kid is in
    let rows = ap length more.rows ∙ length-append more.new (rows_of e goal) in (
      omega (arith, count, length-append zeros ms, length-zeros new, rows),
      alike_bound e (without_limits goal) (without_limits kid) ms (inherited_by_kid e goal kid ms) b (λ t. kid_cuts e goal place kid ms t is) bound,
    )

-- the same of some of the goals of a cover, those from a place on
kids_from : (e : Election) (goal : Goal) (ms : List ℕ) (b : ℕ) → length ms ≡ number_count e (without_limits goal) → IsBound e (without_limits goal) ms b →
    (done rest : List Goal) → cover_of e goal ≡ Some (done ++ rest) → EachOf (IsCutBySome e b) (map without_limits rest)
kids_from e goal ms b count bound done [] covers = tt
kids_from e goal ms b count bound done (kid ∷ rest) covers =
    let all = done ++ kid ∷ rest in
    let here : length done < length all = omega (arith, length-append done (kid ∷ rest)) in
    let is : IsKid e goal (length done) kid = (all, covers, here, at_end done kid rest kid) in (
      (inherited_by_kid e goal kid ms, (kid_bound e goal (length done) kid ms b is count bound).0, (kid_bound e goal (length done) kid ms b is count bound).1),
      kids_from e goal ms b count bound (done ++ kid ∷ []) rest (covers ∙ ap Some (snoc done kid rest)),
    )
  where
    at_end : (done : List Goal) (kid : Goal) (rest : List Goal) (d : Goal) → get_or (done ++ kid ∷ rest) (length done) d ≡ kid
    at_end [] kid rest d = refl
    at_end (g ∷ done) kid rest d = at_end done kid rest d

    snoc : (done : List Goal) (kid : Goal) (rest : List Goal) → done ++ kid ∷ rest ≡ (done ++ kid ∷ []) ++ rest
    snoc [] kid rest = refl
    snoc (g ∷ done) kid rest = ap (λ l. g ∷ l) (snoc done kid rest)

-- what a node is split into, or branched, has multipliers of its bound
pub inherits : (e : Election) (node : Node) (ms : List ℕ) (b : ℕ) (way : Growth) → MayGrow e way node → (has_cover e node.goal ≡ true → node.limits ≡ []) →
    length ms ≡ number_count e node → IsBound e node ms b → EachOf (IsCutBySome e b) (kid_nodes e way node)
inherits e node ms b ByCover may plain count bound =
    let free : node ≡ without_limits node.goal = ap (λ (ls : List Limit). record { goal = node.goal; limits = ls }) (plain may) in
    kids_from e node.goal ms b (subst (λ n. length ms ≡ number_count e n) free count) (subst (λ n. IsBound e n ms b) free bound) [] (cover_list e node.goal) (cover_is e node.goal may)
inherits e node ms b (ByBranch by) may plain count bound =
    let low = half_bound e node (low_limit by.feature by.value) ms b count bound in
    let high = half_bound e node (high_limit by.feature by.value) ms b count bound in
    ((inherited_by_half ms, low.0, low.1), ((inherited_by_half ms, high.0, high.1), tt))
