use Rattle.std.proofs.Common.{◌+◌, ◌<◌, ◌≤◌, ◌∙◌, ap, inl, inr, sym, arith}
use Rattle.std.proofs.lemmas.Bool.{cases_lt, false≢true}
use Rattle.std.proofs.lemmas.Bool.Decides.{nat_tests}
use Rattle.bound_tree.specs.Nodes.{size}
use Rattle.search_leaves.specs.Found.{problem_of}
use Rattle.search_leaves.specs.Kept.{node_at}
use Rattle.search_theory.specs.Ends.{Problem}
use Rattle.search_theory.specs.Trees.{top_of}
use Rattle.suffix_search.specs.Searches.{growth_at}
use Rattle.suffix_search.proofs.Turning.{IsLeast, grows, stops_at_point, stops_at_top, stops_deep, stops_empty, stops_full, stops_met}
use Rattle.suffix_search.proofs.turns.decide.Goals as goal

pub returns-then-is_empty : goal.returns-then-is_empty
returns-then-is_empty c =
    let p : Problem = problem_of c.args.race.now c.args.upper c.args.budget in
    stops_empty p c.args.tree.now c.args.leaves.now c.requires.race.election c.requires.known c.requires.search (c.len-top.result + 1)
    (grind (arith, nat_tests, c.is_empty.ensures, c.if-is_empty.true)) (ap (λ n. n + 1) c.len-top.ensures.value)

pub returns-then-leaf-top : goal.returns-then-leaf-top
returns-then-leaf-top c =
    let p : Problem = problem_of c.args.race.now c.args.upper c.args.budget in
    let leaf = c.index-leaves-place.result in
    let least : IsLeast c.args.leaves.now c.first_least-place.result leaf = record { within = c.first_least-place.ensures.within; stands = c.index-leaves-place.is; least = c.first_least-place.ensures.least; first = c.first_least-place.ensures.first } in
    stops_at_top p c.args.tree.now c.args.leaves.now c.requires.race.election c.requires.known c.requires.search c.first_least-place.result leaf least (c.len-top.result + 1) (ap (λ n. n + 1) c.len-top.ensures.value) c.if-leaf-top.true

pub returns-then-is_met : goal.returns-then-is_met
returns-then-is_met c =
    let p : Problem = problem_of c.args.race.now c.args.upper c.args.budget in
    let leaf = c.index-leaves-place.result in
    let least : IsLeast c.args.leaves.now c.first_least-place.result leaf = record { within = c.first_least-place.ensures.within; stands = c.index-leaves-place.is; least = c.first_least-place.ensures.least; first = c.first_least-place.ensures.first } in
    let top = ap (λ n. n + 1) c.len-top.ensures.value in
    let under = c.if-leaf-top.false in
    let low : leaf.bound < top_of p.election = omega (arith, top, under) in
    stops_met p c.args.tree.now c.args.leaves.now c.requires.race.election c.requires.known c.requires.search c.first_least-place.result leaf least low (c.is_met.ensures.0 c.if-is_met.true)

pub returns-then-is_at_point : goal.returns-then-is_at_point
returns-then-is_at_point c =
    let p : Problem = problem_of c.args.race.now c.args.upper c.args.budget in
    let leaf = c.index-leaves-place.result in
    let least : IsLeast c.args.leaves.now c.first_least-place.result leaf = record { within = c.first_least-place.ensures.within; stands = c.index-leaves-place.is; least = c.first_least-place.ensures.least; first = c.first_least-place.ensures.first } in
    let top = ap (λ n. n + 1) c.len-top.ensures.value in
    let under = c.if-leaf-top.false in
    let low : leaf.bound < top_of p.election = omega (arith, top, under) in
    let at = c.is_at_point.ensures.0 c.if-is_at_point.true in
    stops_at_point p c.args.tree.now c.args.leaves.now c.requires.race.election c.requires.known c.requires.search c.first_least-place.result leaf least low
    (λ e. false≢true (sym c.if-is_met.false ∙ c.is_met.ensures.1 e)) at.0 at.1 at.2

pub returns-then-not-has_room : goal.returns-then-not-has_room
returns-then-not-has_room c =
    let p : Problem = problem_of c.args.race.now c.args.upper c.args.budget in
    let leaf = c.index-leaves-place.result in
    let least : IsLeast c.args.leaves.now c.first_least-place.result leaf = record { within = c.first_least-place.ensures.within; stands = c.index-leaves-place.is; least = c.first_least-place.ensures.least; first = c.first_least-place.ensures.first } in
    let top = ap (λ n. n + 1) c.len-top.ensures.value in
    let under = c.if-leaf-top.false in
    let low : leaf.bound < top_of p.election = omega (arith, top, under) in
    let nodes = c.nodes.ensures.count in
    let full : c.args.budget < size c.args.tree.now + growth_at p.election (node_at leaf) = elim (cases_lt c.args.budget (size c.args.tree.now + growth_at p.election (node_at leaf))) [
      | inl lt ↦ lt
      | inr le ↦ absurd (false≢true (sym c.if-not-has_room.true ∙ c.has_room.ensures.1 (omega (arith, le, nodes))))
    ] in
    stops_full p c.args.tree.now c.args.leaves.now c.requires.race.election c.requires.known c.requires.search c.first_least-place.result leaf least low
    (λ e. false≢true (sym c.if-is_met.false ∙ c.is_met.ensures.1 e)) (λ q at whole. false≢true (sym c.if-is_at_point.false ∙ c.is_at_point.ensures.1 (q, at, whole))) full

pub returns-then-leaf-ge-MOST_DEPTH : goal.returns-then-leaf-ge-MOST_DEPTH
returns-then-leaf-ge-MOST_DEPTH c =
    let p : Problem = problem_of c.args.race.now c.args.upper c.args.budget in
    let leaf = c.index-leaves-place.result in
    let least : IsLeast c.args.leaves.now c.first_least-place.result leaf = record { within = c.first_least-place.ensures.within; stands = c.index-leaves-place.is; least = c.first_least-place.ensures.least; first = c.first_least-place.ensures.first } in
    let top = ap (λ n. n + 1) c.len-top.ensures.value in
    let under = c.if-leaf-top.false in
    let low : leaf.bound < top_of p.election = omega (arith, top, under) in
    let nodes = c.nodes.ensures.count in
    let has = c.has_room.ensures.0 c.if-not-has_room.false in
    let room : size c.args.tree.now + growth_at p.election (node_at leaf) ≤ c.args.budget = omega (arith, has, nodes) in
    stops_deep p c.args.tree.now c.args.leaves.now c.requires.race.election c.requires.known c.requires.search c.first_least-place.result leaf least low
    (λ e. false≢true (sym c.if-is_met.false ∙ c.is_met.ensures.1 e)) (λ q at whole. false≢true (sym c.if-is_at_point.false ∙ c.is_at_point.ensures.1 (q, at, whole))) room c.if-leaf-ge-MOST_DEPTH.true

pub returns : goal.returns
returns c =
    let p : Problem = problem_of c.args.race.now c.args.upper c.args.budget in
    let leaf = c.index-leaves-place.result in
    let least : IsLeast c.args.leaves.now c.first_least-place.result leaf = record { within = c.first_least-place.ensures.within; stands = c.index-leaves-place.is; least = c.first_least-place.ensures.least; first = c.first_least-place.ensures.first } in
    let top = ap (λ n. n + 1) c.len-top.ensures.value in
    let under = c.if-leaf-top.false in
    let low : leaf.bound < top_of p.election = omega (arith, top, under) in
    let nodes = c.nodes.ensures.count in
    let has = c.has_room.ensures.0 c.if-not-has_room.false in
    let room : size c.args.tree.now + growth_at p.election (node_at leaf) ≤ c.args.budget = omega (arith, has, nodes) in
    grows p c.args.tree.now c.args.leaves.now c.requires.race.election c.requires.known c.requires.search c.first_least-place.result leaf least low
    (λ e. false≢true (sym c.if-is_met.false ∙ c.is_met.ensures.1 e)) (λ q at whole. false≢true (sym c.if-is_at_point.false ∙ c.is_at_point.ensures.1 (q, at, whole))) room c.if-leaf-ge-MOST_DEPTH.false
