-- The certificates that are made are those of their contest.
use Rattle.std.proofs.Common.{ℕ, List, [], Some, ◌≡◌, ◌⊎◌, ◌<◌, ◌≤◌, ◌+◌, ◌∙◌, Option, length, ap, sym, refl, subst, inl, inr, arith}
use Rattle.std.specs.Prelude.{None as Nothing}
use Rattle.std.proofs.lemmas.List.{length-map}
use Rattle.alteration_model.specs.Faults.{pairs_of}
use Rattle.alteration_model.specs.declared.puts.Put.{Put}
use Rattle.alteration_model.proofs.Judged.{no_longer}
use Rattle.ballot_form.specs.Alterations.{IsAlteration, after}
use Rattle.ballot_form.specs.Ballots.{Poll}
use Rattle.ballot_form.specs.declared.limits.TheConstants.{MOST_BALLOTS}
use Rattle.bound_tree.specs.Nodes.{height, size}
use Rattle.bound_tree.specs.Plain.{Plain}
use Rattle.bound_tree.specs.declared.bound.TheConstants.{MOST_DEPTH}
use Rattle.cert_text.specs.CertText.{BodyFits, ClaimFits, StopFits}
use Rattle.cert_text.specs.declared.cert.Cert.{Cert}
use Rattle.cert_text.specs.declared.cert.Claim.{Claim}
use Rattle.cert_text.specs.declared.cert.Claim.TheVariants.{Margin, Fixed, Bounds}
use Rattle.cert_text.specs.declared.cert.Stop.{Stop}
use Rattle.cert_text.specs.declared.cert.Stop.TheVariants as stops
use Rattle.cert_text.specs.declared.limits.TheConstants.{MOST_BUDGET}
use Rattle.goal_rows.specs.Elections.{Election}
use Rattle.goal_rows.specs.Goals.{IsDecidedByPairs, IsElection, root_goals}
use Rattle.goal_rows.specs.Nodes.{without_limits}
use Rattle.goal_rows.specs.Outcomes.{IsReported}
use Rattle.goal_rows.specs.Races.{IsRace, election_of}
use Rattle.goal_rows.specs.declared.goals.Goal.{Goal}
use Rattle.goal_rows.specs.declared.goals.Goal.TheVariants as goals
use Rattle.goal_rows.specs.declared.parts.Race.{Race}
use Rattle.tree_proofs.specs.Proving.{Proves}
use Rattle.margin_check.specs.Validity.{ClaimHolds, HasOrder, IsValidCert, election_by, level_of, named_goal}
use Rattle.margin_check.proofs.Judging.{same_election}
use Rattle.margin_check.proofs.Meaning.{claim_is_true}
use Rattle.margin_check.proofs.Trees.{cuts_of, shape_of}
use Rattle.witness_build.specs.Starts.{IsStart, IsStartNumber}
use Rattle.witness_build.specs.Witnesses.{IsMetBy}
use Rattle.witness_build.specs.declared.pairs.Witness.{Witness}
use Rattle.witness_build.proofs.RootPairs.{own_are_pairs}
use Rattle.witness_build.proofs.StartNumbers.{start_number}
use Rattle.search_theory.specs.Ends.{Ending, IsEnd, Problem}
use Rattle.search_theory.specs.Ends as ends
use Rattle.search_theory.specs.Trees.{IsNeeded, IsTight}
use Rattle.search_leaves.specs.Found.{IsFromPoint, problem_of}
use Rattle.margin_solve.specs.Certificates.{EndsAs, EndsByPairs, IsFixedCert, IsFromStart, IsMetCert, IsPointCert, IsStartOf, IsStoppedCert, StopsAt, search_by}
use Rattle.margin_solve.specs.Made.{HasParts, HasTurn, IsBegun, IsMade}
use Rattle.margin_solve.specs.Numbers.{AreNarrow}
use Rattle.margin_solve.proofs.Endings.{IsWithin, fewer, within}
use Rattle.margin_solve.proofs.PairTrees.{at_no_point, no_room}
use Rattle.margin_solve.proofs.PrintedTrees.{tree_lines}
use Rattle.margin_solve.proofs.Printing.{printable, turn_fits}
use Rattle.margin_solve.proofs.Roots.{pairs_few}
use Rattle.margin_solve.proofs.TextSizes.{text_short}

-- the tree that a search found, and the number that it proves
pub record IsTreeOf (e : Election) (budget low : ℕ) (tree : Plain) : Type 0 where
  pub proof : Proves e low (without_limits goals.Root) tree
  pub tight : IsTight e tree
  pub needed : IsNeeded e low tree
  pub within : size tree ≤ budget
  pub narrow : AreNarrow tree
  pub shallow : height tree ≤ MOST_DEPTH

-- the replacements make a complete goal hold
record IsTurned (e : Election) (cert : Cert) (k : ℕ) : Type 0 where
  pub goal : Goal
  pub named : named_goal cert.goal ≡ Some goal
  pub met : IsMetBy e goal (pairs_of cert.puts)
  pub count : length cert.puts ≡ k

-- what a claim says of itself: nothing, or the goal and the replacements with which it comes
abbrev HasBody : Election → Cert → Claim → Type 0
HasBody e cert Fixed = (cert.goal ≡ Nothing) × (cert.puts ≡ [])
HasBody e cert (Margin k) = IsTurned e cert k
HasBody e cert (Bounds low up stop) = IsTurned e cert up × (low < up) × StopFits stop

module _ (race : Race) (is : IsRace race) (own : race.roots ≡ root_goals race.rule race.roll.now.c race.reported) (budget : ℕ) (few : budget ≤ MOST_BUDGET)
    (claim : Claim) (tree : Plain) (cert : Cert) (parts : HasParts race claim tree cert) where
  abbrev p : Poll
  p = race.roll.now

  abbrev e : Election
  e = election_by p cert

  same : election_of race ≡ e
  same = same_election race p cert (sym parts.rule) refl (sym parts.reported)
      (own ∙ ap (λ r. root_goals r p.c race.reported) (sym parts.rule))

  election : IsElection e
  election = subst IsElection same is.election

  -- ---- validity and text

  holds : (c : Claim) → HasBody e cert c → ClaimHolds e c cert.goal (after p (pairs_of cert.puts)).ballots
  holds Fixed body = tt
  holds (Margin k) body = (body.goal, body.named, body.met.complete, body.met.holds)
  holds (Bounds low up stop) body = (body.0.goal, body.0.named, body.0.met.complete, body.0.met.holds)

  alters : (c : Claim) → HasBody e cert c → IsAlteration p (pairs_of cert.puts)
  alters Fixed body = subst (λ puts. IsAlteration p (pairs_of puts)) (sym body.1) tt
  alters (Margin k) body = body.met.alteration
  alters (Bounds low up stop) body = body.0.met.alteration

  ordered : (c : Claim) → HasBody e cert c → HasOrder c
  ordered Fixed body = tt
  ordered (Margin k) body = tt
  ordered (Bounds low up stop) body = body.1

  few_puts : (k : ℕ) → IsTurned e cert k → k ≤ length p.ballots
  few_puts k turned =
      let put : Put → ℕ × List ℕ = λ one. (one.number, one.ballot) in
      let longest = no_longer p (pairs_of cert.puts) turned.met.alteration in
      let same_length = length-map cert.puts put in
      let count = turned.count in
      omega (arith, longest, same_length, count)

  claim_fits : (c : Claim) → HasBody e cert c → ClaimFits c
  claim_fits Fixed body = tt
  claim_fits (Margin k) body = let most = few_puts k body in let poll = election.poll.few in omega (arith, most, poll)
  claim_fits (Bounds low up stop) body =
      let most = few_puts up body.0 in
      let poll = election.poll.few in
      let less = body.1 in
      (omega (arith, most, poll, less), omega (arith, most, poll), body.2)

  body_fits : (c : Claim) → HasBody e cert c → BodyFits p.c c cert.goal cert.puts
  body_fits Fixed body = body
  body_fits (Margin k) body = turn_fits e k cert.goal body.goal cert.puts election body.named body.met body.count
  body_fits (Bounds low up stop) body = turn_fits e up cert.goal body.0.goal cert.puts election body.0.named body.0.met body.0.count

  few_in_all : (c : Claim) → HasBody e cert c → length cert.puts ≤ MOST_BALLOTS
  few_in_all Fixed body = let none = ap (λ (puts : List Put). length puts) body.1 in omega (arith, none)
  few_in_all (Margin k) body = let most = few_puts k body in let count = body.count in let poll = election.poll.few in omega (arith, most, count, poll)
  few_in_all (Bounds low up stop) body = let most = few_puts up body.0 in let count = body.0.count in let poll = election.poll.few in omega (arith, most, count, poll)

  -- a certificate with a proved tree and the body of its claim is one of its contest
  made : (low : ℕ) → low ≡ level_of (length p.ballots) claim → IsTreeOf e budget low tree → HasBody e cert claim → EndsAs budget p cert claim
      → (IsDecidedByPairs race.rule cert.reported → EndsByPairs budget p cert claim) → IsMade race budget cert
  made low level found body end pairs =
      let same_claim : claim ≡ cert.claim = sym parts.claim_is in
      let same_tree : tree ≡ cert.tree = sym parts.tree_is in
      let body_here : HasBody e cert cert.claim = subst (HasBody e cert) same_claim body in
      let level_here : low ≡ level_of (length p.ballots) cert.claim = level ∙ ap (level_of (length p.ballots)) same_claim in
      let proof : Proves e (level_of (length p.ballots) cert.claim) (without_limits goals.Root) cert.tree =
      subst (λ n. Proves e n (without_limits goals.Root) cert.tree) level_here (subst (Proves e low (without_limits goals.Root)) same_tree found.proof) in
      let needed : IsNeeded e (level_of (length p.ballots) cert.claim) cert.tree =
      subst (λ n. IsNeeded e n cert.tree) level_here (subst (IsNeeded e low) same_tree found.needed) in
      let shallow : height cert.tree ≤ MOST_DEPTH = subst (λ t. height t ≤ MOST_DEPTH) same_tree found.shallow in
      let small : size cert.tree ≤ budget = subst (λ t. size t ≤ budget) same_tree found.within in
      let lines = tree_lines e (level_of (length p.ballots) cert.claim) (level_of (length p.ballots) cert.claim) cert.tree election proof needed
      (subst AreNarrow same_tree found.narrow) shallow in
      let text = printable p cert election parts.candidates parts.ballots (claim_fits cert.claim body_here) (body_fits cert.claim body_here) lines shallow (omega (arith, small, few)) in
      let valid : IsValidCert p cert = record {
        head = (parts.candidates, parts.ballots);
        reported = election.reported;
        alteration = alters cert.claim body_here;
        claim = holds cert.claim body_here;
        shape = shape_of e (level_of (length p.ballots) cert.claim) cert.tree (without_limits goals.Root) proof;
        cuts = cuts_of e (level_of (length p.ballots) cert.claim) cert.tree (without_limits goals.Root) proof;
        numbers = ordered cert.claim body_here;
      } in
      record {
        found = record {
          rule_is = parts.rule;
          candidates = parts.candidates;
          ballots = parts.ballots;
          reported = subst (λ r. IsReported r p cert.reported) parts.rule election.reported;
          valid = valid;
          claim = claim_is_true p cert election.poll text valid;
          short = text_short p.c (length p.ballots) cert text (omega (arith, small, few)) (few_in_all claim body) election.poll.most (alters cert.claim body_here);
          nodes = small;
          tight = subst (IsTight e) same_tree found.tight;
          needed = needed;
          end = subst (EndsAs budget p cert) same_claim end;
          pairs = λ decided. subst (EndsByPairs budget p cert) same_claim (pairs decided);
        };
        printable = text;
      }

  -- ---- what is transported from the race

  tree_here : (low : ℕ) → IsTreeOf (election_of race) budget low tree → IsTreeOf e budget low tree
  tree_here low found = subst (λ f. IsTreeOf f budget low tree) same found

  ended_here : (low : ℕ) (upper : Option ℕ) (ending : Ending) → IsEnd (problem_of race upper budget) tree low ending → IsEnd (search_by p cert upper budget) cert.tree low ending
  ended_here low upper ending end =
      subst (λ t. IsEnd (search_by p cert upper budget) t low ending) (sym parts.tree_is)
      (subst (λ f. IsEnd (record { election = f; upper = upper; budget = budget }) tree low ending) same end)

  decided_here : IsDecidedByPairs race.rule cert.reported → IsDecidedByPairs race.rule race.reported
  decided_here decided = subst (IsDecidedByPairs race.rule) parts.reported decided

  -- ---- nobody else stands

  pub fixed_made : (low : ℕ) → claim ≡ Fixed → cert.goal ≡ Nothing → cert.puts ≡ [] → p.c ≡ 1 → IsTreeOf (election_of race) budget low tree
      → IsEnd (problem_of race Nothing budget) tree low ends.Nothing → IsMade race budget cert
  fixed_made low fixed goal puts alone found end =
      let top : low ≡ length p.ballots + 1 = end.1 in
      let is_fixed : IsFixedCert budget p cert = record {
        alone = alone;
        end = subst (λ n. IsEnd (search_by p cert Nothing budget) cert.tree n ends.Nothing) top (ended_here low Nothing ends.Nothing end);
        goal = goal;
        puts = puts;
      } in
      made low (top ∙ ap (level_of (length p.ballots)) (sym fixed)) (tree_here low found) (subst (HasBody e cert) (sym fixed) (goal, puts))
      (subst (EndsAs budget p cert) (sym fixed) is_fixed) (λ decided. subst (EndsByPairs budget p cert) (sym fixed) is_fixed)

  -- ---- somebody else does

  module _ (w : Witness) (begun : IsBegun race (Some w)) (low : ℕ) (found : IsTreeOf (election_of race) budget low tree) where
    abbrev u : ℕ
    u = length w.changes

    abbrev problem : Problem
    problem = problem_of race (Some u) budget

    limits : IsWithin problem u low
    limits = within race is own budget w tree low begun found.proof

    start_of : IsStartOf e u
    start_of = record { others = begun.0; number = subst (λ f. IsStartNumber f u) same (start_number (election_of race) w.goal w.changes is.election begun.1 begun.2) }

    from_start : HasTurn w cert → IsFromStart p cert
    from_start turn = record {
      goal = w.goal;
      named = turn.goal;
      start = subst (IsStart e w.goal) (sym turn.puts) (subst (λ f. IsStart f w.goal w.changes) same begun.1);
    }

    turned : (v : Witness) (k : ℕ) → HasTurn v cert → length v.changes ≡ k → IsMetBy (election_of race) v.goal v.changes → IsTurned e cert k
    turned v k turn count met = record {
      goal = v.goal;
      named = turn.goal;
      met = subst (IsMetBy e v.goal) (sym turn.puts) (subst (λ f. IsMetBy f v.goal v.changes) same met);
      count = sym (length-map cert.puts (λ (one : Put). (one.number, one.ballot))) ∙ ap length turn.puts ∙ count;
    }

    some_is : (a b : ℕ) → Some a ≡ Some b → a ≡ b
    some_is a b same = cc

    pub met_made : claim ≡ Margin low → HasTurn w cert → IsEnd problem tree low ends.Met → IsMade race budget cert
    met_made margin turn end =
        let count : u ≡ low = some_is u low end.1 in
        let is_met : IsMetCert budget p cert low = record {
          known = subst (IsStartOf e) count start_of;
          end = subst (λ n. IsEnd (search_by p cert (Some n) budget) cert.tree low ends.Met) count (ended_here low (Some u) ends.Met end);
          turn = from_start turn;
        } in
        made low (ap (level_of (length p.ballots)) (sym margin)) (tree_here low found) (subst (HasBody e cert) (sym margin) (turned w low turn count begun.2))
        (subst (EndsAs budget p cert) (sym margin) (inl is_met)) (λ decided. subst (EndsByPairs budget p cert) (sym margin) is_met)

    pub point_made : (v : Witness) → claim ≡ Margin low → HasTurn v cert → IsFromPoint problem tree low v → IsMade race budget cert
    point_made v margin turn from =
        let less = fewer problem u low refl limits from.at.unmet in
        let point : IsPointCert budget p cert low = record {
          start = u;
          known = start_of;
          fewer = less;
          witness = v;
          end = subst (λ t. IsFromPoint (search_by p cert (Some u) budget) t low v) (sym parts.tree_is)
              (subst (λ f. IsFromPoint (record { election = f; upper = Some u; budget = budget }) tree low v) same from);
          named = turn.goal;
          puts = turn.puts;
        } in
        made low (ap (level_of (length p.ballots)) (sym margin)) (tree_here low found) (subst (HasBody e cert) (sym margin) (turned v low turn from.count from.met))
        (subst (EndsAs budget p cert) (sym margin) (inr point))
        (λ decided. absurd (at_no_point problem w.goal w.changes tree low is.election
        (own_are_pairs race.rule p.c race.reported race.roots (decided_here decided) own) (begun.1.pairs (decided_here decided)) limits.few less found.needed found.tight from.q from.at))

    -- the search went on where it stopped
    stopped_on : (stop : Stop) (ending : Ending) → StopsAt budget stop ending → IsEnd problem tree low ending → IsEnd problem tree low ends.Budget ⊎ IsEnd problem tree low ends.Depth
    stopped_on (stops.Budget nodes) ending stops_at end = inl (subst (IsEnd problem tree low) stops_at.1 end)
    stopped_on stops.Depth ending stops_at end = inr (subst (IsEnd problem tree low) stops_at end)

    unmet : IsEnd problem tree low ends.Budget ⊎ IsEnd problem tree low ends.Depth → Some u ≡ Some low → ⊥
    unmet (inl on) = on.0.unmet
    unmet (inr on) = on.0.unmet

    stop_fits : (stop : Stop) (ending : Ending) → 1 ≤ budget → StopsAt budget stop ending → StopFits stop
    stop_fits (stops.Budget nodes) ending some stops_at = let same = stops_at.0 in (omega (arith, some, same), omega (arith, few, same))
    stop_fits stops.Depth ending some stops_at = tt

    pub stopped_made : (stop : Stop) (ending : Ending) → 1 ≤ budget → claim ≡ Bounds low u stop → HasTurn w cert → StopsAt budget stop ending → IsEnd problem tree low ending → IsMade race budget cert
    stopped_made stop ending some bounds turn stops_at end =
        let on = stopped_on stop ending stops_at end in
        let less = fewer problem u low refl limits (unmet on) in
        let stopped : IsStoppedCert budget p cert low u stop = record {
          known = start_of;
          ending = ending;
          stops = stops_at;
          end = ended_here low (Some u) ending end;
          turn = from_start turn;
        } in
        made low (ap (level_of (length p.ballots)) (sym bounds)) (tree_here low found)
        (subst (HasBody e cert) (sym bounds) (turned w u turn refl begun.2, less, stop_fits stop ending some stops_at))
        (subst (EndsAs budget p cert) (sym bounds) stopped)
        (λ decided. subst (EndsByPairs budget p cert) (sym bounds)
        (let room = no_room problem w.goal w.changes tree low is.election (own_are_pairs race.rule p.c race.reported race.roots (decided_here decided) own)
        (begun.1.pairs (decided_here decided)) limits.few less found.needed found.tight on in
        let pairs = pairs_few race.rule p.c race.reported race.roots is.election.poll.some own (decided_here decided) in
        omega (arith, room, pairs)))
