use Rattle.std.specs.Prelude.{option_map}
use Rattle.std.proofs.Common.{rules, [], ◌++◌, All, ◌≡◌, ◌<◌, ◌+◌, ◌∙◌, ap, arith, length, refl, subst, sym}
use Rattle.bound_tree.specs.Plain.{plain_of}
use Rattle.bound_tree.proofs.Shapes.{size_Branch, size_Split}
use Rattle.goal_rows.specs.LongerKeys.{goals_of}
use Rattle.goal_rows.specs.Nodes.{AreLimits, high_half, high_limit, low_half, low_limit, node_of, with_limit}
use Rattle.goal_rows.specs.Races.{IsGroundIn, election_of}
use Rattle.margin_check.specs.Visits.{visits}
use Rattle.margin_check.specs.Walks.{EndsAt, FitsBelow, Gives, IsKnown}
use Rattle.margin_check.specs.declared.walk.End.TheVariants.{Stopped, Through}
use Rattle.margin_check.proofs.Branches.{before, behind, fits_halves, fits_kids, kid_below, lent_branch}
use Rattle.tree_proofs.proofs.Halves.{half_limits}
use Rattle.margin_check.proofs.Nodes.{as_many_kids, branch_feature, given_for, has_cover, if_ok, kid_few, kid_fits, kid_known, kid_node, kid_smaller, kid_stops, kid_through, kids_from, known_below, known_for, no_limits, none_behind, over_branch, over_split, rest_of, split_free, stopped_in, through_both, visits_few, walk_over_rest}
use Rattle.margin_check.proofs.Ways.{goal_at, goals_long, grounds_in, some_grounds}
use Rattle.margin_check.proofs.walk.+walk.Goals as goal

pub walk-gives-requires-clause-known : goal.walk-gives-requires-clause-known
walk-gives-requires-clause-known t c = known_for (election_of c.args.race.now) c.args.asked c.args.start.now c.as_slice.result.now c.args.limits.now.items (plain_of c.args.tree.now)
    c.as_slice.ensures.value c.requires.known

pub walk-walk_among-requires : goal.walk-walk_among-requires
walk-walk_among-requires t c =
    let e = election_of c.args.race.now in
    let node = node_of c.args.start.now c.args.limits.now.items in
    let given = given_for e c.args.asked c.args.start.now c.as_slice.result.now c.args.limits.now.items (plain_of c.args.tree.now) c.as_slice.ensures.value (c.gives.ensures.value.0 c.if-not-gives.false) in
    let covered = sym c.in_ok-starts-in-Split.ensures.goals ∙ ap (option_map goals_of) c.in-Some.is in
    let many = as_many_kids e c.args.asked node c.args.tree.now c.in-Split.kids (goals_of c.in-Some.starts) c.in-Split.is covered c.requires.known given in
    let values = some_grounds e c.in_ok-starts-in-Split.field-0 c.in-Some.starts c.in-Some.is c.in_ok-starts-in-Split.ensures.values in (
      search (rules, size_Split),
      (
        c.requires.race,
        (
          ap length c.as_slice-in-Some.ensures ∙ sym (goals_long c.in-Some.starts) ∙ many ∙ sym (ap length c.as_slice-in-Some-2.ensures),
          (
            split_free e c.args.asked node c.args.tree.now c.in-Split.kids c.in-Split.is c.requires.known given,
            (
              subst (λ starts. All (IsGroundIn e) starts) (sym c.as_slice-in-Some.ensures)
                  (grounds_in e c.args.start.now.goal c.in-Some.starts c.requires.race.election c.requires.start.reached covered values),
              (
                fits_kids (length c.args.limits.now.items) c.args.tree.now c.in-Split.kids c.as_slice-in-Some-2.result.now c.in-Split.is c.as_slice-in-Some-2.ensures c.requires.fits,
                (
                  search (rules, size_Split),
                  (
                    known_below e c.args.asked node c.args.tree.now _
                        (over_split e node c.args.tree.now c.in-Split.kids c.as_slice-in-Some-2.result.now (goals_of c.in-Some.starts) (goals_of c.as_slice-in-Some.result.now) c.in-Split.is covered (ap goals_of c.as_slice-in-Some.ensures) c.as_slice-in-Some-2.ensures)
                        c.requires.known,
                    search rules,
                  ),
                ),
              ),
            ),
          ),
        ),
      ),
    )

pub walk-unreachable-requires : goal.walk-unreachable-requires
walk-unreachable-requires t c =
    let e = election_of c.args.race.now in
    let node = node_of c.args.start.now c.args.limits.now.items in
    let given = given_for e c.args.asked c.args.start.now c.as_slice.result.now c.args.limits.now.items (plain_of c.args.tree.now) c.as_slice.ensures.value (c.gives.ensures.value.0 c.if-not-gives.false) in
    has_cover e c.args.asked node c.args.tree.now c.in-Split.kids c.in-Split.is (sym c.in_ok-starts-in-Split.ensures.goals ∙ ap (option_map goals_of) c.in-None.is) c.requires.known given

pub walk-walk_halves-requires : goal.walk-walk_halves-requires
walk-walk_halves-requires t c =
    let e = election_of c.args.race.now in
    let node = node_of c.args.start.now c.args.limits.now.items in
    let f = c.in-Branch.feature in
    let low = c.get.result.now in
    let high = c.get-in-Branch.result.now in
    let v = c.in-Branch.value in
    let is = lent_branch c.args.tree.now f v c.in-Branch.low c.in-Branch.high low high c.in-Branch.is c.get.ensures c.get-in-Branch.ensures in
    let given = given_for e c.args.asked c.args.start.now c.as_slice.result.now c.args.limits.now.items (plain_of c.args.tree.now) c.as_slice.ensures.value (c.gives.ensures.value.0 c.if-not-gives.false) in
    let feature = branch_feature e c.args.asked node c.args.tree.now f v low high is c.requires.known given in
    let fit = fits_halves (length c.args.limits.now.items) c.args.tree.now f v low high is c.requires.fits in
    let lows = visits e (low_half node f v) (plain_of low) in
    let highs = visits e (high_half node f v) (plain_of high) in
    let known = known_below e c.args.asked node c.args.tree.now (lows ++ highs) (over_branch e node c.args.tree.now f v low high is) c.requires.known in (
      search (rules, size_Branch),
      (
        c.requires.race,
        (
          c.requires.start,
          (
            half_limits e node (low_limit f v) c.requires.limits fit.few (omega (arith, fit.small)) feature,
            (
              half_limits e node (high_limit f v) c.requires.limits fit.few (omega (arith, fit.small)) feature,
              (
                fit.low_fits,
                (
                  fit.high_fits,
                  (
                    search (rules, size_Branch),
                    (
                      before (IsKnown e c.args.asked) lows highs known,
                      (
                        behind (IsKnown e c.args.asked) lows highs known,
                        search rules,
                      ),
                    ),
                  ),
                ),
              ),
            ),
          ),
        ),
      ),
    )

pub walk-returns-in-Some-clause-end : goal.walk-returns-in-Some-clause-end
walk-returns-in-Some-clause-end t c =
    let e = election_of c.args.race.now in
    let node = node_of c.args.start.now c.args.limits.now.items in
    let given = given_for e c.args.asked c.args.start.now c.as_slice.result.now c.args.limits.now.items (plain_of c.args.tree.now) c.as_slice.ensures.value (c.gives.ensures.value.0 c.if-not-gives.false) in
    let covered = sym c.in_ok-starts-in-Split.ensures.goals ∙ ap (option_map goals_of) c.in-Some.is in
    if_ok c.walk_among.result
    (λ end rest. walk_over_rest e c.args.asked node c.args.tree.now _ c.args.number end
    (over_split e node c.args.tree.now c.in-Split.kids c.as_slice-in-Some-2.result.now (goals_of c.in-Some.starts) (goals_of c.as_slice-in-Some.result.now) c.in-Split.is covered (ap goals_of c.as_slice-in-Some.ensures) c.as_slice-in-Some-2.ensures)
    given rest)
    c.walk_among.ensures.end

pub walk-returns-in-Branch-clause-end : goal.walk-returns-in-Branch-clause-end
walk-returns-in-Branch-clause-end t c =
    let e = election_of c.args.race.now in
    let node = node_of c.args.start.now c.args.limits.now.items in
    let f = c.in-Branch.feature in
    let low = c.get.result.now in
    let high = c.get-in-Branch.result.now in
    let v = c.in-Branch.value in
    let is = lent_branch c.args.tree.now f v c.in-Branch.low c.in-Branch.high low high c.in-Branch.is c.get.ensures c.get-in-Branch.ensures in
    let given = given_for e c.args.asked c.args.start.now c.as_slice.result.now c.args.limits.now.items (plain_of c.args.tree.now) c.as_slice.ensures.value (c.gives.ensures.value.0 c.if-not-gives.false) in
    if_ok c.walk_halves.result
    (λ end rest. walk_over_rest e c.args.asked node c.args.tree.now _ c.args.number end
    (over_branch e node c.args.tree.now f v low high is)
    given rest)
    c.walk_halves.ensures.end

pub walk_among-walk-requires : goal.walk_among-walk-requires
walk_among-walk-requires t c =
    let e = election_of c.args.race.now in
    let goals = goals_of c.args.starts.now in
    let start = c.index-starts-i.result in
    let first : c.loop-i.i < length c.args.starts.now = omega (arith, c.requires.same, c.loop-i-test.true) in
    let within : c.loop-i.i < length goals = omega (arith, first, goals_long c.args.starts.now) in
    let goal_is = goal_at c.args.starts.now c.loop-i.i start first c.index-starts-i.is in
    let free : c.loop-i.limits.items ≡ [] = c.loop-i.invariant.limits in
    let node = kid_node start c.loop-i.limits.items start.goal refl free in
    let known = kid_known (IsKnown e c.args.asked) e goals c.args.kids.now c.loop-i.i start.goal c.index-kids-i.result within c.loop-i-test.true goal_is c.index-kids-i.is c.loop-i.invariant.known in (
      search (rules, kid_smaller c.args.kids.now c.loop-i.i c.index-kids-i.result c.loop-i-test.true c.index-kids-i.is),
      (
        c.requires.race,
        (
          subst (IsGroundIn e) (sym c.index-starts-i.is) (c.requires.starts c.loop-i.i start first),
          (
            no_limits e (node_of start c.loop-i.limits.items) free,
            (
              kid_below c.args.kids.now c.loop-i.i c.index-kids-i.result c.loop-i.limits.items c.loop-i-test.true c.index-kids-i.is free c.requires.fits,
              (
                kid_fits c.args.kids.now c.loop-i.i c.args.number c.loop-i.next c.index-kids-i.result c.loop-i-test.true c.index-kids-i.is c.loop-i.invariant.few c.requires.few,
                (
                  subst (λ n. All (IsKnown e c.args.asked) (visits e n (plain_of c.index-kids-i.result))) (sym node) known.0,
                  search rules,
                ),
              ),
            ),
          ),
        ),
      ),
    )

pub walk_among-returns-in-Stopped-clause-end : goal.walk_among-returns-in-Stopped-clause-end
walk_among-returns-in-Stopped-clause-end t c =
    let e = election_of c.args.race.now in
    let goals = goals_of c.args.starts.now in
    let start = c.index-starts-i.result in
    let first : c.loop-i.i < length c.args.starts.now = omega (arith, c.requires.same, c.loop-i-test.true) in
    let within : c.loop-i.i < length goals = omega (arith, first, goals_long c.args.starts.now) in
    let goal_is = goal_at c.args.starts.now c.loop-i.i start first c.index-starts-i.is in
    let node = kid_node start c.loop-i.limits.items start.goal refl c.loop-i.invariant.limits in
    let here = subst (λ n. EndsAt (Gives e c.args.asked) c.loop-i.next (visits e n (plain_of c.index-kids-i.result)) c.in_ok-behind.field-0) node c.in_ok-behind.ensures.end in
    c.loop-i.invariant.rest (Stopped c.in-Stopped.at)
    (kid_stops (Gives e c.args.asked) _ _ (rest_of e goals c.args.kids.now c.loop-i.i) c.loop-i.next c.in-Stopped.at c.in_ok-behind.field-0
    (kids_from e goals c.args.kids.now c.loop-i.i start.goal c.index-kids-i.result within c.loop-i-test.true goal_is c.index-kids-i.is)
    c.in-Stopped.is here)

pub walk_among-loop-i-preserved : goal.walk_among-loop-i-preserved
walk_among-loop-i-preserved t c =
    let e = election_of c.args.race.now in
    let goals = goals_of c.args.starts.now in
    let start = c.index-starts-i.result in
    let first : c.loop-i.i < length c.args.starts.now = omega (arith, c.requires.same, c.loop-i-test.true) in
    let within : c.loop-i.i < length goals = omega (arith, first, goals_long c.args.starts.now) in
    let goal_is = goal_at c.args.starts.now c.loop-i.i start first c.index-starts-i.is in
    let node = kid_node start c.loop-i.limits.items start.goal refl c.loop-i.invariant.limits in
    let here = subst (λ n. EndsAt (Gives e c.args.asked) c.loop-i.next (visits e n (plain_of c.index-kids-i.result)) c.in_ok-behind.field-0) node c.in_ok-behind.ensures.end in
    let known = kid_known (IsKnown e c.args.asked) e goals c.args.kids.now c.loop-i.i start.goal c.index-kids-i.result within c.loop-i-test.true goal_is c.index-kids-i.is c.loop-i.invariant.known in
    record {
      room = c.in_ok-behind.ensures.room ∙ c.loop-i.invariant.room;
      limits = c.in_ok-behind.ensures.limits ∙ c.loop-i.invariant.limits;
      few = kid_few (Gives e c.args.asked) e _ c.args.kids.now c.loop-i.i c.args.number c.loop-i.next
          c.in-Through.behind c.index-kids-i.result c.in_ok-behind.field-0 c.loop-i-test.true c.index-kids-i.is c.loop-i.invariant.few c.in-Through.is here;
      known = known.1;
      rest = λ end rest. c.loop-i.invariant.rest end
          (kid_through (Gives e c.args.asked) _ (rest_of e goals c.args.kids.now (c.loop-i.i + 1)) (rest_of e goals c.args.kids.now c.loop-i.i) c.loop-i.next c.in-Through.behind
          c.in_ok-behind.field-0 end
          (kids_from e goals c.args.kids.now c.loop-i.i start.goal c.index-kids-i.result within c.loop-i-test.true goal_is c.index-kids-i.is)
          c.in-Through.is here rest);
    }

pub walk_among-returns-clause-end : goal.walk_among-returns-clause-end
walk_among-returns-clause-end t c = c.loop-i.invariant.rest (Through c.loop-i.next)
    (none_behind (Gives (election_of c.args.race.now) c.args.asked) (election_of c.args.race.now) (goals_of c.args.starts.now) c.args.kids.now c.loop-i.i c.loop-i.next c.loop-i-test.false)

pub walk_halves-walk_half-requires-in-Through : goal.walk_halves-walk_half-requires-in-Through
walk_halves-walk_half-requires-in-Through t c =
    let e = election_of c.args.race.now in
    let start = c.args.start.now in
    let f = c.args.feature in
    let v = c.args.value in
    let node = node_of start c.args.limits.now.items in
    let same = c.in_ok-behind.ensures.limits in
    let ends = subst (λ x. EndsAt (Gives e c.args.asked) c.args.number (visits e (low_half node f v) (plain_of c.args.low.now)) x) c.in-Through.is c.in_ok-behind.ensures.end in (
      search rules,
      (
        c.requires.race,
        (
          c.requires.start,
          (
            subst (λ ls. AreLimits e (with_limit (node_of start ls) (high_limit f v))) (sym same) c.requires.high,
            (
              subst (λ ls. FitsBelow (length ls + 1) (plain_of c.args.high.now)) (sym same) c.requires.high_fits,
              (
                omega (arith, ends.1, visits_few e (low_half node f v) (plain_of c.args.low.now), c.requires.few),
                (
                  subst (λ ls. All (IsKnown e c.args.asked) (visits e (with_limit (node_of start ls) (high_limit f v)) (plain_of c.args.high.now))) (sym same) c.requires.high_known,
                  search rules,
                ),
              ),
            ),
          ),
        ),
      ),
    )

pub walk_halves-returns-in-Through-clause-end : goal.walk_halves-returns-in-Through-clause-end
walk_halves-returns-in-Through-clause-end t c =
    let e = election_of c.args.race.now in
    let start = c.args.start.now in
    let f = c.args.feature in
    let v = c.args.value in
    let node = node_of start c.args.limits.now.items in
    let P = Gives e c.args.asked in
    let lows = visits e (low_half node f v) (plain_of c.args.low.now) in
    let highs = visits e (high_half node f v) (plain_of c.args.high.now) in
    let ends = subst (λ x. EndsAt P c.args.number lows x) c.in-Through.is c.in_ok-behind.ensures.end in
    if_ok c.walk_half-in-Through.result
    (λ end rest. through_both P c.args.number c.in-Through.behind lows highs end ends
    (subst (λ ls. EndsAt P c.in-Through.behind (visits e (with_limit (node_of start ls) (high_limit f v)) (plain_of c.args.high.now)) end) c.in_ok-behind.ensures.limits rest))
    c.walk_half-in-Through.ensures.end

pub walk_halves-returns-in-Stopped-clause-end : goal.walk_halves-returns-in-Stopped-clause-end
walk_halves-returns-in-Stopped-clause-end t c =
    let e = election_of c.args.race.now in
    let node = node_of c.args.start.now c.args.limits.now.items in
    let P = Gives e c.args.asked in
    let lows = visits e (low_half node c.args.feature c.args.value) (plain_of c.args.low.now) in
    let highs = visits e (high_half node c.args.feature c.args.value) (plain_of c.args.high.now) in
    stopped_in P c.args.number lows highs c.in-Stopped.at (subst (λ x. EndsAt P c.args.number lows x) c.in-Stopped.is c.in_ok-behind.ensures.end)
