use Rattle.std.proofs.Common.{◌≡◌, ap, ◌∙◌}
use Rattle.goal_rows.specs.Elections.{Election}
use Rattle.goal_rows.specs.Goals.{root_goals}
use Rattle.goal_rows.proofs.Turning.{contest_turning}
use Rattle.goal_rows.proofs.Roots.{roots_are_lawful}
use Rattle.goal_rows.proofs.races.race.Goals as goal

pub returns-clause-roots : goal.returns-clause-roots
returns-clause-roots c = c.in_ok-roots.ensures ∙ ap (λ n. root_goals c.args.rule n c.in_ok-reported.reported) c.candidates.ensures.value

pub returns-clause-race : goal.returns-clause-race
returns-clause-race c =
    let roots : c.in_ok-roots.roots ≡ root_goals c.args.rule c.args.roll.now.c c.in_ok-reported.reported = c.in_ok-roots.ensures ∙ ap (λ n. root_goals c.args.rule n c.in_ok-reported.reported) c.candidates.ensures.value in
    let e : Election = record { rule = c.args.rule; poll = c.args.roll.now; reported = c.in_ok-reported.reported; roots = c.in_ok-roots.roots } in
    record {
      election = record {
        lawful = c.requires.rule;
        poll = c.candidates.ensures.poll;
        reported = c.in_ok-reported.ensures.reported;
        roots = roots_are_lawful e c.candidates.ensures.poll c.in_ok-reported.ensures.reported roots;
      };
      kinds = c.in_ok-kinds.ensures;
    }

pub returns-clause-turning : goal.returns-clause-turning
returns-clause-turning c =
    let roots : c.in_ok-roots.roots ≡ root_goals c.args.rule c.args.roll.now.c c.in_ok-reported.reported = c.in_ok-roots.ensures ∙ ap (λ n. root_goals c.args.rule n c.in_ok-reported.reported) c.candidates.ensures.value in
    let e : Election = record { rule = c.args.rule; poll = c.args.roll.now; reported = c.in_ok-reported.reported; roots = c.in_ok-roots.roots } in
    λ changes alters. contest_turning e changes c.candidates.ensures.poll c.in_ok-reported.ensures.reported roots alters
