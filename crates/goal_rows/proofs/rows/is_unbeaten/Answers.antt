use Rattle.std.proofs.Common.{ℕ, ◌≡◌, ◌<◌, ◌≤◌, ◌∙◌, arith, inl, inr, false, true, refl, sym, subst}
use Rattle.std.proofs.lemmas.Bool.{cases_eq, cases_lt}
use Rattle.condorcet_count.specs.Preferences.{pref_of}
use Rattle.goal_rows.proofs.CoverTurning.{unbeaten_exactly}
use Rattle.goal_rows.proofs.rows.is_unbeaten.Goals as goal
use Rattle.goal_rows.proofs.rows.is_unbeaten.Goals.{else-j-x-via-then-j-x+else-is_beaten_by, else-j-x-via-else-j-x}

not_less : (a b : ℕ) → (a < b → false ≡ true) → b ≤ a
not_less a b never = elim (cases_lt a b) [ inl less ↦ absurd (let h = never less in cc) | inr ge ↦ ge ]

pub returns-then-is_beaten_by : goal.returns-then-is_beaten_by
returns-then-is_beaten_by c = (
  λ h. absurd (cc h),
  λ rows. let below = (unbeaten_exactly c.args.roll.now.c c.args.x c.args.roll.now.ballots).0 rows in
      let less = c.if-is_beaten_by.ensures.0 refl in
      let e = c.candidates-j-end.ensures.value in
      absurd (omega (arith, below.level c.loop-j.j (omega (arith, e, c.loop-j-test.true)) c.if-j-x.true, less)),
)

pub loop-j-preserved : goal.loop-j-preserved
loop-j-preserved c k lt differ = elim (cases_eq k c.loop-j.j) [
  | inr other ↦ c.loop-j.invariant k (omega (arith, lt, other)) differ
  | inl same ↦ elim c.else-j-x.branch [
    | else-j-x-via-then-j-x+else-is_beaten_by w ↦
        subst (λ j. pref_of c.args.roll.now.ballots j c.args.x ≤ pref_of c.args.roll.now.ballots c.args.x j) (sym same)
        (not_less (pref_of c.args.roll.now.ballots c.args.x c.loop-j.j) (pref_of c.args.roll.now.ballots c.loop-j.j c.args.x) w.if-is_beaten_by.ensures.1)
    | else-j-x-via-else-j-x w ↦ absurd (differ (same ∙ w.if-j-x.false))
  ]
]

pub returns : goal.returns
returns c = (
  λ h. (unbeaten_exactly c.args.roll.now.c c.args.x c.args.roll.now.ballots).1 (record {
    level = λ j lt differ. let e = c.candidates-j-end.ensures.value in
        c.loop-j.invariant j (omega (arith, e, lt, c.loop-j-test.false)) differ;
  }),
  λ rows. refl,
)
