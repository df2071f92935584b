-- The answer of a drill is one that the words allow, where no file was begun.
use Rattle.std.proofs.Common.{◌≡◌, ◌⊎◌, ◌∙◌, ℕ, List, ap, inl, inr, sym, subst, arith}
use Rattle.std.specs.Prelude.{Err, Ok}
use Rattle.mov_words.specs.Words.{Reads, meaning}
use Rattle.mov_words.specs.declared.jobs.Job.{Job}
use Rattle.mov_words.specs.declared.jobs.Job.TheVariants.{Drill}
use Rattle.mov_run.specs.Inputs.{Began, Source}
use Rattle.mov_run.specs.Jobs.{Allowed, Answer, AnswersWords, IsDrilled}
use Rattle.mov_run.specs.declared.run_faults.RunFault.TheVariants as run_fault
use Rattle.mov_run.proofs.Shapes.{not_none}

pub drill_allowed : (s : Source) (words : List (List ℕ)) (seed : ℕ) (job : Job) (a : Answer) → Reads words (Ok job) → job ≡ Drill seed → Began s 0 → IsDrilled seed a ⊎ (a ≡ Err run_fault.Memory)
    → Allowed s words a
drill_allowed s words seed job a (inr none) drill begun by = absurd (let e = none.0 in cc)
drill_allowed s words seed job a (inl is) drill begun (inl made) = inl (subst (λ m. AnswersWords s m a) (ap Ok (sym drill) ∙ is) (made, begun))
drill_allowed s words seed job a (inl is) drill begun (inr none) =
    inr ((none, record { count = 0; within = omega arith; begun = begun }), not_none (meaning words) (Drill seed) (sym is ∙ ap Ok drill))
