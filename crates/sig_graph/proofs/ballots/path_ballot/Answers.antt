use Rattle.std.proofs.Common.{ap, ◌∙◌, sym, subst, arith}
use Rattle.ballot_form.specs.Ballots.{IsValidBallot}
use Rattle.signature_class.specs.Signatures.{signature_of}
use Rattle.sig_graph.proofs.PathBallots.{ballot_is_valid, ballot_is_whole, candidate_within, next_is_new, signature-ballot}
use Rattle.sig_graph.proofs.ballots.path_ballot.Goals as goal

pub overflow_sub-from : goal.overflow_sub-from
overflow_sub-from c =
    let h = candidate_within _ c.args.path.now c.loop-place.place-index c.requires.path c.loop-place-test.true in
    omega (arith, h, c.from.ensures)

pub bounds-suffix-from : goal.bounds-suffix-from
bounds-suffix-from c =
    let h = candidate_within _ c.args.path.now c.loop-place.place-index c.requires.path c.loop-place-test.true in
    omega (arith, h, c.from.ensures)

pub push-requires : goal.push-requires
push-requires c =
    rw (c.loop-place.invariant, c.from.ensures)
    (next_is_new c.args.suffix.now c.args.path.now c.loop-place.place-index c.requires.distinct c.requires.path
    c.loop-place-test.true)

pub returns-clause-signature : goal.returns-clause-signature
returns-clause-signature c =
    ap (signature_of c.args.suffix.now) (ballot_is_whole _ _ _ _ c.loop-place.invariant c.loop-place-test.false)
    ∙ signature-ballot c.args.suffix.now c.args.path.now c.requires.distinct c.requires.path

pub returns-clause-valid : goal.returns-clause-valid
returns-clause-valid c = λ c' below.
    subst (IsValidBallot c') (sym (ballot_is_whole _ _ _ _ c.loop-place.invariant c.loop-place-test.false))
    (ballot_is_valid c' c.args.suffix.now c.args.path.now c.requires.distinct c.requires.path below)
