use Rattle.std.proofs.Common.{ℕ, List, ◌≡◌, ◌++◌}
use Rattle.signature_class.specs.Signatures.{places_key, signature_of}
use Rattle.signature_class.proofs.keys.suffix_key.Given as goal

abbrev pub invariant-loop-place : goal.invariant-loop-place
invariant-loop-place l = (done : List ℕ) × (done ++ l.place-iterator ≡ signature_of l.suffix l.row) × (l.key ≡ places_key done)
