use Rattle.std.proofs.Common.{ℕ, List, [], ◌∷◌, ◌++◌, ◌≡◌, ◌⊎◌, ◌∙◌, ap, sym, refl, inl, inr, append_assoc, append-nil}
use Rattle.std.specs.List.{zip}
use Rattle.std.specs.Iterator.Adapters.{zip_first, zip_second}
use Rattle.std.specs.Slice.Iter.{iter_rest}
use Rattle.std.proofs.lemmas.List.{map-append}
use Rattle.std.proofs.lemmas.Slice.Zip.{Zip-more, either_empty_from_Zip}
use Rattle.alteration_model.specs.Faults.{pairs_of}
use Rattle.alteration_model.specs.declared.puts.Put.{Put}
use Rattle.witness_build.proofs.from_points.puts_of.Goals as goal

-- one put more
joined : (puts more : List Put) (put : Put) (number : ℕ) (ballot : List ℕ) (numbers old_numbers : List ℕ) (ballots old_ballots : List (List ℕ)) (all : List (ℕ × List ℕ))
    → more ≡ puts ++ put ∷ [] → put.number ≡ number → put.ballot ≡ ballot → old_numbers ≡ number ∷ numbers → old_ballots ≡ ballot ∷ ballots
    → pairs_of puts ++ zip old_numbers old_ballots ≡ all → pairs_of more ++ zip numbers ballots ≡ all
joined puts more put number ballot numbers old_numbers ballots old_ballots all added number_is ballot_is first second so_far =
    ap (λ ps. pairs_of ps ++ zip numbers ballots) added
    ∙ ap (λ cs. cs ++ zip numbers ballots) (map-append (λ (put : Put). (put.number, put.ballot)) puts (put ∷ []))
    ∙ append_assoc (pairs_of puts) ((put.number, put.ballot) ∷ []) (zip numbers ballots)
    ∙ ap (λ n. pairs_of puts ++ (n, put.ballot) ∷ zip numbers ballots) number_is
    ∙ ap (λ b. pairs_of puts ++ (number, b) ∷ zip numbers ballots) ballot_is
    ∙ ap (λ ns. pairs_of puts ++ zip ns (ballot ∷ ballots)) (sym first)
    ∙ ap (λ bs. pairs_of puts ++ zip old_numbers bs) (sym second)
    ∙ so_far

nothing_behind : {A B : Type 0} (xs : List A) (ys : List B) → (xs ≡ []) ⊎ (ys ≡ []) → zip xs ys ≡ []
nothing_behind xs ys (inl none) = ap (λ zs. zip zs ys) none
nothing_behind [] ys (inr none) = refl
nothing_behind (x ∷ xs) ys (inr none) = ap (zip (x ∷ xs)) none

pub loop-number-preserved : goal.loop-number-preserved
loop-number-preserved c =
    let rest = Zip-more c.loop-number.number-iterator c.next.new.self c.next.result (c.in-Some.number, c.in-Some.ballot) c.in-Some.is c.next.ensures.steps in
    joined c.loop-number.puts.items c.push.new.self.items _ c.in-Some.number.now c.in-Some.ballot.now _ _ _ _ _ c.in_ok-push.ensures.items refl
    c.in_ok-copy.ensures rest.0 rest.1 c.loop-number.invariant

pub returns : goal.returns
returns c =
    let s = c.loop-number.number-iterator in
    let none = nothing_behind (iter_rest (zip_first s)) (iter_rest (zip_second s)) (either_empty_from_Zip s c.next.new.self c.next.result c.in-None.is c.next.ensures.steps) in
    sym (append-nil (pairs_of c.loop-number.puts.items)) ∙ ap (λ cs. pairs_of c.loop-number.puts.items ++ cs) (sym none) ∙ c.loop-number.invariant
