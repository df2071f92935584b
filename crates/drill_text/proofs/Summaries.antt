-- The five lines of a drill together.
use Rattle.std.proofs.Common.{ℕ, List, [], ◌∷◌, ◌++◌, ◌≡◌, ◌∙◌, Bool, false, refl, sym, ap, append_assoc}
use Rattle.std.specs.Prelude.{◌||◌}
use Rattle.std.proofs.lemmas.List.{append-nil}
use Rattle.ballot_form.specs.declared.rule.Rule.{Rule}
use Rattle.ballot_form.specs.declared.rule.Rule.TheVariants.{Plurality, Borda, Condorcet, Dhondt, Irv}
use Rattle.drill_text.specs.Drills.{IsDrill, IsLineFor, drill_head}
use Rattle.drill_text.specs.declared.limits.TheConstants.{DRILL_SEATS}

-- a line of the rule was added
abbrev pub Adds : ℕ → Rule → Bool → List ℕ → List ℕ → Type 0
Adds seed rule stopped old new = (line : List ℕ) × IsLineFor seed rule line stopped × (new ≡ old ++ line)

joined : (h a b c d e : List ℕ) → ((((h ++ a) ++ b) ++ c) ++ d) ++ e ≡ h ++ (a ++ (b ++ (c ++ (d ++ (e ++ [])))))
joined h a b c d e =
    append_assoc (((h ++ a) ++ b) ++ c) d e ∙ append_assoc ((h ++ a) ++ b) c (d ++ e) ∙ append_assoc (h ++ a) b (c ++ (d ++ e)) ∙ append_assoc h a (b ++ (c ++ (d ++ e)))
    ∙ ap (λ (t : List ℕ). h ++ (a ++ (b ++ (c ++ (d ++ t))))) (sym (append-nil e))

pub summary : (seed : ℕ) (h s t u v y : List ℕ) (stopped p q r w x : Bool) → h ≡ drill_head seed → Adds seed Plurality p h s → Adds seed Borda q s t → Adds seed Condorcet r t u
    → Adds seed (Dhondt DRILL_SEATS) w u v → Adds seed Irv x v y → stopped ≡ (p || (q || (r || (w || (x || false))))) → IsDrill seed y stopped
summary seed h s t u v y stopped p q r w x head one two three four five some = record {
  lines = one.0 ++ (two.0 ++ (three.0 ++ (four.0 ++ (five.0 ++ []))));
  whole = whole;
  each = (
    one.0,
    p,
    two.0 ++ (three.0 ++ (four.0 ++ (five.0 ++ []))),
    (q || (r || (w || (x || false)))),
    one.1,
    (
      two.0,
      q,
      three.0 ++ (four.0 ++ (five.0 ++ [])),
      (r || (w || (x || false))),
      two.1,
      (
        three.0,
        r,
        four.0 ++ (five.0 ++ []),
        (w || (x || false)),
        three.1,
        (
          four.0,
          w,
          five.0 ++ [],
          (x || false),
          four.1,
          (five.0, x, [], false, five.1, (refl, refl), refl, refl),
          refl,
          refl,
        ),
        refl,
        refl,
      ),
      refl,
      refl,
    ),
    refl,
    some,
  );
}
  where
    whole : y ≡ drill_head seed ++ (one.0 ++ (two.0 ++ (three.0 ++ (four.0 ++ (five.0 ++ [])))))
    whole =
        five.2 ∙ ap (λ (z : List ℕ). z ++ five.0) (four.2 ∙ ap (λ (z : List ℕ). z ++ four.0) (three.2 ∙ ap (λ (z : List ℕ). z ++ three.0)
        (two.2 ∙ ap (λ (z : List ℕ). z ++ two.0) (one.2 ∙ ap (λ (z : List ℕ). z ++ one.0) head))))
        ∙ joined (drill_head seed) one.0 two.0 three.0 four.0 five.0
