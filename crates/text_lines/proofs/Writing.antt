-- Lines as they are written: a word, and then each field behind a space.
use Rattle.std.proofs.Common.{◌≡◌, ℕ, List, [], ◌∷◌, ◌++◌, map, refl, sym, ap, ◌∙◌, append_assoc}
use Rattle.std.specs.List.{flat_map}
use Rattle.std.proofs.lemmas.List.{append-nil}
use Rattle.std.proofs.lemmas.List.Concat.{flat_map-cons}
use Rattle.text_lines.specs.Words.{line_of, line_text}

-- a line is its first field, and each other behind a space
pub line_by_spaces : (w : List ℕ) (ws : List (List ℕ)) → line_of (w ∷ ws) ≡ w ++ flat_map (λ v. 32 ∷ v) ws
line_by_spaces w [] = sym (append-nil w)
line_by_spaces w (v ∷ vs) = ap (λ (t : List ℕ). w ++ 32 ∷ t) (line_by_spaces v vs) ∙ ap (λ (t : List ℕ). w ++ t) (sym (flat_map-cons (λ v. 32 ∷ v) v vs))

spaced : {X : Type 0} (text : X → List ℕ) (ns : List X) → flat_map (λ v. 32 ∷ v) (map text ns) ≡ flat_map (λ n. 32 ∷ text n) ns
spaced text [] = refl
spaced text (n ∷ ns) = flat_map-cons (λ v. 32 ∷ v) (text n) (map text ns) ∙ ap (λ (t : List ℕ). (32 ∷ text n) ++ t) (spaced text ns) ∙ sym (flat_map-cons (λ m. 32 ∷ text m) n ns)

-- a field, and then numbers
numbers_spelled : {X : Type 0} (text : X → List ℕ) (w : List ℕ) (ns : List X) → line_of (w ∷ map text ns) ≡ w ++ flat_map (λ n. 32 ∷ text n) ns
numbers_spelled text w ns = line_by_spaces w (map text ns) ∙ ap (λ (t : List ℕ). w ++ t) (spaced text ns)

pub list_text : {X : Type 0} (text : X → List ℕ) (w : List ℕ) (ns : List X) → line_text (w ∷ map text ns) ≡ (w ++ flat_map (λ n. 32 ∷ text n) ns) ++ 10 ∷ []
list_text text w ns = ap (λ (t : List ℕ). t ++ 10 ∷ []) (numbers_spelled text w ns)

-- what three pushes leave
pub after_three : (out w f z a b e : List ℕ) → a ≡ out ++ w → b ≡ a ++ f → e ≡ b ++ z → e ≡ out ++ (w ++ (f ++ z))
after_three out w f z a b e p q r = r ∙ ap (λ (t : List ℕ). t ++ z) (q ∙ ap (λ (t : List ℕ). t ++ f) p) ∙ append_assoc (out ++ w) f z ∙ append_assoc out w (f ++ z)

pub list_done : {X : Type 0} (text : X → List ℕ) (out w a b e : List ℕ) (ns : List X) → a ≡ out ++ w → b ≡ a ++ flat_map (λ n. 32 ∷ text n) ns → e ≡ b ++ 10 ∷ [] → e ≡ out ++ line_text (w ∷ map text ns)
list_done text out w a b e ns p q r =
    after_three out w (flat_map (λ n. 32 ∷ text n) ns) (10 ∷ []) a b e p q r
    ∙ ap (λ (t : List ℕ). out ++ t) (sym (append_assoc w (flat_map (λ n. 32 ∷ text n) ns) (10 ∷ [])))
    ∙ ap (λ (t : List ℕ). out ++ (t ++ 10 ∷ [])) (sym (numbers_spelled text w ns))
