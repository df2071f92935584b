-- A line that is read by its form is the line that was written, and a line that was written is read again.
use Rattle.std.proofs.Common.{◌≡◌, ℕ, zero, suc, ◌+◌, true, eqb, List, [], ◌∷◌, ◌++◌, length, Result, Ok, refl, sym, ap, ◌∙◌, subst, arith, append_assoc}
use Rattle.std.specs.List.{flat_map, AllByRecursion, position}
use Rattle.std.proofs.lemmas.List.Concat.{flat_map-cons}
use Rattle.std.proofs.lemmas.List.Splits.{join_with_byte-slice_split}
use Rattle.text_lines.specs.Words.{fields_of, line_of}
use Rattle.text_lines.specs.declared.fault.LineFault.{LineFault}
use Rattle.text_lines.proofs.Joining.{ArePlain, lacks, line_lacks, fields_again}
use Rattle.cert_text.specs.Reading.{◌>>=◌, TextLeft, line_at, at_line, form_at, many_at}
use Rattle.cert_text.proofs.Cutting.{bind_ok, at_line_ok, cut_takes, line_at_again, ok_is, done}

-- a form of lines, with the one text of each value
pub record IsForm (A : Type 0) (form : List ℕ → Result A LineFault) (text : A → List ℕ) (Fits : A → Type 0) : Type 0 where
  pub takes : (l : List ℕ) (x : A) → form l ≡ Ok x → (l ≡ text x) × Fits x
  pub again : (x : A) → Fits x → form (text x) ≡ Ok x
  pub unbroken : (x : A) → Fits x → lacks 10 (text x) ≡ true

-- what a line took
pub record TookForm (A : Type 0) (text : A → List ℕ) (Fits : A → Type 0) (p : TextLeft) (y : A × TextLeft) : Type 0 where
  pub spelled : p.1 ≡ (text y.0 ++ 10 ∷ []) ++ y.1.1
  pub number : y.1.0 ≡ p.0 + 1
  pub fits : Fits y.0

pub form_takes : (A : Type 0) (form : List ℕ → Result A LineFault) (text : A → List ℕ) (Fits : A → Type 0) → IsForm A form text Fits → (p : TextLeft) (y : A × TextLeft) → form_at form p ≡ Ok y → TookForm A text Fits p y
form_takes A form text Fits is p y e =
    let a = bind_ok (line_at p) (λ t. at_line p.0 (form t.0) >>= λ x. Ok (x, t.1)) y e in
    let b = bind_ok (at_line p.0 (form a.0.0)) (λ x. Ok (x, a.0.1)) y a.2 in
    let l = cut_takes p (position (λ b. eqb b 10) p.1) a.0 refl a.1 in
    let t = is.takes a.0.0 b.0 (at_line_ok p.0 (form a.0.0) b.0 b.1) in
    let whole : p.1 ≡ (text b.0 ++ 10 ∷ []) ++ a.0.1.1 = l.0 ∙ ap (λ (u : List ℕ). u ++ 10 ∷ a.0.1.1) t.0 ∙ sym (append_assoc (text b.0) (10 ∷ []) a.0.1.1) in
    subst (λ (z : A × TextLeft). TookForm A text Fits p z) (ok_is (b.0, a.0.1) y b.2) (record { spelled = whole; number = l.1; fits = t.1 })

pub form_again : (A : Type 0) (form : List ℕ → Result A LineFault) (text : A → List ℕ) (Fits : A → Type 0) → IsForm A form text Fits → (n : ℕ) (x : A) (rest : List ℕ) → Fits x → form_at form (n, (text x ++ 10 ∷ []) ++ rest) ≡ Ok (x, (n + 1, rest))
form_again A form text Fits is n x rest h =
    ap (λ (t : List ℕ). form_at form (n, t)) (append_assoc (text x) (10 ∷ []) rest)
    ∙ ap (λ r. r >>= λ t. at_line n (form t.0) >>= λ y. Ok (y, t.1)) (line_at_again n (text x) rest (is.unbroken x h))
    ∙ ap (λ r. at_line n r >>= λ y. Ok (y, (n + 1, rest))) (is.again x h)

-- so many lines of one form
pub record TookMany (A : Type 0) (text : A → List ℕ) (Fits : A → Type 0) (m : ℕ) (p : TextLeft) (y : List A × TextLeft) : Type 0 where
  pub spelled : p.1 ≡ flat_map (λ x. text x ++ 10 ∷ []) y.0 ++ y.1.1
  pub number : y.1.0 ≡ p.0 + m
  pub fits : AllByRecursion Fits y.0
  pub count : length y.0 ≡ m

pub many_take : (A : Type 0) (form : List ℕ → Result A LineFault) (text : A → List ℕ) (Fits : A → Type 0) → IsForm A form text Fits → (m : ℕ) (p : TextLeft) (y : List A × TextLeft) → many_at (form_at form) m p ≡ Ok y → TookMany A text Fits m p y
unfolding many_at
many_take A form text Fits is zero p y e = subst (λ (z : List A × TextLeft). TookMany A text Fits zero p z) (ok_is ([], p) y e) (record { spelled = refl; number = omega arith; fits = tt; count = refl })
many_take A form text Fits is (suc m) p y e =
    let a = bind_ok (form_at form p) (λ x. many_at (form_at form) m x.1 >>= λ xs. Ok (x.0 ∷ xs.0, xs.1)) y e in
    let b = bind_ok (many_at (form_at form) m a.0.1) (λ xs. Ok (a.0.0 ∷ xs.0, xs.1)) y a.2 in
    let one = form_takes A form text Fits is p a.0 a.1 in
    let all = many_take A form text Fits is m a.0.1 b.0 b.1 in
    let f : A → List ℕ = λ x. text x ++ 10 ∷ [] in
    let spelled : p.1 ≡ flat_map f (a.0.0 ∷ b.0.0) ++ b.0.1.1 = one.spelled ∙ ap (λ (u : List ℕ). f a.0.0 ++ u) all.spelled ∙ sym (append_assoc (f a.0.0) (flat_map f b.0.0) b.0.1.1) ∙ ap (λ (u : List ℕ). u ++ b.0.1.1) (sym (flat_map-cons f a.0.0 b.0.0)) in
    subst (λ (z : List A × TextLeft). TookMany A text Fits (suc m) p z) (ok_is (a.0.0 ∷ b.0.0, b.0.1) y b.2) (record { spelled = spelled; number = omega (arith, one.number, all.number); fits = (one.fits, all.fits); count = ap suc all.count })

pub many_again : (A : Type 0) (form : List ℕ → Result A LineFault) (text : A → List ℕ) (Fits : A → Type 0) → IsForm A form text Fits → (xs : List A) (n : ℕ) (rest : List ℕ) → AllByRecursion Fits xs
    → many_at (form_at form) (length xs) (n, flat_map (λ x. text x ++ 10 ∷ []) xs ++ rest) ≡ Ok (xs, (n + length xs, rest))
unfolding many_at
many_again A form text Fits is [] n rest h = ap (λ (k : ℕ). done (let none : List A = [] in none, (k, rest))) (omega arith)
many_again A form text Fits is (x ∷ xs) n rest h =
    let f : A → List ℕ = λ y. text y ++ 10 ∷ [] in
    let regrouped : flat_map f (x ∷ xs) ++ rest ≡ f x ++ (flat_map f xs ++ rest) = ap (λ (u : List ℕ). u ++ rest) (flat_map-cons f x xs) ∙ append_assoc (f x) (flat_map f xs) rest in
    ap (λ (u : List ℕ). many_at (form_at form) (suc (length xs)) (n, u)) regrouped
    ∙ ap (λ r. r >>= λ y. many_at (form_at form) (length xs) y.1 >>= λ ys. Ok (y.0 ∷ ys.0, ys.1)) (form_again A form text Fits is n x (flat_map f xs ++ rest) h.0)
    ∙ ap (λ r. r >>= λ ys. Ok (x ∷ ys.0, ys.1)) (many_again A form text Fits is xs (n + 1) rest h.1)
    ∙ ap (λ (k : ℕ). done (x ∷ xs, (k, rest))) (omega arith)

-- a form of fields is a form of lines
pub record IsFieldForm (A : Type 0) (form : List (List ℕ) → Result A LineFault) (words : A → List (List ℕ)) (Fits : A → Type 0) : Type 0 where
  pub takes : (fields : List (List ℕ)) (x : A) → form fields ≡ Ok x → (fields ≡ words x) × Fits x
  pub again : (x : A) → Fits x → form (words x) ≡ Ok x
  pub plain : (x : A) → Fits x → ArePlain (words x)
  pub some : (x : A) → (w : List ℕ) × (ws : List (List ℕ)) × (words x ≡ w ∷ ws)

cut_again : (w : List ℕ) (ws fields : List (List ℕ)) → fields ≡ w ∷ ws → ArePlain fields → fields_of (line_of fields) ≡ fields
cut_again w ws fields e h = subst (λ fs. ArePlain fs → fields_of (line_of fs) ≡ fs) (sym e) (fields_again w ws) h

pub line_form : (A : Type 0) (form : List (List ℕ) → Result A LineFault) (words : A → List (List ℕ)) (Fits : A → Type 0) → IsFieldForm A form words Fits → IsForm A (λ l. form (fields_of l)) (λ x. line_of (words x)) Fits
line_form A form words Fits is = record {
  takes = λ l x e. (let t = is.takes (fields_of l) x e in (sym (join_with_byte-slice_split 32 l) ∙ ap line_of t.0, t.1));
  again = λ x h. (let s = is.some x in ap form (cut_again s.0 s.1 (words x) s.2 (is.plain x h)) ∙ is.again x h);
  unbroken = λ x h. line_lacks (words x) (is.plain x h);
}
