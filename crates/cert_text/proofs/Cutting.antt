-- The next line of a text.
use Rattle.std.proofs.Common.{◌≡◌, ℕ, ◌+◌, Bool, true, false, cond, eqb, List, [], ◌∷◌, ◌++◌, length, take, drop, Option, Some, None, Result, Ok, Err, refl, sym, ap, ◌∙◌, subst, append_assoc}
use Rattle.std.specs.List.{position}
use Rattle.std.proofs.lemmas.List.{take_at, drop_at, length-append}
use Rattle.text_lines.specs.declared.fault.LineFault.{LineFault}
use Rattle.text_lines.specs.declared.fault.LineFault.TheVariants.{BadLine, BadNumber, Memory}
use Rattle.text_lines.proofs.Joining.{lacks, line_end_at, line_end_is}
use Rattle.cert_text.specs.declared.fault.CertFault.{CertFault}
use Rattle.cert_text.specs.Reading.{◌>>=◌, TextLeft, cut_at, line_at, at_line}

pub bind_ok : {A B : Type 0} (r : Result A CertFault) (f : A → Result B CertFault) (y : B) → (r >>= f) ≡ Ok y → (x : A) × (r ≡ Ok x) × (f x ≡ Ok y)
bind_ok (Ok x) f y e = (x, refl, e)
bind_ok (Err d) f y e = absurd cc

pub guard_ok : {A : Type 0} (b : Bool) (d : CertFault) (r : Result A CertFault) (y : A) → cond b (Err d) r ≡ Ok y → (b ≡ false) × (r ≡ Ok y)
guard_ok true d r y e = absurd cc
guard_ok false d r y e = (refl, e)

abbrev pub done : {A : Type 0} → A → Result A CertFault
done x = Ok x

pub ok_is : {A : Type 0} (x y : A) → done x ≡ done y → x ≡ y
ok_is x y e = cc

pub at_line_ok : {A : Type 0} (n : ℕ) (r : Result A LineFault) (x : A) → at_line n r ≡ Ok x → r ≡ Ok x
at_line_ok n (Ok y) x e = ap (λ z. Ok z) (ok_is y x e)
at_line_ok n (Err BadLine) x e = absurd cc
at_line_ok n (Err BadNumber) x e = absurd cc
at_line_ok n (Err Memory) x e = absurd cc

-- a line that was cut off stands before a line feed
pub cut_takes : (p : TextLeft) (o : Option ℕ) (y : List ℕ × TextLeft) → position (λ b. eqb b 10) p.1 ≡ o → line_at p ≡ Ok y → (p.1 ≡ y.0 ++ 10 ∷ y.1.1) × (y.1.0 ≡ p.0 + 1)
cut_takes p None y at e = absurd (let f : cut_at p None ≡ Ok y = sym (ap (cut_at p) at) ∙ e in cc)
cut_takes p (Some i) y at e =
    let f : cut_at p (Some i) ≡ Ok y = sym (ap (cut_at p) at) ∙ e in
    subst (λ (z : List ℕ × TextLeft). (p.1 ≡ z.0 ++ 10 ∷ z.1.1) × (z.1.0 ≡ p.0 + 1)) (ok_is (take i p.1, (p.0 + 1, drop (i + 1) p.1)) y f) (line_end_is 10 p.1 i at, refl)

-- a line without a line feed is cut off again
pub line_at_again : (n : ℕ) (l rest : List ℕ) → lacks 10 l ≡ true → line_at (n, l ++ 10 ∷ rest) ≡ Ok (l, (n + 1, rest))
line_at_again n l rest h =
    let back : drop (length l + 1) (l ++ 10 ∷ rest) ≡ rest = ap (drop (length l + 1)) (sym (append_assoc l (10 ∷ []) rest)) ∙ drop_at (l ++ 10 ∷ []) rest (length l + 1) (length-append l (10 ∷ [])) in
    ap (cut_at (n, l ++ 10 ∷ rest)) (line_end_at 10 l rest h) ∙ ap (λ (t : List ℕ). Ok (t, (n + 1, drop (length l + 1) (l ++ 10 ∷ rest)))) (take_at l (10 ∷ rest) (length l) refl) ∙ ap (λ (t : List ℕ). Ok (l, (n + 1, t))) back
