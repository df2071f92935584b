-- Texts that are added in pieces, and where memory runs out between two.
use Rattle.std.proofs.Common.{ℕ, List, ◌∷◌, ◌++◌, ◌≡◌, ◌<◌, ◌≤◌, ◌+◌, length, take, drop, get_or, ap, sym, subst, ◌∙◌, arith, append-nil, append_assoc, length-append}
use Rattle.std.specs.Prelude.{Result, Ok, Err, OnErr}
use Rattle.std.specs.List.{flat_map}
use Rattle.std.proofs.lemmas.Grind.{flat_map-append}
use Rattle.std.proofs.lemmas.List.{take-append-drop, take-append-le, drop_more}
use Rattle.std.proofs.lemmas.List.Concat.{flat_map-cons}
use Rattle.std.proofs.Math.Seq.{take-append-add}
use Rattle.text_lines.specs.Written.{AddedFirst}

-- nothing was added
pub none_added : (old new text : List ℕ) → new ≡ old → AddedFirst old new text
none_added old new text e = (0, omega arith, e ∙ sym (append-nil old))

-- a first part of the first piece is one of both
pub first_cut : (old new a b : List ℕ) → AddedFirst old new a → AddedFirst old new (a ++ b)
first_cut old new a b p =
    let le : p.0 ≤ length a = p.1 in
    (p.0, simp length-append (omega arith), rw take-append-le p.2)

-- the first piece and a first part of the second are one of both
pub second_cut : (old mid new a b : List ℕ) → mid ≡ old ++ a → AddedFirst mid new b → AddedFirst old new (a ++ b)
second_cut old mid new a b e q =
    let le : q.0 ≤ length b = q.1 in
    (length a + q.0, simp length-append (omega arith), rw take-append-add (q.2 ∙ ap (λ (t : List ℕ). t ++ take q.0 b) e ∙ append_assoc old a (take q.0 b)))

-- the first piece, and nothing of the second
pub first_added : (old mid new a b : List ℕ) → mid ≡ old ++ a → new ≡ mid → AddedFirst old new (a ++ b)
first_added old mid new a b e f = second_cut old mid new a b e (none_added mid new b f)

-- two pieces make one
pub both_added : (old mid new a b : List ℕ) → mid ≡ old ++ a → new ≡ mid ++ b → new ≡ old ++ (a ++ b)
both_added old mid new a b e f = f ∙ ap (λ (t : List ℕ). t ++ b) e ∙ append_assoc old a b

-- what is added for each item of a list: for those before one, for it, and for those behind it
around : {X : Type 0} (f : X → List ℕ) (xs : List X) (i : ℕ) (x : X) → i < length xs → get_or xs i x ≡ x → flat_map f xs ≡ flat_map f (take i xs) ++ (f x ++ flat_map f (drop (i + 1) xs))
around f xs i x within item =
    ap (flat_map f) (sym (take-append-drop i xs) ∙ ap (λ (ys : List _). take i xs ++ ys) (drop_more xs i x within ∙ ap (λ y. y ∷ drop (i + 1) xs) item))
    ∙ flat_map-append f (take i xs) (x ∷ drop (i + 1) xs)
    ∙ ap (λ (t : List ℕ). flat_map f (take i xs) ++ t) (flat_map-cons f x (drop (i + 1) xs))

-- all was added for the items before one, and a first part for it
pub item_cut : {X : Type 0} (f : X → List ℕ) (xs : List X) (i : ℕ) (x : X) (old mid new : List ℕ) → i < length xs → get_or xs i x ≡ x → mid ≡ old ++ flat_map f (take i xs) → AddedFirst mid new (f x)
    → AddedFirst old new (flat_map f xs)
item_cut f xs i x old mid new within item e p =
    subst (λ (t : List ℕ). AddedFirst old new t) (sym (around f xs i x within item)) (second_cut old mid new (flat_map f (take i xs)) _ e (first_cut mid new (f x) (flat_map f (drop (i + 1) xs)) p))

-- what holds, holds after a fault
pub on_err : {T E P : Type 0} (r : Result T E) → P → OnErr r P
on_err (Ok x) p = tt
on_err (Err e) p = p
