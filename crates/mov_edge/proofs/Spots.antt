-- Where files in memory are read, and what a read gives there.
use Rattle.std.proofs.Common.{ℕ, zero, suc, List, [], ◌∷◌, ◌++◌, ◌≡◌, ◌<◌, ◌≤◌, ◌+◌, ◌-◌, length, take, drop, Some, None, Option, Bool, true, false, cond, min, map, refl, sym, ap, ◌∙◌, arith, slice_get, length-take, length-drop, length-append, subst, get_or}
use Rattle.std.proofs.lemmas.List.{drop-drop, drop_all, take-append-drop}
use Rattle.std.proofs.lemmas.Option.{same_Some}
use Rattle.std.specs.Prelude.{bytes_eq, string_bytes}
use Rattle.std.proofs.lemmas.Slice.Eq.{bytes_eq-Decides}
use Rattle.std.proofs.Math.Seq.{take-append_seam}
use Rattle.mov_edge.specs.declared.mem_files.File.{File}
use Rattle.mov_edge.specs.Outside.{Named, Place, GivesNext, file_of}
use Rattle.mov_edge.specs.declared.mem_files.Spot.{Spot}
use Rattle.mov_edge.specs.Held.{IsWithin, place_of, named}

-- an item of a list stands at the same number in a longer one
get_append : {X : Type 0} (xs ys : List X) (i : ℕ) (x : X) → slice_get xs i ≡ Some x → slice_get (xs ++ ys) i ≡ Some x
get_append [] ys i x e = cc
get_append (a ∷ xs) ys zero x e = e
get_append (a ∷ xs) ys (suc i) x e = get_append xs ys i x e

past : {X : Type 0} (t : Bool) (a r s : Option X) (b : X) → (r ≡ Some b → s ≡ Some b) → cond t a r ≡ Some b → cond t a s ≡ Some b
past true a r s b f e = e
past false a r s b f e = f e

-- a file that is found is found among more files too
file_append : (name : List ℕ) (xs ys : List Named) (b : List ℕ) → file_of name xs ≡ Some b → file_of name (xs ++ ys) ≡ Some b
file_append name [] ys b e = cc
file_append name (f ∷ xs) ys b e = past (bytes_eq name f.name) (Some f.bytes) (file_of name xs) (file_of name (xs ++ ys)) b (file_append name xs ys b) e

pub within_append : (xs ys : List Named) (s : Option Spot) → IsWithin xs s → IsWithin (xs ++ ys) s
within_append xs ys None w = tt
within_append xs ys (Some o) w = (w.0, get_append xs ys o.file w.0 w.1, w.2, file_append w.0.name xs ys w.0.bytes w.3)

pub place_append : (xs ys : List Named) (s : Option Spot) → IsWithin xs s → place_of (xs ++ ys) s ≡ place_of xs s
place_append xs ys None w = refl
place_append xs ys (Some o) w = rw (w.1) (rw (get_append xs ys o.file w.0 w.1) refl)

-- a copy of the next n bytes, at the start of the buffer
gives_next : (bytes buf copied : List ℕ) (given n step : ℕ) → given ≤ length bytes → n ≡ min (min (length bytes - given) (length buf)) step → 1 ≤ step → copied ≡ take n (drop given bytes) → GivesNext bytes given n (copied ++ drop n buf)
gives_next bytes buf copied given n step within is some copy =
    let len : length copied ≡ n = rw copy (simp (length-take, length-drop) (omega arith)) in
    let seam : take n (copied ++ drop n buf) ≡ copied = subst (λ k. take k (copied ++ drop n buf) ≡ copied) len (take-append_seam copied (drop n buf)) in
    let rest : drop (given + n) bytes ≡ drop n (drop given bytes) = sym (drop-drop n given bytes) in
    record {
      next = rw (seam, copy, rest) (sym (take-append-drop n (drop given bytes)));
      ended = λ none room. drop_all given bytes (let r : 0 < length copied + (length buf - n) = simp (length-append, length-drop) at room in omega arith);
    }

-- the place that a spot at this file stands for
spot_place : (files : List Named) (s : Spot) (f : Named) (p : Place) → slice_get files s.file ≡ Some f → place_of files (Some s) ≡ Some p → record { name = f.name; given = s.given } ≡ p
spot_place files s f p g e = same_Some _ _ (rw g at e)

-- the file at a number, as its name and bytes
named_at : (xs : List File) (i : ℕ) (x : File) (f : Named) → slice_get (map named xs) i ≡ Some f → x ≡ get_or xs i x → named x ≡ f
named_at [] i x f g e = cc
named_at (y ∷ xs) zero x f g e = rw e (same_Some _ _ g)
named_at (y ∷ xs) (suc i) x f g e = named_at xs i x f g e

-- the file that is read at a spot: how many of its bytes were given, and which bytes it has
spot_file : (items : List File) (s : Spot) (p : Place) (bytes : List ℕ) (x : File) → IsWithin (map named items) (Some s) → x ≡ get_or items s.file x → place_of (map named items) (Some s) ≡ Some p → file_of p.name (map named items) ≡ Some bytes → (s.given ≡ p.given) × (x.bytes.items ≡ bytes)
spot_file items s p bytes x w at place tells =
    let same = named_at items s.file x w.0 w.1 at in
    let spot = spot_place (map named items) s w.0 p w.1 place in
    let by : x.bytes.items ≡ w.0.bytes = ap (λ (f : Named). f.bytes) same in
    let name : w.0.name ≡ p.name = ap (λ (q : Place). q.name) spot in
    (ap (λ (q : Place). q.given) spot, by ∙ same_Some _ _ (sym w.3 ∙ (rw name tells)))

-- a read at a spot gives the next bytes
pub read_gives : (items : List File) (s : Spot) (p : Place) (bytes buf copied : List ℕ) (n step : ℕ) (x : File) → IsWithin (map named items) (Some s) → x ≡ get_or items s.file x → place_of (map named items) (Some s) ≡ Some p → file_of p.name (map named items) ≡ Some bytes → n ≡ min (min (length x.bytes.items - s.given) (length buf)) step → 1 ≤ step → copied ≡ take n (drop s.given x.bytes.items) → GivesNext bytes p.given n (copied ++ drop n buf)
read_gives items s p bytes buf copied n step x w at place tells is some copy =
    let here = spot_file items s p bytes x w at place tells in
    let room : s.given ≤ length x.bytes.items = rw (ap (λ (f : Named). f.bytes) (named_at items s.file x w.0 w.1 at)) w.2 in
    let r = gives_next x.bytes.items buf copied s.given n step room is some copy in
    subst (λ k. GivesNext bytes k n (copied ++ drop n buf)) here.0 (subst (λ b. GivesNext b s.given n (copied ++ drop n buf)) here.1 r)

head_at : (xs : List File) (i : ℕ) (x : File) → i < length xs → x ≡ get_or xs i x → drop i xs ≡ x ∷ drop (i + 1) xs
head_at [] i x within at = absurd (omega arith)
head_at (y ∷ xs) zero x within at = rw at refl
head_at (y ∷ xs) (suc i) x within at = let e : suc i + 1 ≡ suc (i + 1) = omega arith in rw e (head_at xs i x (omega arith) at)

get_at : (xs : List File) (i : ℕ) (x : File) → i < length xs → x ≡ get_or xs i x → slice_get (map named xs) i ≡ Some (named x)
get_at [] i x within at = absurd (omega arith)
get_at (y ∷ xs) zero x within at = rw at refl
get_at (y ∷ xs) (suc i) x within at = get_at xs i x (omega arith) at

-- the name is this file's, and no file before it has it
pub found : (xs : List File) (name : List ℕ) (i : ℕ) (x : File) → i < length xs → x ≡ get_or xs i x → file_of name (map named xs) ≡ file_of name (map named (drop i xs)) → bytes_eq name (string_bytes x.name) ≡ true → (f : Named) × (slice_get (map named xs) i ≡ Some f) × (f.name ≡ name) × (file_of name (map named xs) ≡ Some f.bytes)
found xs name i x within at so same =
    (named x, get_at xs i x within at, sym ((bytes_eq-Decides name (string_bytes x.name)).0 same), so ∙ rw (head_at xs i x within at) (rw same refl))

-- the name isn't this file's, nor one's before it
pub passed : (xs : List File) (name : List ℕ) (i : ℕ) (x : File) → i < length xs → x ≡ get_or xs i x → file_of name (map named xs) ≡ file_of name (map named (drop i xs)) → bytes_eq name (string_bytes x.name) ≡ false → file_of name (map named xs) ≡ file_of name (map named (drop (i + 1) xs))
passed xs name i x within at so differ = so ∙ rw (head_at xs i x within at) (rw differ refl)
