-- The text of a tree and its lines, at each shape.
use Rattle.std.proofs.Common.{◌≡◌, ℕ, suc, List, [], ◌∷◌, ◌++◌, length, map, refl, sym, ap, ◌∙◌}
use Rattle.std.specs.Prelude.{All}
use Rattle.std.specs.List.{flat_map}
use Rattle.std.proofs.lemmas.List.{append-nil}
use Rattle.std.proofs.lemmas.List.Concat.{flat_map-cons}
use Rattle.std.proofs.lemmas.Grind.{flat_map-append}
use Rattle.std.proofs.lemmas.List.Elements.{All-nil, All-cons, All-head, All-tail}
use Rattle.row_program.specs.declared.Feature.{Feature}
use Rattle.bound_tree.specs.declared.tree.Tree.{Tree}
use Rattle.bound_tree.specs.declared.tree.Tree.TheVariants as program
use Rattle.bound_tree.specs.Plain.{Plain, Kids, Split, Branch, Cut, None, More, kids_of, plain_of}
use Rattle.bound_tree.specs.Lines.{Line, SplitInto, BranchBy, CutWith, kid_count, lines_of, lines_of_all}
use Rattle.bound_tree.proofs.Shapes.{plain_Split, plain_Branch, plain_Cut}
use Rattle.text_lines.specs.Words.{line_text}
use Rattle.cert_text.specs.CertText.{tree_words, tree_text}

abbrev pub one_line : Line → List ℕ
one_line line = line_text (tree_words line)

-- the text of several trees, one after another
abbrev pub kids_text : Kids → List ℕ
kids_text kids = flat_map one_line (lines_of_all kids)

pub text_Split : (kids : Kids) → tree_text (Split kids) ≡ one_line (SplitInto (kid_count kids)) ++ kids_text kids
text_Split kids = flat_map-cons one_line (SplitInto (kid_count kids)) (lines_of_all kids)

pub text_Branch : (f : Feature) (v : ℕ) (low high : Plain) → tree_text (Branch f v low high) ≡ one_line (BranchBy f v) ++ (tree_text low ++ tree_text high)
text_Branch f v low high = flat_map-cons one_line (BranchBy f v) (lines_of low ++ lines_of high) ∙ ap (λ (t : List ℕ). one_line (BranchBy f v) ++ t) (flat_map-append one_line (lines_of low) (lines_of high))

pub text_Cut : (ns : List ℕ) → tree_text (Cut ns) ≡ one_line (CutWith ns)
text_Cut ns = flat_map-cons one_line (CutWith ns) [] ∙ append-nil (one_line (CutWith ns))

pub text_More : (kid : Plain) (kids : Kids) → kids_text (More kid kids) ≡ tree_text kid ++ kids_text kids
text_More kid kids = flat_map-append one_line (lines_of kid) (lines_of_all kids)

-- kids as a list, and back
abbrev pub list_of : Kids → List Plain
list_of None = []
list_of (More kid kids) = kid ∷ list_of kids

pub kids_of_list : (kids : Kids) → kids_of (list_of kids) ≡ kids
kids_of_list None = refl
kids_of_list (More kid kids) = ap (More kid) (kids_of_list kids)

pub count_of_list : (kids : List Plain) → kid_count (kids_of kids) ≡ length kids
count_of_list [] = refl
count_of_list (kid ∷ kids) = ap suc (count_of_list kids)

-- what holds of each of some items and of each of others, holds of all
pub all_left : {X : Type 0} (P : X → Type 0) (xs ys : List X) → All P (xs ++ ys) → All P xs
all_left P [] ys h = All-nil P
all_left P (x ∷ xs) ys h = All-cons P x xs (All-head P x (xs ++ ys) h) (all_left P xs ys (All-tail P x (xs ++ ys) h))

pub all_right : {X : Type 0} (P : X → Type 0) (xs ys : List X) → All P (xs ++ ys) → All P ys
all_right P [] ys h = h
all_right P (x ∷ xs) ys h = all_right P xs ys (All-tail P x (xs ++ ys) h)

-- ---- trees of the program

pub count_of_kids : (kids : List Tree) → kid_count (kids_of (map plain_of kids)) ≡ length kids
count_of_kids [] = refl
count_of_kids (kid ∷ kids) = ap suc (count_of_kids kids)

text_of_kids : (kids : List Tree) → kids_text (kids_of (map plain_of kids)) ≡ flat_map (λ kid. tree_text (plain_of kid)) kids
text_of_kids [] = refl
text_of_kids (kid ∷ kids) =
    text_More (plain_of kid) (kids_of (map plain_of kids))
    ∙ ap (λ (t : List ℕ). tree_text (plain_of kid) ++ t) (text_of_kids kids)
    ∙ sym (flat_map-cons (λ k. tree_text (plain_of k)) kid kids)

pub printed_Split : (kids : List Tree) → tree_text (plain_of (program.Split kids)) ≡ one_line (SplitInto (length kids)) ++ flat_map (λ kid. tree_text (plain_of kid)) kids
printed_Split kids =
    ap tree_text (plain_Split kids)
    ∙ text_Split (kids_of (map plain_of kids))
    ∙ ap (λ n. one_line (SplitInto n) ++ kids_text (kids_of (map plain_of kids))) (count_of_kids kids)
    ∙ ap (λ (t : List ℕ). one_line (SplitInto (length kids)) ++ t) (text_of_kids kids)

pub printed_Branch : (f : Feature) (v : ℕ) (low high : Tree) → tree_text (plain_of (program.Branch f v low high)) ≡ one_line (BranchBy f v) ++ (tree_text (plain_of low) ++ tree_text (plain_of high))
printed_Branch f v low high = ap tree_text (plain_Branch f v low high) ∙ text_Branch f v (plain_of low) (plain_of high)

pub printed_Cut : (ns : List ℕ) → tree_text (plain_of (program.Cut ns)) ≡ one_line (CutWith ns)
printed_Cut ns = ap tree_text (plain_Cut ns) ∙ text_Cut ns
