-- Lines of certificates as they are written.
use Rattle.std.proofs.Common.{◌≡◌, ℕ, List, [], ◌∷◌, ◌++◌, length, map, sym, ap, ◌∙◌, append_assoc}
use Rattle.std.specs.Prelude.{codes, decimal}
use Rattle.std.specs.List.{flat_map}
use Rattle.row_program.specs.declared.Feature.{Feature}
use Rattle.bound_tree.specs.declared.tree.Tree.{Tree}
use Rattle.bound_tree.specs.declared.tree.Tree.TheVariants as program
use Rattle.bound_tree.specs.Plain.{plain_of}
use Rattle.bound_tree.specs.Lines.{SplitInto, BranchBy}
use Rattle.text_lines.specs.Words.{line_text}
use Rattle.text_lines.proofs.Writing.{after_three, line_by_spaces, list_done}
use Rattle.cert_text.specs.declared.cert.Stop.{Stop}
use Rattle.cert_text.specs.declared.cert.Stop.TheVariants.{Budget, Depth}
use Rattle.cert_text.specs.CertText.{stop_words, tree_text}
use Rattle.cert_text.proofs.Shapes.{one_line, printed_Split, printed_Branch}

-- two bounds, and then why the search stopped
abbrev pub stop_rest : Stop → List ℕ
stop_rest (Budget nodes) = line_text (codes " budget" ∷ decimal nodes ∷ [])
stop_rest Depth = line_text (codes " depth" ∷ [])

bounds_spaced : (l u y : List ℕ) → (codes "bounds" ++ 32 ∷ (l ++ 32 ∷ (u ++ y))) ++ 10 ∷ [] ≡ codes "bounds" ++ ((32 ∷ l) ++ ((32 ∷ u) ++ (y ++ 10 ∷ [])))
bounds_spaced l u y =
    ap (λ (t : List ℕ). codes "bounds" ++ 32 ∷ t) (append_assoc l (32 ∷ (u ++ y)) (10 ∷ []) ∙ ap (λ (t : List ℕ). l ++ 32 ∷ t) (append_assoc u y (10 ∷ [])))

pub bounds_text : (low up : ℕ) (stop : Stop) → line_text (codes "bounds" ∷ decimal low ∷ decimal up ∷ stop_words stop) ≡ codes "bounds" ++ ((32 ∷ decimal low) ++ ((32 ∷ decimal up) ++ stop_rest stop))
bounds_text low up (Budget nodes) = bounds_spaced (decimal low) (decimal up) (codes " budget" ++ 32 ∷ decimal nodes)
bounds_text low up Depth = bounds_spaced (decimal low) (decimal up) (codes " depth")

pub order_line : (ns : List ℕ) → line_text (codes "goal order" ∷ map decimal ns) ≡ line_text (codes "goal" ∷ codes "order" ∷ map decimal ns)
order_line ns =
    ap (λ (t : List ℕ). t ++ 10 ∷ []) (line_by_spaces (codes "goal order") (map decimal ns))
    ∙ ap (λ (t : List ℕ). (codes "goal" ++ 32 ∷ t) ++ 10 ∷ []) (sym (line_by_spaces (codes "order") (map decimal ns)))

pub put_done : (out a b d e : List ℕ) (n : ℕ) (ns : List ℕ) → a ≡ out ++ codes "put" → b ≡ a ++ 32 ∷ decimal n → d ≡ b ++ flat_map (λ m. 32 ∷ decimal m) ns → e ≡ d ++ 10 ∷ []
    → e ≡ out ++ line_text (codes "put" ∷ decimal n ∷ map decimal ns)
put_done out a b d e n ns p q r s =
    let head : b ≡ out ++ (codes "put" ++ 32 ∷ decimal n) = q ∙ ap (λ (t : List ℕ). t ++ 32 ∷ decimal n) p ∙ append_assoc out (codes "put") (32 ∷ decimal n) in
    list_done decimal out (codes "put" ++ 32 ∷ decimal n) b d e ns head r s
    ∙ ap (λ (t : List ℕ). out ++ (t ++ 10 ∷ [])) (line_by_spaces (codes "put" ++ 32 ∷ decimal n) (map decimal ns))
    ∙ ap (λ (t : List ℕ). out ++ ((codes "put" ++ 32 ∷ t) ++ 10 ∷ [])) (sym (line_by_spaces (decimal n) (map decimal ns)))

-- ---- trees

pub split_done : (out a b : List ℕ) (t : Tree) (kids lent : List Tree) (n : ℕ) → t ≡ program.Split kids → lent ≡ kids → n ≡ length kids → a ≡ out ++ one_line (SplitInto n) → b ≡ a ++ flat_map (λ k. tree_text (plain_of k)) lent
    → b ≡ out ++ tree_text (plain_of t)
split_done out a b t kids lent n is same count p q =
    q ∙ ap (λ (x : List ℕ). x ++ flat_map (λ k. tree_text (plain_of k)) lent) p ∙ append_assoc out (one_line (SplitInto n)) (flat_map (λ k. tree_text (plain_of k)) lent)
    ∙ ap (λ k. out ++ (one_line (SplitInto k) ++ flat_map (λ kid. tree_text (plain_of kid)) lent)) count
    ∙ ap (λ ks. out ++ (one_line (SplitInto (length kids)) ++ flat_map (λ kid. tree_text (plain_of kid)) ks)) same
    ∙ ap (λ (x : List ℕ). out ++ x) (sym (printed_Split kids)) ∙ ap (λ x. out ++ tree_text (plain_of x)) (sym is)

pub branch_done : (out a b d : List ℕ) (t : Tree) (f : Feature) (v : ℕ) (lower higher low high : Tree) → t ≡ program.Branch f v lower higher → low ≡ lower → high ≡ higher
    → a ≡ out ++ one_line (BranchBy f v) → b ≡ a ++ tree_text (plain_of low) → d ≡ b ++ tree_text (plain_of high) → d ≡ out ++ tree_text (plain_of t)
branch_done out a b d t f v lower higher low high is same same' p q r =
    after_three out (one_line (BranchBy f v)) (tree_text (plain_of low)) (tree_text (plain_of high)) a b d p q r
    ∙ ap (λ x. out ++ (one_line (BranchBy f v) ++ (tree_text (plain_of x) ++ tree_text (plain_of high)))) same
    ∙ ap (λ x. out ++ (one_line (BranchBy f v) ++ (tree_text (plain_of lower) ++ tree_text (plain_of x)))) same'
    ∙ ap (λ (x : List ℕ). out ++ x) (sym (printed_Branch f v lower higher)) ∙ ap (λ x. out ++ tree_text (plain_of x)) (sym is)
