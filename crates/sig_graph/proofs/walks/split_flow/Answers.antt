use Rattle.std.proofs.Common.{◌≡◌, ◌<◌, ◌≤◌, ℕ, List, All, length, ap, ◌∙◌}
use Rattle.std.proofs.lemmas.List.Elements.{All-same}
use Rattle.std.proofs.lemmas.Result.{IfOk-weaker}
use Rattle.sig_graph.specs.Flows.{flow_at}
use Rattle.sig_graph.specs.Paths.{IsPath}
use Rattle.sig_graph.specs.Walks.{split_of, uses_of}
use Rattle.sig_graph.proofs.Splits.{length-split_of, split_is_paths, split_uses}
use Rattle.sig_graph.proofs.walks.split_flow.Goals as goal

pub returns-clause-number : goal.returns-clause-number
returns-clause-number c =
    IfOk-weaker c.take_walks.result
    (λ (paths : List (List ℕ)). paths ≡ split_of c.args.m c.deref_mut.result.now c.args.total)
    (λ (paths : List (List ℕ)). length paths ≡ c.args.total)
    (λ paths is. ap length is ∙ length-split_of c.args.m c.deref_mut.result.now c.args.total) c.take_walks.ensures

pub returns-clause-paths : goal.returns-clause-paths
returns-clause-paths c =
    IfOk-weaker c.take_walks.result
    (λ (paths : List (List ℕ)). paths ≡ split_of c.args.m c.deref_mut.result.now c.args.total)
    (All (IsPath c.args.m))
    (λ paths is. All-same (IsPath c.args.m) _ _ is
    (split_is_paths c.args.m c.deref_mut.result.now c.args.total)) c.take_walks.ensures

pub returns-clause-uses : goal.returns-clause-uses
returns-clause-uses c =
    let flow = c.deref_mut.ensures.value ∙ c.in_ok-left.ensures.items in
    IfOk-weaker c.take_walks.result
    (λ (paths : List (List ℕ)). paths ≡ split_of c.args.m c.deref_mut.result.now c.args.total)
    (λ (paths : List (List ℕ)). (u x : ℕ) → u < x → x ≤ c.args.m →
    uses_of paths u x ≡ flow_at c.args.m c.args.flow.now u x)
    (λ paths is. rw (is, flow) (split_uses c.args.m c.args.flow.now c.args.total c.requires)) c.take_walks.ensures
