use Rattle.std.proofs.Common.{◌≡◌, ◌++◌, ◌∷◌, [], ◌≤◌, ◌+◌, map, ap, ◌∙◌}
use Rattle.std.proofs.lemmas.Result.{err_from_is_err_and}
use Rattle.std.proofs.lemmas.List.{map-append}
use Rattle.bound_tree.specs.Plain.{plain_of}
use Rattle.cert_text.specs.TreeReading.{node_at}
use Rattle.cert_text.specs.Reading.{many_at}
use Rattle.cert_text.proofs.Growing.{goes_on, ends, is_done}
use Rattle.cert_text.proofs.tree_read.+nodes.Goals as goal
use Rattle.bound_tree.specs.declared.bound.TheConstants.{MOST_NODES}

pub read_kids-returns-in_err-kid-clause-nodes : goal.read_kids-returns-in_err-kid-clause-nodes
read_kids-returns-in_err-kid-clause-nodes t c =
    let p = err_from_is_err_and c.from_residual.result c.from_residual.ensures.1 in
    rw (p.1, p.2) (ends (node_at c.args.left c.args.first) c.in_err-kid.field-0.0 (map plain_of c.loop.kids) c.args.count c.loop.counter (c.loop.reader.number, c.loop.reader.rest.now)
    (many_at (node_at c.args.left c.args.first) c.args.count (c.args.reader.now.number, c.args.reader.now.rest.now)) c.loop-test.true c.in_err-kid.ensures.node c.loop.invariant.read)

pub read_kids-loop-preserved : goal.read_kids-loop-preserved
read_kids-loop-preserved t c =
    let e : map plain_of c.push.new.self ≡ map plain_of c.loop.kids ++ plain_of c.in_ok-kid.kid ∷ [] = ap (map plain_of) c.in_ok-push.ensures.ok ∙ map-append plain_of c.loop.kids (c.in_ok-kid.kid ∷ []) in
    let below : c.read_node.new.reader.number ≤ c.args.first + MOST_NODES = c.in_ok-kid.ensures.number in
    record {
      read = rw e (goes_on (node_at c.args.left c.args.first) (map plain_of c.loop.kids) c.args.count c.loop.counter (c.loop.reader.number, c.loop.reader.rest.now) (plain_of c.in_ok-kid.kid) (c.read_node.new.reader.number, c.read_node.new.reader.rest.now)
          (many_at (node_at c.args.left c.args.first) c.args.count (c.args.reader.now.number, c.args.reader.now.rest.now)) c.loop-test.true c.in_ok-kid.ensures.node c.loop.invariant.read);
      number = below;
    }

pub read_kids-returns-clause-nodes : goal.read_kids-returns-clause-nodes
read_kids-returns-clause-nodes t c = is_done (node_at c.args.left c.args.first) (map plain_of c.loop.kids) c.args.count c.loop.counter (c.loop.reader.number, c.loop.reader.rest.now)
    (many_at (node_at c.args.left c.args.first) c.args.count (c.args.reader.now.number, c.args.reader.now.rest.now)) c.loop-test.false c.loop.invariant.read
