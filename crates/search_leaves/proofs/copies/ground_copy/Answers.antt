use Rattle.search_leaves.proofs.ClassCopies.{counts_small}
use Rattle.search_leaves.proofs.copies.ground_copy.Goals as goal

pub classes_copy-requires : goal.classes_copy-requires
classes_copy-requires c = record { small = counts_small c.args.start.now c.requires }
