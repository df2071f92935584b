use Rattle.cert_text.proofs.Fitting.{fits_halves}
use Rattle.cert_text.proofs.tree_limits.+trees.Goals as goal

pub tree_fits-returns-then-branch_fits : goal.tree_fits-returns-then-branch_fits
tree_fits-returns-then-branch_fits t c = fits_halves c.args.tree.now c.in-Branch.low c.in-Branch.high c.get.result.now c.get-then-branch_fits.result.now c.in-Branch.feature c.in-Branch.value c.halves_fit.result
    c.in-Branch.is c.get.ensures c.get-then-branch_fits.ensures (c.branch_fits.ensures.0 c.if-branch_fits.true) c.halves_fit.ensures
