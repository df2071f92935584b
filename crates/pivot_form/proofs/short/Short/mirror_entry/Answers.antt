use Rattle.std.proofs.Common.{rules, inl, inr, ⊎_elim}
use Rattle.pivot_form.specs.Shorts.{store_of}
use Rattle.pivot_form.proofs.Shorts.{entry_small, mirror_here, mirror_off}
use Rattle.pivot_form.proofs.short.Short.mirror_entry.Goals as goal

pub returns-else-variable-pair : goal.returns-else-variable-pair
returns-else-variable-pair c =
    let off = mirror_off (store_of c.args.self.now) c.args.basic c.args.pair c.requires.short c.requires.basic c.requires.paired c.requires.pair c.args.slot c.args.variable c.requires.other (search rules) (search rules) in
    search rules

pub returns-then-variable-pair : goal.returns-then-variable-pair
returns-then-variable-pair c =
    let small = entry_small (store_of c.args.self.now) c.args.basic c.args.variable c.requires.short c.requires.basic c.requires.variable in
    let here = mirror_here (store_of c.args.self.now) c.args.basic c.args.pair c.requires.short c.requires.basic c.requires.paired c.requires.pair c.args.slot c.args.variable c.requires.other (⊎_elim (λ e. inl e) (λ e. inr e.1) c.if-variable-pair.either) in
    search rules
