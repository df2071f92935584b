use Rattle.std.proofs.Common.{refl, w64}
use Rattle.std.proofs.lemmas.Nat.Bits.{bit_at_clear_same, bit_at_clear_other}
use Rattle.irv_count.proofs.standing.without.Goals as goal

pub returns-clause-others : goal.returns-clause-others
returns-clause-others c y fits other = let e = bit_at_clear_other w64 c.args.standing c.args.x c.requires y fits other in rw e refl

pub returns-clause-gone : goal.returns-clause-gone
returns-clause-gone c = let e = bit_at_clear_same w64 c.args.standing c.args.x c.requires in rw e refl
