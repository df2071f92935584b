-- What becomes of an owner while a part of it is lent for writing.
use Rattle.std.specs.Prelude.{ℕ, List, slice_set}
use Rattle.std.specs.Borrow.{Lends, MutBor, Fml, RattleType}
use Rattle.mov_base.specs.contracts.list.List as list
use Rattle.mov_base.specs.contracts.one.One as one

module _ (T : RattleType) where
  -- what is written through `lent` is the owner's value
  abbrev pub lends_value : MutBor T.Denot → MutBor T.Denot → Fml
  lends_value owner lent = Lends (one.the_row T) T owner lent (λ written. written)

  -- what is written through `lent` stands at this place of the list
  abbrev pub lends_item : MutBor (List T.Denot) → ℕ → MutBor T.Denot → Fml
  lends_item owner place lent = Lends (list.the_row T) T owner lent (slice_set owner.now place)
