-- How a list carries a type that holds itself: by the values of its vector, in order.
use mathlib.Core.Path.{◌≡◌, refl, sym}
use mathlib.Core.List.{List, []}
use mathlib.Core.Former.{Former, this, list, via, children}
use base.Stored.{code_map}
use denote.RattleType.{RattleType}
use denote.Hole.Carrier.{listed, list-listed}
use denote.Hole.Fix.{over}
use denote.HoleLaws.{Alike}
use denote.HolePlaces.{Recodes, struct_places, laid}
use denote.Model.Placed.{view_places}
use denote.Param.Weighed.{Weighed, w_list}
use Rattle.std.specs.declared.alloc.Global.{Global}
use Rattle.std.specs.contracts.alloc.Global as global
use Rattle.std.specs.contracts.impls.GlobalAllocator.TheImpl as allocator
use Rattle.std.specs.formers.vec.Vec as vector
use Rattle.mov_base.specs.declared.list.List.TheInside.{Inside}
use Rattle.mov_base.specs.declared.list.List.TheView as seen
use Rattle.mov_base.specs.contracts.list.List as owner
use Rattle.mov_base.specs.contracts.list.List.TheInside as within

-- what is seen is a list of values: its shape is a list of their shapes
abbrev pub the_former : Former {0} → Former {0}
the_former held = list held

-- and it weighs what the heaviest of them weighs
abbrev pub the_weighed : {held : Former {0}} → Weighed held → Weighed (the_former held)
the_weighed weighed = w_list weighed

-- the empty list needs no value
abbrev pub the_empty : List ⊥
the_empty = []

-- the values that are held, as a list
abbrev pub the_items : (X : Type 0) → List X → List X
the_items X values = values

pub the_items_listed : (X : Type 0) (values : List X) → listed _ (children (the_former this) X values) ≡ the_items X values
the_items_listed X values = list-listed X values

-- the one field of the struct holds what its vector holds
abbrev inside : Former {0}
inside = via (vector.the_former this Global) Inside (λ X own. own.items) (λ X items. record { items = items }) (λ X own. refl) (λ X items. refl)

module _ (R R' : RattleType) (h : R.Denot → R'.Denot) where
  -- lists of values that are laid out alike are laid out alike, since the view shows each value of the vector, in order
  pub the_places : Alike R R' h → Alike (owner.the_row R) (owner.the_row R') ((the_former this).map R.Denot R'.Denot h)
  the_places alike =
      view_places inside (list this) seen.view (λ X Y k own. refl) (λ X own. refl)
      R.Denot R'.Denot h (owner.the_row R).coded (owner.the_row R').coded
      (seen.invariant R.Denot) (seen.invariant R'.Denot) (λ own p q. refl) (λ own p q. refl) (λ own holds. tt) (λ own holds. tt)
      (over (within.the_row R)) (over (within.the_row R'))
      (struct_places (within.the_type R) (within.the_type R') (vector.mapped h, tt) _ (λ own. refl) refl
      (laid _ _ _ (vector.the_places global.the_row allocator.ghosts R R' h alike), tt))

  -- and the code of a list is made from the codes of its items
  pub the_codes_placed : Recodes R R' h → Recodes (owner.the_row R) (owner.the_row R') ((the_former this).map R.Denot R'.Denot h)
  the_codes_placed recodes values = sym (code_map R.coded.code R'.coded.code h (λ value. sym (recodes value)) values)
