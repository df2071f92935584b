-- How `One` carries a type that holds itself: by the value in its box.
use mathlib.Core.Path.{refl}
use mathlib.Core.Former.{Former, this, const, pair, via}
use base.Fml.{ftrue}
use base.Stored.{gnil}
use denote.RattleType.{RattleType}
use denote.RawPtr.{Ptr}
use denote.Memory.{part_of}
use denote.Sharing.{nothing}
use denote.Hole.Fix.{over}
use denote.HoleLaws.{Alike}
use denote.HolePlaces.{Recodes, struct_places, laid, one_value}
use denote.Model.Placed.{view_places}
use denote.Param.Weighed.{Weighed}
use Rattle.std.specs.declared.alloc.Global.{Global}
use Rattle.std.specs.declared.boxed.Box.{Box}
use Rattle.std.specs.contracts.alloc.Global as global
use Rattle.std.specs.contracts.boxed.Box as boxed
use Rattle.std.specs.contracts.impls.GlobalAllocator.TheImpl as allocator
use Rattle.mov_base.specs.declared.one.One.TheInside.{Inside}
use Rattle.mov_base.specs.declared.one.One.TheView as seen
use Rattle.mov_base.specs.contracts.one.One as owner
use Rattle.mov_base.specs.contracts.one.One.TheInside as within

-- what is seen is one value
abbrev pub the_former : Former {0} → Former {0}
the_former held = held

-- and it weighs what that value weighs
abbrev pub the_weighed : {held : Former {0}} → Weighed held → Weighed (the_former held)
the_weighed weighed = weighed

-- the one field of the struct is a box: its address and allocator are the shape, its value is what is held
abbrev inside : Former {0}
inside =
    via (pair (const (Ptr × Global)) this) Inside (λ X one. ((one.held.ptr, one.held.alloc), one.held.value))
    (λ X parts. record { held = record { ptr = parts.0.0; alloc = parts.0.1; value = parts.1 } }) (λ X one. refl) (λ X parts. refl)

-- the same box with another value in it
abbrev refilled : {X Y : Type 0} → (X → Y) → Box X Global → Box Y Global
refilled h b = record { ptr = b.ptr; alloc = b.alloc; value = h b.value }

-- a box of values of a type, over the global allocator
abbrev box_row : RattleType → RattleType
box_row R = boxed.the_row R global.the_row allocator.ghosts

module _ (R R' : RattleType) (h : R.Denot → R'.Denot) where
  -- boxes of values that are laid out alike are laid out alike
  box_places : Alike R R' h → Alike (box_row R) (box_row R') (refilled h)
  unfolding part_of
  box_places alike = record {
    mir_same = λ i. (box_row (one_value R (alike.mir_same i) (λ _. ftrue) (λ _ _. nothing) gnil)).mir;
    own_same = λ b i. (box_row (one_value R (alike.mir_same i) (alike.own_same b.value i) (alike.shr_same b.value i) gnil)).own_val (refilled (λ _. tt) b);
    shr_same = λ b i. (box_row (one_value R (alike.mir_same i) (alike.own_same b.value i) (alike.shr_same b.value i) gnil)).shr_at (refilled (λ _. tt) b);
  }

  -- so are their owners, since the view shows the box's value
  pub the_places : Alike R R' h → Alike (owner.the_row R) (owner.the_row R') ((the_former this).map R.Denot R'.Denot h)
  the_places alike =
      view_places inside this seen.view (λ X Y k one. refl) (λ X one. refl)
      R.Denot R'.Denot h (owner.the_row R).coded (owner.the_row R').coded
      (seen.invariant R.Denot) (seen.invariant R'.Denot) (λ one p q. refl) (λ one p q. refl) (λ one holds. tt) (λ one holds. tt)
      (over (within.the_row R)) (over (within.the_row R'))
      (struct_places (within.the_type R) (within.the_type R') (refilled h, tt) _ (λ one. refl) refl (laid _ _ _ (box_places alike), tt))

  -- and their code is that of the value
  pub the_codes_placed : Recodes R R' h → Recodes (owner.the_row R) (owner.the_row R') ((the_former this).map R.Denot R'.Denot h)
  the_codes_placed recodes value = recodes value
