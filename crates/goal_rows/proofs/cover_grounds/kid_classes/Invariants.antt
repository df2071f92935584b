use Rattle.std.proofs.Common.{◌≡◌, [], map, take}
use Rattle.std.specs.Prelude.{nat_eq}
use Rattle.signature_class.specs.Classes.{add_all}
use Rattle.goal_rows.specs.LongerKeys.{class_behind}
use Rattle.goal_rows.proofs.cover_grounds.kid_classes.Given as goal

abbrev pub invariant-loop-kind : goal.invariant-loop-kind
invariant-loop-kind l = l.classes ≡ add_all nat_eq [] (map (class_behind l.z) (take l.kind-index l.told))
