use Rattle.signature_class.proofs.Counts.{classes_by_kinds, keys_are_classes, kinds_are_classes}
use Rattle.signature_class.proofs.laws.classes_are_counted.Goals as goal

pub returns-clause-kinds : goal.returns-clause-kinds
returns-clause-kinds c = kinds_are_classes

pub returns-clause-keys : goal.returns-clause-keys
returns-clause-keys c = keys_are_classes

pub returns-clause-by_kinds : goal.returns-clause-by_kinds
returns-clause-by_kinds c = classes_by_kinds
