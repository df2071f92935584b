use Rattle.tree_proofs.proofs.Refuted.{refuted}
use Rattle.tree_proofs.proofs.laws.a_proved_tree_rules_out_shorter_alterations.Goals as goal

pub returns : goal.returns
returns c = λ e t tree met changes lawful proved ok short complete holds. refuted e t changes met ok short holds complete lawful tree proved
