use Rattle.signature_class.proofs.Covers.{cover_tells_over, cover_tells_under}
use Rattle.signature_class.proofs.laws.a_cover_key_tells_the_preferences.Goals as goal

pub returns-clause-over : goal.returns-clause-over
returns-clause-over c = cover_tells_over

pub returns-clause-under : goal.returns-clause-under
returns-clause-under c = cover_tells_under
