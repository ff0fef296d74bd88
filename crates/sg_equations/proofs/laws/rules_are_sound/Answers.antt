use Rattle.sg_equations.proofs.RulesSound.{rules_sound, handed_there}
use Rattle.sg_equations.proofs.laws.rules_are_sound.Goals as goal

pub returns-clause-sound : goal.returns-clause-sound
returns-clause-sound c = rules_sound

pub returns-clause-handed : goal.returns-clause-handed
returns-clause-handed c = handed_there
