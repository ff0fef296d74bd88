use Rattle.sg_typing.proofs.WantedKnown.{parameters_known, subject_known, wanted_known}
use Rattle.sg_typing.proofs.laws.wanted_types_are_known.Goals as goal

pub returns : goal.returns
returns c = record { equations = wanted_known; functions = parameters_known; transforms = subject_known }
