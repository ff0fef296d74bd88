use Rattle.sg_typing.proofs.ArgsTyped.{args_typed}
use Rattle.sg_typing.proofs.laws.arguments_have_types.Goals as goal

pub returns : goal.returns
returns c = args_typed
