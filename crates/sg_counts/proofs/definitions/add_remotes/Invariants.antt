use Rattle.std.proofs.Common.{◌≡◌, ◌++◌, take}
use Rattle.std.specs.List.{flat_map}
use Rattle.sg_ast.specs.Remotes.{remotes_seen}
use Rattle.sg_counts.specs.Duplicates.{remote_defined}
use Rattle.sg_counts.specs.DefinitionsView.{seen_of}
use Rattle.sg_counts.proofs.definitions.add_remotes.Given as goal

abbrev pub invariant-loop-remote : goal.invariant-loop-remote
invariant-loop-remote l = seen_of l.found.items ≡ seen_of l.initial.found.items ++ flat_map remote_defined (remotes_seen (take l.remote-index l.remote-items))
