-- Truth values among what stands for values.
use Rattle.std.specs.Prelude.{Bool, true, false, Option, Some, None}
use Rattle.sg_eval.specs.declared.live.Live.{Live}
use Rattle.sg_eval.specs.declared.live.Live.TheVariants as live

-- what stands for a truth value
abbrev pub live_truth : Bool → Live
live_truth false = live.False
live_truth true = live.True

-- the truth value that it stands for, if it does for one
abbrev pub truth_of : Live → Option Bool
truth_of live.False = Some false
truth_of live.True = Some true
truth_of l = None
