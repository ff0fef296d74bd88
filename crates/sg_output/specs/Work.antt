-- What the job of a workload tells
use Rattle.std.specs.Prelude.{◌≡◌, ◌⊎◌, ℕ, List, [], ◌∷◌, Some}
use Rattle.sg_kinds.specs.declared.spec.Spec.{Spec}
use Rattle.sg_workload.specs.Loads.{work, work_line}
use Rattle.sg_output.specs.declared.status.Status.{Status}
use Rattle.sg_output.specs.declared.status.Status.TheVariants.{Done, Memory}
use Rattle.sg_output.specs.Output.{Output}
use Rattle.sg_output.specs.Judged.{judged}
use Rattle.sg_output.specs.Reading.{Reading, AreTheLines}
use Rattle.sg_outside.specs.Sink.{SinkState}

-- one block, for which so many equations are evaluated, ends the run
abbrev pub told_once : List ℕ → ℕ → Output
told_once block ev = record { blocks = block ∷ []; evs = ev ∷ []; status = Some Done; requests = []; taken = 0 }

-- the line of a workload of n statements, unless the built-in language has a fault
abbrev pub work_told : ℕ → Reading → Output
work_told n r = judged r.verdict (λ (spec : Spec). told_once (work_line spec r.readers n) (work spec r.readers n))

-- memory was wanting before there was a verdict, and nothing was written or evaluated
pub record Unopened (status : Status) (old new : SinkState) (n m : ℕ) : Type 0 where
  pub memory : status ≡ Memory
  pub sink : new ≡ old
  pub counted : m ≡ n

abbrev pub AreKnownLines : Status → SinkState → SinkState → ℕ → ℕ → Type 0
AreKnownLines status old new n m = ((r : Reading) × AreTheLines r) ⊎ Unopened status old new n m
