-- What the words ask for, as a job
use Rattle.std.specs.Prelude.{◌≤◌, ℕ}
use Rattle.sg_live.specs.declared.words.Asked.{Asked}
use Rattle.sg_live.specs.Words.{Job}

abbrev pub job_of : Asked → Job
job_of asked = record { spec = asked.spec.now; width = asked.width; height = asked.height }

-- a window has 1 to 1,024 columns and lines
pub record IsWindow (width height : ℕ) : Type 0 where
  pub least : (1 ≤ width) × (1 ≤ height)
  pub most : (width ≤ 1024) × (height ≤ 1024)
