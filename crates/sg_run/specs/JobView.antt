-- A job of the program as the job of its words
use Rattle.std.specs.Prelude.{◌≤◌, ℕ, ⊤}
use Rattle.sg_run.specs.declared.words.Job.{Job as Words}
use Rattle.sg_run.specs.declared.words.Job.TheVariants as words
use Rattle.sg_output.specs.Job.{Job}
use Rattle.sg_output.specs.Job.Job.{Show, Check, Run, Load, Report}

abbrev pub job_of : Words → Job
job_of (words.Show name) = Show name.now
job_of (words.Check name) = Check name.now
job_of (words.Run name script width height) = Run name.now script.now width height
job_of (words.Load count) = Load count
job_of (words.Report name file word) = Report name.now file.now word.now

-- the window of a job, if it has one, has 1 to 1,024 columns and rows, and a workload at most 400 statements
pub record IsWindow (width height : ℕ) : Type 0 where
  pub least : (1 ≤ width) × (1 ≤ height)
  pub most : (width ≤ 1024) × (height ≤ 1024)

abbrev pub HasWindow : Words → Type 0
HasWindow (words.Show name) = ⊤
HasWindow (words.Check name) = ⊤
HasWindow (words.Run name script width height) = IsWindow width height
HasWindow (words.Load count) = count ≤ 400
HasWindow (words.Report name file word) = ⊤
