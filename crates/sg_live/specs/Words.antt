-- What the words of the command line ask for
use Rattle.std.specs.Prelude.{ℕ, List, [], ◌∷◌, Option, Some, None}
use Rattle.sg_output.specs.Job.{size_of}

-- a session over the specification of that name, in a window of that width and height
pub record Job : Type 0 where
  pub spec : List ℕ
  pub width : ℕ
  pub height : ℕ

-- the job of a window of these sizes, if they are two
abbrev pub sized : List ℕ → Option ℕ → Option ℕ → Option Job
sized name (Some width) (Some height) = Some (record { spec = name; width = width; height = height })
sized name width height = None

-- the job of these words, if they are one; a window that is not named is 80 by 24
abbrev pub job : List (List ℕ) → Option Job
job (name ∷ []) = Some (record { spec = name; width = 80; height = 24 })
job (name ∷ width ∷ height ∷ []) = sized name (size_of width) (size_of height)
job words = None
