-- What the words of the command line ask for
use Rattle.std.specs.Prelude.{ℕ, ◌+◌, ◌*◌, ◌-◌, nat_le, nat_lt, ◌&&◌, List, [], ◌∷◌, Option, Some, None, option_and_then, if◌then◌else◌, codes}
use Rattle.std.specs.Char.{is_ascii_digit}
use Rattle.std.specs.Str.{bytes_eq}

-- to show the first screen of the specification of that name; to tell whether it has a fault; to perform the script of
-- the second name on the specification of the first, in a window of that width and height; to perform the workload of so
-- many statements of the built-in language; to report, by the specification of the first name, the attribute that the
-- third word names of all nodes of the file of the second
pub data Job : Type 0 where
  Show : List ℕ → Job
  Check : List ℕ → Job
  Run : List ℕ → List ℕ → ℕ → ℕ → Job
  Load : ℕ → Job
  Report : List ℕ → List ℕ → List ℕ → Job

-- the number that these digits go on with, up to 1,024
abbrev pub number_from : ℕ → List ℕ → Option ℕ
number_from n [] = if nat_le n 1024 then Some n else None
number_from n (b ∷ bytes) =
    if is_ascii_digit b && nat_le n 1024 then number_from (n * 10 + (b - 48)) bytes else None

-- a width or a height: a number from 1 to 1,024 in decimal digits, of which the first is no 0
abbrev pub size_of : List ℕ → Option ℕ
size_of [] = None
size_of (b ∷ bytes) = if nat_lt 48 b then number_from 0 (b ∷ bytes) else None

-- the workload of so many statements: a number from 1 to 400, written so
abbrev pub most_statements : ℕ
most_statements = 400

abbrev pub load_of : List ℕ → Option Job
load_of word = option_and_then (λ n. if nat_le n most_statements then Some (Load n) else None) (size_of word)

-- the job of a word and a name, or of a word and a number, if they are one
abbrev pub job_of_name : List ℕ → List ℕ → Option Job
job_of_name word name =
    if bytes_eq word (codes "show") then Some (Show name)
    else if bytes_eq word (codes "check") then Some (Check name)
    else if bytes_eq word (codes "load") then load_of name
    else None

-- the job of a script in a window of these sizes, if they are two
abbrev pub sized : List ℕ → List ℕ → Option ℕ → Option ℕ → Option Job
sized name script (Some width) (Some height) = Some (Run name script width height)
sized name script width height = None

-- the name of the specification that the job is done on; the built-in one has none
abbrev pub spec_name : Job → List ℕ
spec_name (Show name) = name
spec_name (Check name) = name
spec_name (Run name script width height) = name
spec_name (Load n) = []
spec_name (Report name file word) = name

-- the job of these words, if they are one; a window that is not named is 80 by 24
abbrev pub job : List (List ℕ) → Option Job
job (word ∷ name ∷ []) = job_of_name word name
job (word ∷ name ∷ script ∷ []) = if bytes_eq word (codes "run") then Some (Run name script 80 24) else None
job (word ∷ name ∷ file ∷ attr ∷ []) = if bytes_eq word (codes "report") then Some (Report name file attr) else None
job (word ∷ name ∷ script ∷ width ∷ height ∷ []) =
    if bytes_eq word (codes "run") then sized name script (size_of width) (size_of height) else None
job words = None
