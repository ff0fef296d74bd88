-- What a shelf of files is
use Rattle.std.specs.Prelude.{◌≡◌, ℕ, ◌≤◌, List, length, take, map, reverse, string_bytes, String, Vec, [], unwrap_or, Some, Option}
use Rattle.std.specs.Ordering.{nat_cmp}
use Rattle.std.specs.Cmp.Lexicographic.{slice_cmp}
use Rattle.std.specs.Option.{option_map}
use Rattle.std.specs.Coded.{Coded, coded_ℕ, coded_list}
use Rattle.std.specs.FinMap.{FinMap, get, insert, from_entries, code}
use Rattle.sg_outside.specs.Count.{Calls}

-- from the bytes of a name to the bytes of its file
abbrev pub Files : Type 0
Files = FinMap (slice_cmp nat_cmp) (List ℕ)

-- a map of files is stored as the list of its entries
abbrev pub files_code : Coded Files
files_code = code (coded_list coded_ℕ) (coded_list coded_ℕ)

-- the files of these pairs of a name and its bytes; of several pairs with one name the last counts
abbrev pub files_from : {Y Z : Type 0} → List (String Y × Vec ℕ Z) → Files
files_from pairs = from_entries (reverse (map (λ p. (string_bytes p.0, p.1.items)) pairs))

-- the first `most` bytes of the file of that name, where there is one
abbrev pub front_of : Files → List ℕ → ℕ → Option (List ℕ)
front_of files name most = option_map (take most) (get files name)

-- the same, and where there is none the bytes of the empty file
abbrev pub front_or_empty : Files → List ℕ → ℕ → List ℕ
front_or_empty files name most = take most (unwrap_or (get files name) [])

-- what is known of the files of a shelf: nothing; the files, where there are no others; or the files, where each other
-- name reads as the empty file
pub data KnownFiles : Type 0 where
  Unknown : KnownFiles
  Exactly : Files → KnownFiles
  OrEmpty : Files → KnownFiles

-- what is known of a shelf: its files, its count of failures, and how many of its calls were answered and how many not
pub record ShelfState : Type 0 where
  pub files : KnownFiles
  pub faults : ℕ
  pub calls : Option Calls

-- what a fetch may answer: where the files are known, the front of that file, and else any `most` bytes or fewer
abbrev pub Fetches : KnownFiles → List ℕ → ℕ → List ℕ → Type 0
Fetches Unknown name most bytes = length bytes ≤ most
Fetches (Exactly files) name most bytes = front_of files name most ≡ Some bytes
Fetches (OrEmpty files) name most bytes = bytes ≡ front_or_empty files name most

-- the files after a file was put in the place of the one of its name, where they are known
abbrev pub kept : KnownFiles → List ℕ → List ℕ → KnownFiles
kept Unknown name bytes = Unknown
kept (Exactly files) name bytes = Exactly (insert files name bytes)
kept (OrEmpty files) name bytes = OrEmpty (insert files name bytes)
