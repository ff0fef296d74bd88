-- What a journal holds.
use Rattle.std.specs.Prelude.{ℕ, ◌+◌, List, length}
use Rattle.sg_eval.specs.declared.journal.Instance.{Instance}
use Rattle.sg_eval.specs.declared.journal.Journal.{Journal}

-- the entries since the last `begin`, in the order in which they were made
abbrev pub now_of : Journal → List Instance
now_of j = j.0

-- how many entries there were before
abbrev pub total_of : Journal → ℕ
total_of j = j.1

-- how many entries there are in all
abbrev pub counted : Journal → ℕ
counted j = total_of j + length (now_of j)
