-- A shelf in memory whose calls fail at given numbers
use Rattle.std.specs.Prelude.{◌≡◌, ◌⊎◌, ◌+◌, ℕ, List, None, Contains, refl}
use Rattle.std.specs.FinMap.{get}
use Rattle.std.specs.Coded.{Coded, code_by, coded×, coded_ℕ, coded_list}
use Rattle.sg_outside.specs.Count.{Calls, raised}
use Rattle.sg_outside.specs.Shelf.{Files, files_code}

-- its calls are numbered from 1
pub record NumberedShelf : Type 0 where
  pub files : Files
  -- the numbers of the calls that fail
  pub fails : List ℕ
  -- the calls that there were
  pub calls : Calls
  -- how many of them failed
  pub faults : ℕ

-- it is stored as the pairs of its parts
abbrev pub numbered_shelf_code : Coded NumberedShelf
numbered_shelf_code =
    code_by ((Files × List ℕ) × ((ℕ × ℕ) × ℕ)) (coded× (coded× files_code (coded_list coded_ℕ)) (coded× (coded× coded_ℕ coded_ℕ) coded_ℕ))
    (λ s. ((s.files, s.fails), ((s.calls.answered, s.calls.unanswered), s.faults)))
    (λ p. record { files = p.0.0; fails = p.0.1; calls = record { answered = p.1.0.0; unanswered = p.1.0.1 }; faults = p.1.1 }) (λ _. refl)

-- the number of the next call, which counts all calls, is listed
abbrev pub IsDue : NumberedShelf → Type 0
IsDue shelf = Contains shelf.fails (raised (shelf.calls.answered + shelf.calls.unanswered))

-- the next call, where it fetches that name, fails
abbrev pub FailsFetch : NumberedShelf → List ℕ → Type 0
FailsFetch shelf name = IsDue shelf ⊎ (get shelf.files name ≡ None)
